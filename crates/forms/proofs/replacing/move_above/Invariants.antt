-- `forms::replacing::move_above` meets its contract: the words up to word u have moved. Assumes nothing.
use Rattle.forms.specs.Changes.{Changed, moved_to}
use Rattle.forms.proofs.replacing.move_above.Given as goal

abbrev pub invariant-loop-u : goal.invariant-loop-u
invariant-loop-u l = Changed l.n (moved_to l.v l.u) l.initial.forms l.forms
