-- `forms::replacing::move_down` meets its contract: the first q forms are done. Assumes nothing.
use Rattle.forms.specs.Changes.{Changed, moving_down}
use Rattle.forms.proofs.replacing.move_down.Given as goal

abbrev pub invariant-loop-q : goal.invariant-loop-q
invariant-loop-q l = Changed l.q (moving_down l.u) l.initial.forms l.forms
