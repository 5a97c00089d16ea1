-- `forms::replacing::add_below` meets its contract: the words below word u are added. Assumes nothing.
use Rattle.forms.specs.Words.{side_in}
use Rattle.forms.specs.Changes.{Changed, adding_below}
use Rattle.forms.specs.Sides.{check_of}
use Rattle.forms.proofs.replacing.add_below.Given as goal

abbrev pub invariant-loop-u : goal.invariant-loop-u
invariant-loop-u l = Changed l.n (adding_below l.v l.k l.u (side_in l.n l.initial.forms (check_of l.check))) l.initial.forms l.forms
