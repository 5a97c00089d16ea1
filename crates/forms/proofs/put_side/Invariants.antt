-- `forms::put_side` meets its contract: the first v words are those of the side. Assumes nothing.
use Rattle.forms.specs.Words.{side_in}
use Rattle.forms.specs.Changes.{WordsPut}
use Rattle.forms.specs.Sides.{check_of}
use Rattle.forms.proofs.put_side.Given as goal

abbrev pub invariant-loop-v : goal.invariant-loop-v
invariant-loop-v l = WordsPut l.qubit l.v (side_in l.n l.initial.forms (check_of l.check)) l.initial.forms l.forms
