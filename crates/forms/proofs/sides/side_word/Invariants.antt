-- `forms::sides::side_word` meets its contract: the sum so far with what is left of the row makes the word. Assumes nothing.
use Rattle.forms.specs.Sides.{check_of}
use Rattle.forms.proofs.FormWords.{SideLeft}
use Rattle.forms.proofs.sides.side_word.Given as goal

abbrev pub invariant-loop-q : goal.invariant-loop-q
invariant-loop-q l = SideLeft l.n l.forms (check_of l.check) l.v l.side l.q-index
