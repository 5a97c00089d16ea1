-- `forms::sides::side_word` meets its contract: the sum so far with what is left of the row makes the word. Assumes nothing.
use Rattle.forms.proofs.FormWords.{side_start, side_turn, side_end}
use borrow.Author.Rules.{rules}
use Rattle.forms.proofs.sides.side_word.Goals as goal

pub loop-q-init : goal.loop-q-init
loop-q-init c = side_start _ _ _ _ _ _ (search rules)

pub loop-q-preserved : goal.loop-q-preserved
loop-q-preserved c = side_turn _ _ _ _ _ _ _ c.loop-q.invariant _ c.requires.0 (search rules) c.word_of-side.ensures

pub returns : goal.returns
returns c = side_end _ _ _ _ _ _ _ c.loop-q.invariant (search rules)
