-- `lines::put_answer` meets its contract. Assumes nothing.
use Rattle.lines.proofs.Lengths.{lined, lines_most}
use borrow.Author.Rules.{rules}
use mathlib.Core.Path.{sym, ◌∙◌}
use Rattle.lines.proofs.put_answer.Goals as goal

pub returns : goal.returns
returns c = lined _ _ _ _ (sym c.if-not-has_room.false ∙ c.has_room.ensures ∙ rw c.room_for.ensures) (lines_most _ _ _ _ _ c.ranges.n.fits) (search rules)
