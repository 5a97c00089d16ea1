-- `trying::try_turns` meets its contract. Assumes nothing.
use mathlib.Core.Path.{sym, ◌∙◌}
use native.Mathlib.Omega.{arith}
use Rattle.trying.proofs.Reopening.{tries_unknown}
use Rattle.trying.proofs.Trying.{enough_room}
use Rattle.trying.proofs.try_turns.Goals as goal

pub tried-told-requires : goal.tried-told-requires
tried-told-requires c = enough_room _ _ _ (sym c.is_enough.ensures ∙ c.if-not-is_enough.false)

pub reopen-requires : goal.reopen-requires
reopen-requires c = omega (arith, (enough_room _ _ _ (sym c.is_enough.ensures ∙ c.if-not-is_enough.false)).marks, c.tried-told.ensures.tried.stays.marks_long)

pub returns-in-Unknown-clause-tries : goal.returns-in-Unknown-clause-tries
returns-in-Unknown-clause-tries c = rw c.in-Unknown.is (tries_unknown _ _ _ _ _ (sym c.is_enough.ensures ∙ c.if-not-is_enough.false) _ _ c.tried-told.ensures.tried _ c.reopen.ensures)
