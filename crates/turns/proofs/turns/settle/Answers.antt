-- `turns::turns::settle` meets its contract. Assumes nothing.
use native.Mathlib.Omega.{arith}
use Rattle.scans.specs.Half.{rows_of}
use Rattle.turns.specs.Lent.{working}
use Rattle.turns.proofs.Turning.{closed_by, follows_not, follows_renewed, settled}
use Rattle.turns.proofs.turns.settle.Goals as goal

pub returns-then-weighed-clause-settled : goal.returns-then-weighed-clause-settled
returns-then-weighed-clause-settled c =
    let room = c.requires.room in
    let closed = closed_by _ (rows_of c.args.half.now) (working c.args.lists.now) _ _ _ _ _ room c.requires.unsettled.below c.close_rows-taken.ensures in
    settled _ _ (working c.args.lists.now) _ _ _ _ _ _ _ room c.requires.unsettled c.requires.settles _ closed
    (follows_renewed _ _ _ _ _ _ (record { size = room.size; few = room.few; last = room.last; long = omega (arith, room.work, closed.work_long) }) c.renew.ensures)

pub returns-else-weighed-clause-settled : goal.returns-else-weighed-clause-settled
returns-else-weighed-clause-settled c =
    let room = c.requires.room in
    let closed = closed_by _ (rows_of c.args.half.now) (working c.args.lists.now) _ _ _ _ _ room c.requires.unsettled.below c.close_rows-taken.ensures in
    settled _ _ (working c.args.lists.now) _ _ _ _ _ _ _ room c.requires.unsettled c.requires.settles _ closed (follows_not _ _ _ _ _ c.if-weighed.false)
