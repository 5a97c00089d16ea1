-- `closing::take_up_if` meets its contract. Assumes nothing.
use Rattle.closing.proofs.TakingRows.{row_taken, row_left}
use Rattle.closing.proofs.take_up_if.Goals as goal

pub returns-then-not-closed : goal.returns-then-not-closed
returns-then-not-closed c = row_left _ _ _ c.args.half.now.lit.now _ _ _ _ c.if-not-closed.true

pub returns : goal.returns
returns c = row_taken _ _ _ c.args.half.now.lit.now _ _ _ _ c.if-not-closed.false _ c.row.ensures _ _ c.take_up.ensures
