-- `guessing::renew` meets its contract. Assumes nothing.
use Rattle.scans.specs.Half.{rows_of}
use Rattle.guessing.proofs.Room.{weigh_room, renews_made, renews_not}
use Rattle.guessing.proofs.renew.Goals as goal

pub renew_rows-requires : goal.renew_rows-requires
renew_rows-requires c = weigh_room _ (rows_of c.args.half.now) c.args.work.now _ c.can_weigh.ensures c.if-can_weigh.true

pub returns-then-can_weigh : goal.returns-then-can_weigh
returns-then-can_weigh c = renews_made _ (rows_of c.args.half.now) c.args.work.now _ c.can_weigh.ensures c.if-can_weigh.true _ _ c.renew_rows.ensures

pub returns-else-can_weigh : goal.returns-else-can_weigh
returns-else-can_weigh c = renews_not _ (rows_of c.args.half.now) c.args.work.now _ c.can_weigh.ensures c.if-can_weigh.false _
