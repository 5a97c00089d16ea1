-- `guessing::weigh` meets its contract. Assumes nothing.
use Rattle.scans.specs.Half.{rows_of}
use Rattle.guessing.proofs.Room.{weigh_room, weighs_made, weighs_not}
use Rattle.guessing.proofs.weigh.Goals as goal

pub weigh_rows-requires : goal.weigh_rows-requires
weigh_rows-requires c = weigh_room _ (rows_of c.args.half.now) c.args.work.now _ c.can_weigh.ensures c.if-can_weigh.true

pub returns-then-can_weigh : goal.returns-then-can_weigh
returns-then-can_weigh c = weighs_made _ (rows_of c.args.half.now) c.args.work.now _ c.can_weigh.ensures c.if-can_weigh.true _ c.weigh_rows.ensures

pub returns-else-can_weigh : goal.returns-else-can_weigh
returns-else-can_weigh c = weighs_not _ (rows_of c.args.half.now) c.args.work.now _ c.can_weigh.ensures c.if-can_weigh.false
