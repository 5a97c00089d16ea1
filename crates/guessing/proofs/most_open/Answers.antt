-- `guessing::most_open` meets its contract. Assumes nothing.
use Rattle.guessing.proofs.Room.{name_room, named, unnamed}
use Rattle.guessing.proofs.most_open.Goals as goal

pub most-requires : goal.most-requires
most-requires c = name_room _ c.args.marks.now c.args.work.now _ c.can_name.ensures c.if-can_name.true

pub returns-then-can_name : goal.returns-then-can_name
returns-then-can_name c = named _ c.args.marks.now c.args.work.now _ c.can_name.ensures c.if-can_name.true _ c.most.ensures

pub returns : goal.returns
returns c = unnamed _ c.args.marks.now c.args.work.now _ c.can_name.ensures c.if-can_name.false
