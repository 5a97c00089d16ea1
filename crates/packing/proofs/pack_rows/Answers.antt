-- `packing::pack_rows` meets its contract. Assumes nothing.
use mathlib.Core.Path.{refl}
use Rattle.packing.specs.PackedRows.{room_for}
use Rattle.packing.proofs.PackedRows.{room_for_out, all_put, none_put}
use Rattle.packing.proofs.pack_rows.Goals as goal

pub put_rows-requires : goal.put_rows-requires
unfolding room_for
put_rows-requires c = room_for_out _ _ _ _ c.if-room.true

pub returns-then-room : goal.returns-then-room
unfolding room_for
returns-then-room c = all_put _ _ _ _ _ _ _ refl _ c.if-room.true c.put_rows.ensures

pub returns-else-room : goal.returns-else-room
unfolding room_for
returns-else-room c = none_put _ _ _ _ _ _ _ refl c.if-room.false
