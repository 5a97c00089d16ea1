-- `filling::keep_row` meets its contract. Assumes nothing.
use native.Mathlib.Omega.{arith}
use lib.ListN.{length-set}
use Rattle.filling.proofs.KeptRows.{added_as, kept_plain, kept_dangling}
use Rattle.filling.proofs.keep_row.Goals as goal

pub returns-then-open-eq1 : goal.returns-then-open-eq1
returns-then-open-eq1 c =
    let room = c.requires.room in
    kept_dangling _ _ _ c.args.marks.now _ _ _ room.size room.few c.requires.within room.words c.requires.kept_to
    (added_as _ _ _ _ _ _ _ _ c.read_row-row.ensures c.add_row-open.ensures) c.if-open-eq1.true _
    (c.change.ensures.changed (rw (length-set, c.add_row-open.ensures.long) room.words) (omega (arith, room.few, c.requires.within)))

pub returns-else-open-eq1 : goal.returns-else-open-eq1
returns-else-open-eq1 c =
    let room = c.requires.room in
    kept_plain _ _ _ c.args.marks.now _ _ _ room.size room.few c.requires.within room.words c.requires.kept_to
    (added_as _ _ _ _ _ _ _ _ c.read_row-row.ensures c.add_row-open.ensures) c.if-open-eq1.false
