-- `packing::put_row` meets its contract. Assumes nothing.
use mathlib.Core.Path.{◌∙◌}
use borrow.Author.Rules.{rules}
use Rattle.packing.proofs.Put.{room_yes, room_wide, room_high, room_short, put_done, put_refused}
use Rattle.packing.proofs.put_row.Goals as goal
use Rattle.packing.proofs.put_row.Goals.{then-words-gt16-via-then-words-gt16, then-words-gt16-via-else-words-gt16+then-i-ge512, then-words-gt16-via-else-words-gt16+else-i-ge512+then-work-i}

pub returns-then-words-gt16 : goal.returns-then-words-gt16
returns-then-words-gt16 c =
    put_refused _ _ _ _
    (elim c.then-words-gt16.branch [
      | then-words-gt16-via-then-words-gt16 w ↦ room_wide _ _ _ w.if-words-gt16.true
      | then-words-gt16-via-else-words-gt16+then-i-ge512 w ↦ room_high _ _ _ w.if-i-ge512.true
      | then-words-gt16-via-else-words-gt16+else-i-ge512+then-work-i w ↦ room_short _ _ _ w.if-work-i.true
    ])

pub returns : goal.returns
returns c =
    let s = c.set_bits in
    let z = c.clear in
    put_done _ _ _ _ _ _ z.ensures s.ensures (s.auto.m ∙ z.auto.list) (room_yes _ _ _ (search rules) (search rules) (search rules))
