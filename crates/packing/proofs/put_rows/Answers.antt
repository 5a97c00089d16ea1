-- `packing::put_rows` meets its contract. Assumes nothing.
use mathlib.Core.Path.{refl}
use native.Mathlib.Omega.{arith}
use Rattle.packing.proofs.PackedRows.{pack_more}
use Rattle.packing.proofs.put_rows.Goals as goal

pub loop-i-preserved : goal.loop-i-preserved
loop-i-preserved c =
    let p = c.requires in
    pack_more _ _ _ _ _ _ _ _ _ _ _ refl c.words_for-words.ensures p.0 c.loop-i-test.true p.1 (omega (arith, p.3, c.loop-i.auto.work, c.clear.auto.list)) c.loop-i.invariant
    c.row.ensures c.set_bits.ensures c.set_bits.auto.m
