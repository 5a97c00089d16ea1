-- `packing::put_rows` meets its contract. Assumes nothing.
use Rattle.packing.proofs.PackedRows.{Packing}
use Rattle.packing.proofs.put_rows.Given as goal

abbrev pub invariant-loop-i : goal.invariant-loop-i
invariant-loop-i l = Packing l.n l.code.flat.now l.code.ends.now l.rows.first.0 l.rows.count l.i l.work
