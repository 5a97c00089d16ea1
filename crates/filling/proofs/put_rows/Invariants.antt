-- `filling::put_rows` meets its contract: the rows before row r are put. Assumes nothing.
use Rattle.filling.proofs.KeptQubits.{Putting}
use Rattle.filling.proofs.put_rows.Given as goal

abbrev pub invariant-loop-r : goal.invariant-loop-r
invariant-loop-r l = Putting l.q.0 l.on l.half.rows.first.0 l.half.rows.count l.half.lit.now l.initial.work l.r-index l.work
