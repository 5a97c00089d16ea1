-- `trying::entries::settle_rows` meets its contract: the rows before the one at hand have the value in place of the qubit. Assumes nothing.
use Rattle.trying.proofs.SettlingRows.{Settling}
use Rattle.trying.proofs.entries.settle_rows.Given as goal

abbrev pub invariant-loop-r : goal.invariant-loop-r
invariant-loop-r l = Settling l.p.0 l.v l.on l.rows.first.0 l.rows.count l.lit l.initial.work l.r-index l.work
