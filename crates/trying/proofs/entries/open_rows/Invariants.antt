-- `trying::entries::open_rows` meets its contract: the rows before the one at hand have the qubit. Assumes nothing.
use Rattle.trying.proofs.OpeningRows.{Opening}
use Rattle.trying.proofs.entries.open_rows.Given as goal

abbrev pub invariant-loop-r : goal.invariant-loop-r
invariant-loop-r l = Opening l.q.0 l.on l.rows.first.0 l.rows.count l.lit l.initial.work l.r-index l.work
