-- `closing::lit_closed` meets its contract: no row so far is lit and closed. Assumes nothing.
use Rattle.closing.proofs.TakingRows.{PassedRows}
use Rattle.closing.proofs.lit_closed.Given as goal

abbrev pub invariant-loop-i : goal.invariant-loop-i
invariant-loop-i l = PassedRows l.half.lit.now l.first l.count l.work l.i
