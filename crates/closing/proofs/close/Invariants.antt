-- `closing::close` meets its contract: the rows before row i are done. Assumes nothing.
use Prim.Native.Nat.{◌-◌}
use Rattle.scans.specs.Half.{rows_of}
use Rattle.closing.proofs.ClosingRows.{ClosingAll}
use Rattle.closing.proofs.close.Given as goal

abbrev pub invariant-loop-i : goal.invariant-loop-i
invariant-loop-i l = ClosingAll l.n (rows_of l.half) l.p.0 l.live l.initial.forms l.initial.work l.i l.left l.forms l.work

abbrev pub decreases-loop-i : goal.decreases-loop-i
decreases-loop-i l = l.half.rows.count - l.i
