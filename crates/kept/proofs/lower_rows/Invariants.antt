-- `kept::lower_rows` meets its contract: the rows before row i are done. Assumes nothing.
use Prim.Native.Nat.{◌-◌}
use Rattle.kept.proofs.Lowering.{LoweringAll}
use Rattle.kept.proofs.lower_rows.Given as goal

abbrev pub invariant-loop-i : goal.invariant-loop-i
invariant-loop-i l = LoweringAll l.p.0 l.count l.initial.work l.i l.work

abbrev pub decreases-loop-i : goal.decreases-loop-i
decreases-loop-i l = l.count - l.i
