-- `scans::count_marks` meets its contract: the marks so far are counted. Assumes nothing.
use mathlib.Core.Path.{◌≡◌}
use Prim.Native.Nat.{◌≤◌}
use Rattle.machine.specs.Report.{marked}
use Rattle.machine.specs.Lists.{view}
use Rattle.scans.proofs.count_marks.Given as goal

abbrev pub invariant-loop-q : goal.invariant-loop-q
invariant-loop-q l = (l.total ≤ l.q) × (l.total ≡ marked l.q (view l.n l.marks) l.m)
