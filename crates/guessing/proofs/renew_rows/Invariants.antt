-- `guessing::renew_rows` meets its contract: the rows before row i are without the qubit. Assumes nothing.
use mathlib.Core.Path.{◌≡◌}
use Prim.Native.Nat.{◌-◌, ◌≤◌}
use lib.ListN.{length}
use Rattle.scans.specs.Half.{rows_of}
use Rattle.guessing.proofs.Renewing.{Renewing}
use Rattle.guessing.proofs.renew_rows.Given as goal

abbrev pub invariant-loop-i : goal.invariant-loop-i
invariant-loop-i l = (l.i ≤ l.half.rows.count) × (length l.work ≡ length l.initial.work) × Renewing l.n (rows_of l.half) l.p.0 l.initial.work l.work l.i

abbrev pub decreases-loop-i : goal.decreases-loop-i
decreases-loop-i l = l.half.rows.count - l.i
