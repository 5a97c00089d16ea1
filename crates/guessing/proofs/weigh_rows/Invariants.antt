-- `guessing::weigh_rows` meets its contract: the rows before row i are counted. Assumes nothing.
use mathlib.Core.Path.{◌≡◌}
use lib.ListN.{length}
use Rattle.scans.specs.Half.{rows_of}
use Rattle.guessing.proofs.Weighing.{Counting}
use Rattle.guessing.proofs.weigh_rows.Given as goal

abbrev pub invariant-loop-i : goal.invariant-loop-i
invariant-loop-i l = (length l.work ≡ length l.initial.work) × Counting l.n (rows_of l.half) l.initial.work l.work l.i
