-- `filling::by_rows` meets its contract: the rows before row i are kept. Assumes nothing.
use mathlib.Core.Path.{◌≡◌}
use lib.ListN.{length}
use Rattle.scans.specs.Half.{rows_of}
use Rattle.filling.specs.Filling.{Beyond, KeptTo}
use Rattle.filling.proofs.by_rows.Given as goal

abbrev pub invariant-loop-i : goal.invariant-loop-i
invariant-loop-i l = record { long : length l.work ≡ length l.initial.work; past : Beyond l.initial.work l.work; kept : KeptTo l.i l.half.n (rows_of l.half) l.marks l.work }
