-- `numbering::number_row` meets its contract. Assumes nothing.
use mathlib.Core.Path.{◌≡◌}
use mathlib.Core.Bool.{false, ◌&&◌}
use Prim.Native.Nat.{ℕ, ◌<◌}
use lib.ListN.{get_or}
use Rattle.packing.specs.Packed.{cell}
use Rattle.columns.specs.Columns.{untaken}
use Rattle.numbering.proofs.Counting.{Counting}
use Rattle.numbering.proofs.number_row.Given as goal

abbrev pub invariant-loop-k : goal.invariant-loop-k
invariant-loop-k l = ((j : ℕ) → j < 8192 → get_or l.m j 0 ≡ get_or l.initial.m j 0) × Counting 1 l.k (λ c. false) (λ c. cell l.initial.m l.w l.i c && untaken l.initial.m c) l.initial.m l.m
