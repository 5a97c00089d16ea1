-- `blocks::one_block` meets its contract. Assumes nothing.
use Rattle.blocks.specs.Blocks.{Sent, stand}
use Rattle.cutting.specs.Cutting.{next_of}
use Rattle.records.specs.Lent.{SamePassed}
use Rattle.taking.specs.Taking.{passed_by}
use lib.ListN.{length, drop}
use Prim.Native.Nat.{◌-◌, ◌≤◌}
use mathlib.Core.Bool.{cond, ◌||◌}
use mathlib.Core.Path.{◌≡◌}
use Rattle.blocks.proofs.one_block.Given as goal

abbrev pub invariant-loop-b : goal.invariant-loop-b
invariant-loop-b g l = Sent l.ended (stand l.initial.b (passed_by l.initial.passed) l.block) l.initial.b.output (stand l.b (passed_by l.passed) l.block) l.b.output × (l.b.taken ≤ length l.block) × (l.b.next ≡ cond (l.full || (l.b.output.failed || l.b.over)) 0 (next_of l.ended (drop l.b.taken l.block))) × SamePassed l.initial.passed l.passed × (length l.out ≡ length l.initial.out) × (length l.places ≡ length l.initial.places)

abbrev pub decreases-loop-b : goal.decreases-loop-b
decreases-loop-b g l = length l.block - l.b.taken
