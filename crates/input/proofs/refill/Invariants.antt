-- `input::refill` meets its contract. Assumes nothing.
use Rattle.input.specs.Reading.{Attempts, reads_most}
use lib.ListN.{length, take}
use Prim.Native.Nat.{◌-◌, ◌≤◌}
use mathlib.Core.Path.{◌≡◌}
use Rattle.input.proofs.refill.Given as goal

abbrev pub invariant-loop-reads : goal.invariant-loop-reads
invariant-loop-reads g l = (l.held ≤ length l.block) × (length l.block ≡ length l.initial.block) × Attempts (length l.initial.block - l.held) l.reads l.got × (take l.held l.block ≡ take l.held l.initial.block) × (l.reads ≤ reads_most)

abbrev pub decreases-loop-reads : goal.decreases-loop-reads
decreases-loop-reads g l = reads_most - l.reads
