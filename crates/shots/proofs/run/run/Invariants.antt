-- `shots::run::run` meets its contract. Assumes nothing.
use Rattle.shots.proofs.Runs.{Runs}
use Rattle.records.specs.Lent.{SamePassed}
use Rattle.taking.specs.Taking.{passed_by}
use lib.ListN.{length}
use mathlib.Core.Path.{◌≡◌}
use Rattle.shots.proofs.run.run.Given as goal

abbrev pub invariant-loop-refills : goal.invariant-loop-refills
invariant-loop-refills g l = Runs (passed_by l.initial.passed) (passed_by l.passed) l.block l.here l.refills × SamePassed l.initial.passed l.passed × (length l.block ≡ length l.initial.block) × (length l.out ≡ length l.initial.out) × (length l.places ≡ length l.initial.places)

abbrev pub decreases-loop-refills : goal.decreases-loop-refills
decreases-loop-refills g l = l.refills
