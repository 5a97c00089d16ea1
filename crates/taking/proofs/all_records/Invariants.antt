-- `taking::all_records` meets its contract. Assumes nothing.
use mathlib.Core.Path.{◌≡◌}
use mathlib.Core.Logic.{◌⊎◌}
use Prim.Native.Nat.{◌-◌, ◌≤◌, ◌<◌}
use lib.ListN.{length}
use Rattle.records.specs.Lent.{SamePassed}
use Rattle.taking.specs.Taking.{passed_by, Took}
use Rattle.taking.specs.Progress.{stand_of, Going}
use Rattle.taking.proofs.all_records.Given as goal

abbrev pub invariant-loop-p : goal.invariant-loop-p
invariant-loop-p g l = Took l.ended (stand_of l.initial.p (passed_by l.initial.passed) l.block) (stand_of l.p (passed_by l.passed) l.block) l.p.put l.p.noted l.out l.places × Going l.ended l.p l.block l.out l.places × ((l.initial.p.taken < l.p.taken) ⊎ ((l.initial.p.taken ≡ l.p.taken) × (l.initial.p.next ≡ l.p.next))) × (l.initial.p.taken ≤ length l.block → l.p.taken ≤ length l.block) × SamePassed l.initial.passed l.passed × (length l.places ≡ l.most) × (length l.x.correction.now ≡ 1024) × (length l.z.correction.now ≡ 1024)

abbrev pub decreases-loop-p : goal.decreases-loop-p
decreases-loop-p g l = length l.block - l.p.taken
