-- `scans::count_marks` meets its contract: the marks so far are counted. Assumes nothing.
use mathlib.Core.Path.{◌≡◌, refl, ap, ◌∙◌}
use Prim.Native.Nat.{ℕ}
use native.Mathlib.Omega.{arith}
use borrow.Author.Rules.{rules}
use Rattle.machine.specs.Report.{marked}
use Rattle.machine.specs.Lists.{view}
use Rattle.scans.proofs.Scanning.{counted}
use Rattle.scans.proofs.count_marks.Goals as goal

pub returns : goal.returns
returns c =
    let args = c.args in
    let done : c.loop-q.q ≡ args.n = omega arith in
    counted args.n args.marks.now args.m _ (omega arith) (c.loop-q.invariant.1 ∙ ap (λ (k : ℕ). marked k (view args.n args.marks.now) args.m) done)
