-- `cutting::is_full` meets its contract. Assumes nothing.
use mathlib.Core.Path.{◌∙◌}
use native.Mathlib.Omega.{arith}
use borrow.Author.Tests.{lt-ltb}
use Rattle.cutting.proofs.Full.{full_told, full_else}
use Rattle.cutting.proofs.is_full.Goals as goal

pub returns-then-saturating_sub-lt-ANSWER : goal.returns-then-saturating_sub-lt-ANSWER
returns-then-saturating_sub-lt-ANSWER c =
    let l = c.if-saturating_sub-lt-ANSWER.true in
    lt-ltb _ _ l ∙ full_told _ _ _ _ (omega (arith, l, c.saturating_sub.ensures))

pub returns-else-saturating_sub-lt-ANSWER : goal.returns-else-saturating_sub-lt-ANSWER
returns-else-saturating_sub-lt-ANSWER c =
    full_else _ _ _ _ (omega (arith, c.if-saturating_sub-lt-ANSWER.false, c.saturating_sub.ensures))
