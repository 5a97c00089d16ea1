-- `loading::take_sizes` meets its contract. Assumes nothing.
use borrow.Author.Rules.{rules}
use native.Mathlib.Omega.{arith}
use Rattle.records.proofs.Answers.{told_true, told_false}
use Rattle.records.proofs.Range.{range_out}
use Rattle.loading.proofs.Announced.{size_refused, size_short, size_taken}
use Rattle.loading.proofs.take_sizes.Goals as goal

pub returns-then-not-in_range : goal.returns-then-not-in_range
returns-then-not-in_range c = size_refused _ _ _ _ _ _ (told_false _ _ c.in_range.ensures (search rules)) c.refused.ensures

pub returns-then-short : goal.returns-then-short
returns-then-short c = size_short _ _ _ _ _ _ (told_true _ _ c.in_range.ensures (search rules)) (search rules) c.refused-then-short.ensures

pub progress-requires : goal.progress-requires
progress-requires c =
    let a = c.args.sizes in
    let range = range_out a.n a.x a.z (told_true _ _ c.in_range.ensures (search rules)) in
    omega (arith, range.xs, range.zs)

pub returns : goal.returns
returns c = size_taken _ _ _ _ _ _ (told_true _ _ c.in_range.ensures (search rules)) (search rules) c.progress.ensures
