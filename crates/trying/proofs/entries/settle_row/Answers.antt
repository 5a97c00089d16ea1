-- `trying::entries::settle_row` meets its contract. Assumes nothing.
use mathlib.Core.Path.{◌∙◌}
use native.Mathlib.Omega.{arith}
use lib.ListN.{length-set}
use borrow.Author.Tests.{eqb-true}
use Rattle.trying.proofs.OnQubit.{not_among}
use Rattle.trying.proofs.SettlingRows.{row_passed, row_closed, row_settled}
use Rattle.trying.proofs.entries.settle_row.Goals as goal

pub returns-in_default : goal.returns-in_default
returns-in_default c = row_passed _ _ _ _ _ _ _ (λ i a. not_among _ _ _ c.in_default.ensures.none i a.is a.within)

pub returns-then-work-at-eq0 : goal.returns-then-work-at-eq0
returns-then-work-at-eq0 c = let i = c.in-Some.ensures.found in row_closed _ _ _ _ _ _ _ _ i.0 i.1 c.if-work-at-eq0.true

pub bounds-work-at-5 : goal.bounds-work-at-5
bounds-work-at-5 c = simp length-set (omega (arith, c.lower-left.ensures.long, c.in-Some.ensures.found.1))

pub returns-else-left-ne0 : goal.returns-else-left-ne0
returns-else-left-ne0 c = let i = c.in-Some.ensures.found in row_settled _ _ _ _ _ _ _ _ i.0 i.1 c.if-work-at-eq0.false c.requires.1 c.requires.2 _ _ c.lower-left.ensures _ (λ t e. eqb-true _ _ t ∙ c.lit_bit.ensures.0)

pub returns-then-left-ne0 : goal.returns-then-left-ne0
returns-then-left-ne0 c = let i = c.in-Some.ensures.found in row_settled _ _ _ _ _ _ _ _ i.0 i.1 c.if-work-at-eq0.false c.requires.1 c.requires.2 _ _ c.lower-left.ensures _ (λ t e. absurd (omega arith))
