-- `logical::test` meets its contract: each way is a line of the table. Assumes nothing.
use mathlib.Core.Path.{refl, sym, ◌∙◌}
use native.Mathlib.Omega.{arith}
use borrow.Author.Tests.{eq-eqb, ne_eqb}
use Rattle.logical.proofs.Ranking.{all_ranked}
use Rattle.logical.proofs.Testing.{few_sizes, codeless, is_short, differs, agrees}
use Rattle.logical.proofs.test.Goals as goal

pub returns-then-codeless : goal.returns-then-codeless
returns-then-codeless c = codeless _ _ _ _ _ _ (sym c.codeless.ensures ∙ c.if-codeless.true) c.refused.ensures

pub returns-then-short-in_range : goal.returns-then-short-in_range
returns-then-short-in_range c = is_short _ _ _ _ _ _ (sym c.codeless.ensures ∙ c.if-codeless.false) _ c.in_range.ensures c.if-short-in_range.true c.refused-then-short-in_range.ensures

pub overflow_add-sizes : goal.overflow_add-sizes
overflow_add-sizes c =
    let few = few_sizes c.args.st.sizes c.args.short _ c.in_range.ensures c.if-short-in_range.false in
    record { fits = omega (arith, few.1, few.2) }

pub ranks-requires : goal.ranks-requires
ranks-requires c = few_sizes _ c.args.short _ c.in_range.ensures c.if-short-in_range.false

pub overflow_add-together : goal.overflow_add-together
overflow_add-together c = omega (arith, (all_ranked _ _ _ _ c.ranks.ensures).few)

pub returns-then-together-sizes : goal.returns-then-together-sizes
returns-then-together-sizes c =
    differs _ _ _ _ _ _ (sym c.codeless.ensures ∙ c.if-codeless.false) _ c.in_range.ensures c.if-short-in_range.false _ (all_ranked _ _ _ _ c.ranks.ensures) (ne_eqb _ _ c.if-together-sizes.true) c.refused-then-together-sizes.ensures

pub returns : goal.returns
returns c =
    agrees _ _ _ _ _ _ (sym c.codeless.ensures ∙ c.if-codeless.false) _ c.in_range.ensures c.if-short-in_range.false _ (all_ranked _ _ _ _ c.ranks.ensures) (eq-eqb _ _ c.if-together-sizes.false) refl
