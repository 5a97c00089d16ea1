-- `numbering::join_words` meets its contract. Assumes nothing.
use mathlib.Core.Path.{◌≡◌}
use native.Mathlib.Omega.{arith}
use borrow.Author.Rules.{rules}
use borrow.Author.Tests.{eq-eqb, ne_eqb}
use Rattle.numbering.proofs.Carries.{counted_down}
use Rattle.numbering.proofs.Counting.{by_none, adding_more, merging_more, joined_by}
use Rattle.numbering.proofs.join_words.Goals as goal
use Rattle.numbering.proofs.join_words.Goals.{then-this-ne0, else-this-ne0}

pub loop-k-init : goal.loop-k-init
loop-k-init g c = by_none _ _ _ _ _

pub loop-k-preserved : goal.loop-k-preserved
loop-k-preserved g c =
    elim c.if-this-ne0.branch [
      | then-this-ne0 w ↦ let e = ne_eqb g.row.MERGES 0 w.if-this-ne0.true in
          rw (w.m-is, e)
          (merging_more _ _ _ _ _ _ (search rules) (search rules) (search rules) (search rules) (rw e at c.loop-k.invariant) c.loop-k-test.true _
          (counted_down _ _ _ _ _ w.count.ensures))
      | else-this-ne0 w ↦ let e = eq-eqb g.row.MERGES 0 w.if-this-ne0.false in
          rw (w.m-is, e)
          (adding_more _ _ _ _ _ _ (search rules) (search rules) (search rules) (search rules) (rw e at c.loop-k.invariant) c.loop-k-test.true _
          w.count-else-this-ne0.ensures)
    ]

pub returns : goal.returns
returns g c =
    let e : c.loop-k.k ≡ c.args.w = omega arith in
    joined_by _ _ _ _ _ _ (rw e at c.loop-k.invariant)
