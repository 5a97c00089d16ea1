-- `choosing::shortest_in` meets its contract: plane by plane, the columns left are the shortest by the planes seen so far. Assumes nothing.
use borrow.Author.Rules.{rules}
use mathlib.Core.Path.{◌≡◌}
use native.Mathlib.Omega.{arith}
use Rattle.choosing.proofs.HighPlanes.{none_tall}
use Rattle.choosing.proofs.Narrowing.{narrowed_start, narrowed_low, narrowed_all, narrowed_short, narrowed_end, few_zeros, few_rows}
use Rattle.choosing.proofs.shortest_in.Goals as goal
use Rattle.choosing.proofs.shortest_in.Goals.{then-word-tall-eq0, else-word-tall-eq0}

pub overflow_mul-rows : goal.overflow_mul-rows
overflow_mul-rows c = omega (arith, few_rows _ _ _ _ _ _ c.loop-p.invariant.1)

pub overflow_add-rows : goal.overflow_add-rows
overflow_add-rows c = omega (arith, few_rows _ _ _ _ _ _ c.loop-p.invariant.1)

pub loop-p-preserved-then-short-eq0 : goal.loop-p-preserved-then-short-eq0
loop-p-preserved-then-short-eq0 c = (search rules, narrowed_all _ _ _ _ _ _ _ (omega arith) (omega arith) c.loop-p.invariant.1 c.if-short-eq0.true)

pub loop-p-preserved : goal.loop-p-preserved
loop-p-preserved c = (search rules, narrowed_short _ _ _ _ _ _ _ (omega arith) (omega arith) c.loop-p.invariant.1 c.if-short-eq0.false)

pub overflow_cast-column : goal.overflow_cast-column
overflow_cast-column c = let few = few_zeros _ _ _ _ _ _ c.loop-p.invariant.1 in search rules

pub overflow_add-column : goal.overflow_add-column
overflow_add-column c = let few = few_zeros _ _ _ _ _ _ c.loop-p.invariant.1 in search rules

pub returns : goal.returns
returns c = let e : c.loop-p.p ≡ 0 = omega arith in narrowed_end _ _ _ _ _ (rw e at c.loop-p.invariant.1)

pub loop-p-init : goal.loop-p-init
loop-p-init c =
    elim c.if-word-tall-eq0.branch [
      | then-word-tall-eq0 w ↦ rw w.p-is (search rules, narrowed_low _ _ _ (search rules) c.ranges.word.fits (none_tall _ _ _ _ c.tall.ensures w.if-word-tall-eq0.true))
      | else-word-tall-eq0 w ↦ rw w.p-is (search rules, narrowed_start _ _ _ (search rules) c.ranges.word.fits)
    ]
