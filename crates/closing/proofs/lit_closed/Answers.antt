-- `closing::lit_closed` meets its contract: no row so far is lit and closed. Assumes nothing.
use native.Mathlib.Omega.{arith}
use Rattle.closing.proofs.TakingRows.{passed_none, rows_more, lit_found, lit_none}
use Rattle.closing.proofs.lit_closed.Goals as goal
use Rattle.closing.proofs.lit_closed.Goals.{else-half-first-eq1-via-then-half-first-eq1+else-work-i-eq0, else-half-first-eq1-via-else-half-first-eq1}

pub loop-i-init : goal.loop-i-init
loop-i-init c = λ flat ends. passed_none (record { flat = flat; ends = ends; lit = _; first = _; count = _ }) _

pub returns-then-work-i-eq0 : goal.returns-then-work-i-eq0
returns-then-work-i-eq0 c = lit_found _ _ _ _ (omega arith) (omega arith) (omega arith) _ c.loop-i-test.true c.loop-i.invariant c.if-half-first-eq1.true c.if-work-i-eq0.true

pub returns : goal.returns
returns c = lit_none _ _ _ _ (omega arith) (omega arith) (omega arith) _ c.loop-i.invariant (omega (arith, c.loop-i-test.false))

pub loop-i-preserved : goal.loop-i-preserved
loop-i-preserved c = rows_more _ _ _ _ _ c.loop-i-test.true c.loop-i.invariant
    (elim c.else-half-first-eq1.branch [
      | else-half-first-eq1-via-then-half-first-eq1+else-work-i-eq0 w ↦ λ a e. w.if-work-i-eq0.false e
      | else-half-first-eq1-via-else-half-first-eq1 w ↦ λ a e. w.if-half-first-eq1.false a
    ])
