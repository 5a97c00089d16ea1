-- `kept::lower_rows` meets its contract: the rows before row i are done. Assumes nothing.
use borrow.Author.Rules.{rules}
use native.Mathlib.Omega.{arith}
use Rattle.kept.proofs.Lowering.{lower_start, lower_turn, lower_end}
use Rattle.kept.proofs.lower_rows.Goals as goal

pub loop-i-init : goal.loop-i-init
loop-i-init c = lower_start _ _ _ _ c.next_in-i.ensures

pub loop-i-smaller : goal.loop-i-smaller
loop-i-smaller c = let w = c.next_in-i-in-loop-i.ensures.within (search rules) in omega (arith, w.0)

pub loop-i-preserved : goal.loop-i-preserved
loop-i-preserved c = lower_turn _ _ _ _ _ c.loop-i.invariant c.loop-i-test.true _ _ c.lower.ensures _ c.next_in-i-in-loop-i.ensures

pub shape_of-work : goal.shape_of-work
shape_of-work c = c.loop-i.invariant.long

pub returns : goal.returns
returns c = lower_end _ _ _ _ _ c.loop-i.invariant (omega (arith, c.loop-i-test.false))
