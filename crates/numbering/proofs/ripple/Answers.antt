-- `numbering::ripple` meets its contract. Assumes nothing.
use native.Mathlib.Omega.{arith}
use Rattle.numbering.proofs.Carries.{rippled_more}
use Rattle.numbering.proofs.ripple.Goals as goal

pub loop-p-preserved : goal.loop-p-preserved
loop-p-preserved c = rippled_more _ _ _ _ _ _ _ _ c.loop-p.invariant c.loop-p.auto.p (omega arith)
