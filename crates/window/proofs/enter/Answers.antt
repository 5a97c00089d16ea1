-- `window::enter` meets its contract. Assumes nothing.
use native.Mathlib.Omega.{arith}
use Rattle.window.proofs.Entering.{enters_more, enters_again}
use Rattle.window.proofs.enter.Goals as goal

pub returns-then-reports-lt511 : goal.returns-then-reports-lt511
returns-then-reports-lt511 c = enters_more _ _ _ _ _ (omega arith) c.put_half.ensures c.put_half-2.ensures c.if-reports-lt511.true

pub returns-else-reports-lt511 : goal.returns-else-reports-lt511
returns-else-reports-lt511 c = enters_again _ _ _ _ _ (omega arith) c.put_half.ensures c.put_half-2.ensures c.if-reports-lt511.false
