-- `bitsets::flip` meets its contract. Assumes nothing.
use native.Mathlib.Omega.{arith}
use Rattle.bitsets.proofs.Flipping.{flip_done, flip_none}
use Rattle.bitsets.proofs.flip.Goals as goal

pub returns-then-at-list : goal.returns-then-at-list
returns-then-at-list c = flip_done _ _ _ c.if-i-lt512.true c.if-at-list.true

pub returns-else-at-list : goal.returns-else-at-list
returns-else-at-list c = flip_none _ _ _ (λ a b. omega (arith, c.if-at-list.false))

pub returns-else-i-lt512 : goal.returns-else-i-lt512
returns-else-i-lt512 c = flip_none _ _ _ (λ a b. omega (arith, c.if-i-lt512.false))
