-- `lists::are_apart` meets its contract. Assumes nothing.
use native.Mathlib.Omega.{arith}
use Rattle.lists.proofs.Copying.{part_short, part_late, both_in}
use Rattle.lists.proofs.are_apart.Goals as goal
use Rattle.lists.proofs.are_apart.Goals.{then-len-count-via-then-len-count, then-len-count-via-else-len-count+then-len-count-2}

pub returns-then-len-count : goal.returns-then-len-count
returns-then-len-count c =
    elim c.then-len-count.branch [
      | then-len-count-via-then-len-count w ↦ part_short _ _ _ _ w.if-len-count.true
      | then-len-count-via-else-len-count+then-len-count-2 w ↦ part_late _ _ _ _ (omega (arith, w.if-len-count.false, w.max.ensures, w.if-len-count-2.true))
    ]

pub returns : goal.returns
returns c = both_in _ _ _ _ (omega (arith, c.max.ensures)) (omega (arith, c.max.ensures))
