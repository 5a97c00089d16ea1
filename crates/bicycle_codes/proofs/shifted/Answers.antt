-- `bicycle_codes::shifted` meets its contract. Assumes nothing.
use native.Mathlib.Omega.{arith}
use Rattle.bicycle_codes.proofs.Shifting.{shifts}
use Rattle.bicycle_codes.proofs.Sorting.{sorted_three}
use Rattle.bicycle_codes.proofs.shifted.Goals as goal

pub returns : goal.returns
returns c =
    let a = c.args in
    let s = c.sort_unstable.ensures in
    shifts a.l a.m a.p a.t _ _ _ _ (omega arith) (omega arith) c.moved.ensures c.moved-2.ensures c.moved-3.ensures (sorted_three _ _ _ _ s.permutation s.sorted)
