-- `bitsets::next_in` meets its contract: the numbers passed are not in the set. Assumes nothing.
use Prim.Native.Nat.{◌-◌, ◌≤◌}
use Rattle.bitsets.proofs.Searching.{Passed}
use Rattle.bitsets.proofs.next_in.Given as goal

abbrev pub invariant-loop-j : goal.invariant-loop-j
invariant-loop-j l = (l.from ≤ l.j) × Passed l.list l.s l.from l.j

abbrev pub decreases-loop-j : goal.decreases-loop-j
decreases-loop-j l = l.stop - l.j
