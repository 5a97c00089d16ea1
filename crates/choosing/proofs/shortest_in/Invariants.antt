-- `choosing::shortest_in` meets its contract: plane by plane, the columns left are the shortest by the planes seen so far. Assumes nothing.
use Prim.Native.Nat.{◌≤◌}
use Rattle.choosing.proofs.Narrowing.{Narrowed}
use Rattle.choosing.proofs.shortest_in.Given as goal

abbrev pub invariant-loop-p : goal.invariant-loop-p
invariant-loop-p l = (l.p ≤ 10) × Narrowed l.m l.at l.word l.least l.rows l.p

abbrev pub decreases-loop-p : goal.decreases-loop-p
decreases-loop-p l = l.p
