-- `filling::empty_sets` meets its contract. Assumes nothing.
use Prim.Native.Nat.{◌≤◌}
use Rattle.filling.proofs.KeptRows.{Emptying}
use Rattle.filling.proofs.empty_sets.Given as goal

abbrev pub invariant-loop-q : goal.invariant-loop-q
invariant-loop-q l = (l.q ≤ l.n) × Emptying l.n l.marks l.initial.work l.q l.work
