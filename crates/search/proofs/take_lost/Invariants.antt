-- `search::take_lost` meets its contract. Assumes nothing.
use Prim.Native.Nat.{◌≤◌}
use Rattle.search.specs.Search.{Losts}
use Rattle.search.proofs.take_lost.Given as goal

abbrev pub invariant-loop-q : goal.invariant-loop-q
invariant-loop-q l = (l.top ≤ l.sizes.rows) × Losts l.n l.sizes.words l.sizes.rows l.lost l.first l.initial.work l.initial.marks l.q l.top l.work l.marks
