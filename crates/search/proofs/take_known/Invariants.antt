-- `search::take_known` meets its contract. Assumes nothing.
use mathlib.Core.Path.{◌≡◌}
use Prim.Native.Nat.{◌≤◌}
use lib.ListN.{length}
use Rattle.search.specs.Route.{steps}
use Rattle.search.specs.Search.{stand_of, Sound}
use Rattle.search.proofs.take_known.Given as goal

abbrev pub invariant-loop : goal.invariant-loop
invariant-loop l = (l.counter ≤ l.n) × (l.top ≤ l.sizes.rows) × (length l.work ≡ length l.initial.work) × Sound l.n l.sizes.words l.sizes.rows l.top l.work × (stand_of l.n l.sizes.words l.sizes.rows l.top l.work ≡ steps l.n l.sizes.rows l.counter (stand_of l.n l.sizes.words l.sizes.rows 0 l.initial.work))
