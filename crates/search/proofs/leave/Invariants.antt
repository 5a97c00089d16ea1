-- `search::leave` meets its contract: row j is the last one with the column so far. Assumes nothing.
use Prim.Native.Nat.{◌+◌, ◌≤◌, ◌<◌}
use Rattle.columns.specs.Columns.{rows_with}
use Rattle.search.proofs.Rows.{Later}
use Rattle.search.proofs.leave.Given as goal

abbrev pub invariant-loop-j : goal.invariant-loop-j
invariant-loop-j l = (l.first ≤ l.j) × (l.j < l.sizes.rows) × Later l.sizes.words l.sizes.rows l.i l.first (l.j + 1) l.q l.initial.m l.m × (rows_with l.m l.sizes.words (l.j + 1) l.sizes.rows l.q ≤ l.left)

abbrev pub decreases-loop-j : goal.decreases-loop-j
decreases-loop-j l = l.left
