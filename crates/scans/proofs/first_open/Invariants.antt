-- `scans::first_open` meets its contract: no qubit so far is open. Assumes nothing.
use mathlib.Core.Path.{◌≡◌}
use lib.ListN.{drop}
use Rattle.machine.specs.Machine.{is_open, part}
use Rattle.machine.specs.Lists.{view}
use Rattle.scans.proofs.first_open.Given as goal

abbrev pub invariant-loop-i : goal.invariant-loop-i
invariant-loop-i l = part (is_open (view l.n l.marks)) (drop 0 l.row) ≡ part (is_open (view l.n l.marks)) (drop l.i l.row)
