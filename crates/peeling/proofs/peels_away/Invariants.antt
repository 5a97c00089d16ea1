-- `peeling::peels_away` meets its contract: so many open qubits are left. Assumes nothing.
use mathlib.Core.Path.{◌≡◌}
use mathlib.Core.Bool.{true}
use lib.ListN.{length}
use Rattle.peeling.specs.Peeling.{enough?}
use Rattle.peeling.proofs.Steps.{Goes}
use Rattle.peeling.proofs.peels_away.Given as goal

abbrev pub invariant-loop-left : goal.invariant-loop-left
invariant-loop-left l = (enough? l.half.n l.half.rows.first.0 l.half.rows.count (length l.initial.marks) (length l.initial.work) ≡ true) × Goes l.half.n l.half.code.flat.now l.half.code.ends.now l.half.rows.first.0 l.half.rows.count (record { marks = l.initial.marks; work = l.initial.work }) l.left (record { marks = l.marks; work = l.work })

abbrev pub decreases-loop-left : goal.decreases-loop-left
decreases-loop-left l = l.left
