-- `incidence::rows_on` meets its contract. Assumes nothing.
use mathlib.Core.Path.{ap}
use Prim.Native.Nat.{ℕ, ◌+◌}
use native.Mathlib.Omega.{arith}
use lib.ListN.{take, drop}
use Rattle.incidence.specs.Incidence.{slot, rows_on}
use Rattle.incidence.proofs.rows_on.Goals as goal

pub returns-clause-listed : goal.returns-clause-listed
unfolding rows_on
returns-clause-listed c = (
  omega (arith, c.if-list-at.false),
  omega (arith, c.if-number-gt14.false),
  ap (λ (k : ℕ). take k (drop (slot c.args.q.0 + 1) c.args.list.now)) (omega arith),
)
