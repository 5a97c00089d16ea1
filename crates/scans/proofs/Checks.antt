-- The checks of a half from one of its rows on. Assumes nothing.
use mathlib.Core.Path.{◌≡◌}
use mathlib.Core.List.{List, []}
use Prim.Native.Nat.{ℕ, ◌+◌, ◌-◌, ◌≤◌}
use native.Mathlib.Omega.{arith}
use Rattle.binary.specs.Meaning.{Check}
use Rattle.scans.specs.Rows.{RowLists, checks_from, row_checks}

module _ (c : RowLists) where
  -- The rows from row i of the half on.
  abbrev pub from : ℕ → List Check
  from i = checks_from c.flat c.ends c.lit (c.first + i) (c.count - i)

  pub from_all : from 0 ≡ row_checks c
  from_all = let a : c.first + 0 ≡ c.first = omega arith in let b : c.count - 0 ≡ c.count = omega arith in rw (a, b)

  pub from_none : (i : ℕ) → c.count ≤ i → from i ≡ []
  from_none i h = let e : c.count - i ≡ 0 = omega arith in rw e
