-- The marks before the fixed qubits are known, one a turn. Assumes nothing.
use mathlib.Core.Path.{◌≡◌}
use mathlib.Core.List.{List}
use Prim.Native.Nat.{ℕ, ◌<◌}
use borrow.Author.Tests.{lt-ltb, eq-eqb, ne_eqb}
use lib.ListN.{get_or}
use Rattle.binary.specs.Words.{listed}
use Rattle.starting.specs.Starting.{open_mark}

module _ (n : ℕ) (lost : List ℕ) (q : ℕ) (h : q < n) where
  pub lost_open : get_or lost q 0 ≡ 1 → 4 ≡ open_mark n lost q
  unfolding listed
  lost_open e = rw (lt-ltb q n h, eq-eqb (get_or lost q 0) 1 e)

  pub kept_unmarked : (get_or lost q 0 ≡ 1 → ⊥) → 0 ≡ open_mark n lost q
  unfolding listed
  kept_unmarked e = rw (lt-ltb q n h, ne_eqb (get_or lost q 0) 1 e)
