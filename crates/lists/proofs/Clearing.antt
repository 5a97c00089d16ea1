-- A list cleared element by element, of any width. Assumes nothing.
--   Upto  the elements passed are 0, and every other one is as it was
use mathlib.Core.Path.{◌≡◌}
use mathlib.Core.Logic.{◌⊎◌}
use mathlib.Core.List.{List}
use Prim.Native.Nat.{ℕ, ◌≤◌, ◌<◌}
use lib.ListN.{length, get_or}

pub record Upto {X : Type 0} (zero : X) (from i end : ℕ) (old new : List X) : Type 0 where
  pub long : length new ≡ length old
  pub inside : (k : ℕ) → from ≤ k → k < i → get_or new k zero ≡ zero
  pub outside : (k : ℕ) → (k < from) ⊎ (i ≤ k) → get_or new k zero ≡ get_or old k zero
  pub within : (i ≡ from) ⊎ (i ≤ end)
