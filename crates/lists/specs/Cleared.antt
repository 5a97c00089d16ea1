-- Elements of a list cleared.
--   ClearedTo  those from one up to another become a zero, the others stay
--   Cleared    the same of numbers
use Rattle.std.specs.Prelude.{◌≡◌, ◌⊎◌, List, ℕ, ◌≤◌, ◌<◌, length, get_or}

pub record ClearedTo {X : Type 0} (zero : X) (from to : ℕ) (old new : List X) : Type 0 where
  pub long : length new ≡ length old
  pub inside : (k : ℕ) → from ≤ k → k < to → get_or new k zero ≡ zero
  pub outside : (k : ℕ) → (k < from) ⊎ (to ≤ k) → get_or new k zero ≡ get_or old k zero

abbrev pub Cleared : ℕ → ℕ → List ℕ → List ℕ → Type 0
Cleared = ClearedTo 0
