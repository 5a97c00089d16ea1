-- Sets of numbers below 512 in a list of 64-bit words: 8 words a set, a bit for each number.
--   in_set    whether a number is in a set of the list
--   NextIn   the lowest number of a set from a number on, and below an end
--   Flipped  a number that was in a set is not in it any more, or the other way round
use Rattle.std.specs.Prelude.{◌≡◌, Bool, true, false, ◌&&◌, List, ℕ, ◌+◌, ◌*◌, ◌/◌, ◌%◌, ◌≤◌, ◌<◌, eqb, length, get_or}
use Rattle.binary.specs.Bits.{◌⊕◌}
use Rattle.binary.specs.Words.{bit}

unfoldable pub in_set : List ℕ → ℕ → ℕ → Bool
in_set list s j = bit (get_or list (8 * s + j / 64) 0) (j % 64)

-- The end, where there is none.
pub record NextIn (list : List ℕ) (s from end r : ℕ) : Type 0 where
  pub within : from ≤ end → (from ≤ r) × (r ≤ end)
  pub skipped : (j : ℕ) → from ≤ j → j < r → in_set list s j ≡ false
  pub found : r < end → in_set list s r ≡ true

-- Where the list has the number's word; elsewhere nothing is written.
pub record Flipped (s i : ℕ) (old new : List ℕ) : Type 0 where
  pub long : length new ≡ length old
  pub flipped : i < 512 → 8 * s + i / 64 < length old → (t j : ℕ) → j < 512 → in_set new t j ≡ in_set old t j ⊕ (eqb t s && eqb j i)
  pub rest : (k : ℕ) → (k < 8 * s) → get_or new k 0 ≡ get_or old k 0
  pub beyond : (k : ℕ) → (8 * s + 8 ≤ k) → get_or new k 0 ≡ get_or old k 0
