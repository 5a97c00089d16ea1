-- Elements of a list copied within it.
--   apart?  whether both parts lie in a list of so many elements, and do not overlap
--   Copied  so many elements from one on are copied to another on, the others stay; if not apart, nothing is written
use Rattle.std.specs.Prelude.{◌≡◌, Bool, true, false, ◌&&◌, ◌||◌, ◌⊎◌, List, ℕ, ◌+◌, ◌≤◌, ◌<◌, leb, length, get_or}

unfoldable pub apart? : ℕ → ℕ → ℕ → ℕ → Bool
apart? len from to count = leb (from + count) len && leb (to + count) len && (leb (from + count) to || leb (to + count) from)

pub record Copied (from to count : ℕ) (old new : List ℕ) : Type 0 where
  pub long : length new ≡ length old
  pub copied : apart? (length old) from to count ≡ true → (j : ℕ) → j < count → get_or new (to + j) 0 ≡ get_or old (from + j) 0
  pub stays : apart? (length old) from to count ≡ true → (k : ℕ) → (k < to) ⊎ (to + count ≤ k) → get_or new k 0 ≡ get_or old k 0
  pub refused : apart? (length old) from to count ≡ false → new ≡ old
