-- Text in a list.
--   places   how many digits a number has in decimal, below 10 ^ (most + 1)
--   decimal  a number below 2 ^ 64 in decimal, in ASCII
--   number   a blank and the number
--   Puts     a text was put from element `at` on, as far as the list has room, and r is where it ends; nothing else changed
use Rattle.std.specs.Prelude.{◌≡◌, cond, List, ◌∷◌, ℕ, zero, suc, ◌+◌, ◌-◌, ◌/◌, min, ltb, length}
use Rattle.std.proofs.lemmas.List.Edits.{sets}
use Rattle.io.specs.Digits.{last_digits}

unfoldable pub places : ℕ → ℕ → ℕ
places zero n = 1
places (suc most) n = cond (ltb n 10) 1 (suc (places most (n / 10)))

unfoldable pub decimal : ℕ → List ℕ
decimal n = last_digits 10 (places 19 n) n

abbrev pub number : ℕ → List ℕ
number n = 32 ∷ decimal n

pub record Puts (text : List ℕ) (at : ℕ) (old new : List ℕ) (r : ℕ) : Type 0 where
  pub bytes : new ≡ sets old at text
  pub ends : r ≡ at + min (length text) (length old - at)
