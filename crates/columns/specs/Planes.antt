-- Numbers in bit planes: bit p of 64 numbers in one word, the words of a number's bits one after the other.
--   planes     the bits of a number: plane p of those at a place, for bit b of the words
--   number_at   the number of the first e planes
--   Carried    a number that grows by what comes in, or shrinks by it, less what goes on
--   number     the number of a column in the work list: 16 words for 64 columns from element 8192 on, the first 10 of them planes
use Rattle.std.specs.Prelude.{◌≡◌, Bool, true, false, List, ℕ, ◌+◌, ◌*◌, ◌/◌, ◌%◌, ◌^◌, get_or}
use Rattle.binary.specs.Bits.{weigh}
use Rattle.binary.specs.Words.{bit}

unfoldable pub planes : List ℕ → ℕ → ℕ → ℕ → Bool
planes m at b p = bit (get_or m (at + p) 0) b

abbrev pub number_at : List ℕ → ℕ → ℕ → ℕ → ℕ
number_at m at b e = weigh (λ p. 2 ^ p) e (planes m at b)

-- It shrinks if `down`.
abbrev pub Carried : (down : Bool) (into out old new : ℕ) → Type 0
Carried false into out old new = new + out ≡ old + into
Carried true into out old new = new + into ≡ old + out

abbrev pub number : List ℕ → ℕ → ℕ
number m c = number_at m (8192 + 16 * (c / 64)) (c % 64) 10
