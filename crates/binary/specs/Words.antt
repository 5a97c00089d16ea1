-- Sets held by numbers.
--   bit       bit k of a word
--   number_of  the number that has these bits, so many of them, and no others
--   listed    the set of qubits below n that a list marks by a 1
use Rattle.std.specs.Prelude.{Bool, ◌&&◌, List, ℕ, zero, suc, ◌*◌, ◌/◌, ◌%◌, ◌^◌, eqb, ltb, get_or}
use Rattle.binary.specs.Bits.{count}
use Rattle.binary.specs.Meaning.{Qubits}

unfoldable pub bit : ℕ → ℕ → Bool
bit x k = eqb (x / 2 ^ k % 2) 1

abbrev pub number_of : ℕ → (ℕ → Bool) → ℕ
number_of zero f = 0
number_of (suc m) f = count (f 0) (2 * number_of m (λ i. f (suc i)))

unfoldable pub listed : ℕ → List ℕ → Qubits
listed n l q = ltb q n && eqb (get_or l q 0) 1
