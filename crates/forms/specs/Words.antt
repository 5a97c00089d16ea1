-- A form by its words.
--   Words    the bits of a form, by the number of the word and the number within it
--   joined   the form that words make, however many they are: bit k is bit k modulo 64 of word k / 64
--   words_in  the words of a qubit's form in a list, four each
--   side_in   the words of a row's side
--   one_bit   the words of a guess: its bit alone
use Rattle.std.specs.Prelude.{◌&&◌, List, ℕ, ◌+◌, ◌*◌, ◌/◌, ◌%◌, eqb, ltb, get_or}
use Rattle.binary.specs.Bits.{◌⊕◌}
use Rattle.binary.specs.Meaning.{Check, odd}
use Rattle.binary.specs.Words.{bit}
use Rattle.machine.specs.Machine.{Form}

abbrev pub Words : Type 0
Words = ℕ → Form

abbrev pub joined : Words → Form
joined w k = w (k / 64) (k % 64)

unfoldable pub words_in : List ℕ → ℕ → Words
words_in forms q v j = ltb v 4 && bit (get_or forms (4 * q + v) 0) j

-- The lit bit is in word 0. A qubit n or above adds nothing.
unfoldable pub side_in : ℕ → List ℕ → Check → Words
side_in n forms c v j = (c.lit && (eqb v 0 && eqb j 0)) ⊕ odd (λ q. ltb q n && words_in forms q v j) c.row

abbrev pub one_bit : ℕ → Words
one_bit g v j = eqb v (g / 64) && eqb j (g % 64)
