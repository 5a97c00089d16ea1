-- What the functions on a row's side promise.
--   check        a row with its lit bit; check_of: as a function is given it
--   top_word      the highest word that the live guesses reach
--   word_of       a word of a qubit's form; 0 for a qubit n or above
--   IsSideWord   a word of a row's side
--   HighestPart  the highest word of a row's side that is not 0
--   NewestBit    the newest guess in a word: its highest bit
use Rattle.std.specs.Prelude.{◌≡◌, Bool, true, false, cond, List, ℕ, suc, ◌+◌, ◌*◌, ◌/◌, ◌^◌, ◌≤◌, ◌<◌, ltb, get_or}
use Rattle.binary.specs.Meaning.{Row, Check}
use Rattle.binary.specs.Words.{bit}
use Rattle.forms.specs.declared.Check.{Check as Given}
use Rattle.forms.specs.Words.{side_in}

abbrev pub check : Bool → Row → Check
check lit row = record { lit = lit; row = row }

abbrev pub check_of : Given → Check
check_of c = check c.lit c.row.now

unfoldable pub top_word : ℕ → ℕ
top_word live = cond (ltb live 192) (live / 64) 3

unfoldable pub word_of : ℕ → List ℕ → ℕ → ℕ → ℕ
word_of n forms v q = cond (ltb q n) (get_or forms (4 * q + v) 0) 0

pub record IsSideWord (n : ℕ) (forms : List ℕ) (c : Check) (v word : ℕ) : Type 0 where
  pub bits : (j : ℕ) → bit word j ≡ side_in n forms c v j

-- From word `top` down; word 0 where there is none.
pub record HighestPart (n : ℕ) (forms : List ℕ) (c : Check) (top v word : ℕ) : Type 0 where
  pub within : v ≤ top
  pub is : IsSideWord n forms c v word
  pub some : 0 < v → word ≡ 0 → ⊥
  pub above : (u : ℕ) → v < u → u ≤ top → (j : ℕ) → side_in n forms c u j ≡ false

pub record NewestBit (word k : ℕ) : Type 0 where
  pub within : k < 64
  pub has : bit word k ≡ true
  pub below : word < 2 ^ suc k
