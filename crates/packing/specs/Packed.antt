-- Rows packed into 64-bit words, and what `put_row` promises of them.
--   words_for   the words that a packed row of n columns takes
--   cell       the bit in row i, column q of a work list, w words a row
--   Packed     a work list holds these rows from its start
--   room       whether a row may be put at place i
--   Put        what `put_row` does
use Rattle.std.specs.Prelude.{◌≡◌, Bool, true, false, ◌&&◌, ◌⊎◌, List, [], ℕ, ◌+◌, ◌*◌, ◌/◌, ◌%◌, ◌≤◌, ◌<◌, leb, ltb, length, get_or}
use Rattle.binary.specs.Meaning.{Row, has}
use Rattle.binary.specs.Words.{bit}

abbrev pub words_for : ℕ → ℕ
words_for n = (n + 63) / 64

unfoldable pub cell : List ℕ → ℕ → ℕ → ℕ → Bool
cell m w i q = bit (get_or m (i * w + q / 64) 0) (q % 64)

pub record Packed (n w : ℕ) (rows : List Row) (m : List ℕ) : Type 0 where
  pub fit : length rows * w ≤ length m
  pub cells : (i q : ℕ) → i < length rows → q < n → cell m w i q ≡ has (get_or rows i []) q

-- For a row of w words in a list of so many words.
unfoldable pub room : ℕ → ℕ → ℕ → Bool
room w i size = leb w 16 && ltb i 512 && leb ((i + 1) * w) size

-- m' is m with the row at place i, if there is room, and otherwise m itself. r is the answer.
pub record Put (w i : ℕ) (row m m' : List ℕ) (r : Bool) : Type 0 where
  pub answer : r ≡ room w i (length m)
  pub size : length m' ≡ length m
  pub cells : r ≡ true → (q : ℕ) → q < 64 * w → cell m' w i q ≡ has row q
  pub rest : r ≡ true → (k : ℕ) → (k < i * w) ⊎ (i * w + w ≤ k) → get_or m' k 0 ≡ get_or m k 0
  pub refused : r ≡ false → m' ≡ m
