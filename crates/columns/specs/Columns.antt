-- The untaken columns of packed rows, and how many rows have each.
--   untaken    whether the work list has a column as untaken: a bit each from element 8448 on
--   rows_with   how many rows from place top on have a column
--   Numbered   the number of each untaken column is that
use Rattle.std.specs.Prelude.{◌≡◌, Bool, true, ◌&&◌, List, ℕ, ◌+◌, ◌*◌, ◌/◌, ◌%◌, ◌<◌, leb, get_or}
use Rattle.binary.specs.Bits.{tally}
use Rattle.binary.specs.Words.{bit}
use Rattle.packing.specs.Packed.{cell}
use Rattle.columns.specs.Planes.{number}

unfoldable pub untaken : List ℕ → ℕ → Bool
untaken m c = bit (get_or m (8448 + c / 64) 0) (c % 64)

abbrev pub rows_with : List ℕ → ℕ → ℕ → ℕ → ℕ → ℕ
rows_with m w top rows c = tally rows (λ i. leb top i && cell m w i c)

-- Of w words.
abbrev pub Numbered : ℕ → ℕ → ℕ → List ℕ → Type 0
Numbered w top rows m = (c : ℕ) → c < 64 * w → untaken m c ≡ true → number m c ≡ rows_with m w top rows c
