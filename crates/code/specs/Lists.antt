-- Rows end to end in one list, with the list of their ends (document 01, "Records": the part that a row occupies).
--   start_of      where a row starts: at the end of the row before it; row 0 at 0
--   row_at        the part of the flat list that a row occupies
--   rows_between  the rows from one number up to another
--   Held         row r stands in the lists: it ends its length past its start, within the list, and has its qubits there
--   Flat         the lists hold these rows, from row 0 on, end to end
use Rattle.std.specs.Prelude.{◌≡◌, cond, List, [], ◌∷◌, ℕ, zero, suc, ◌+◌, ◌-◌, ◌<◌, ◌≤◌, leb, length, get_or, take, drop}
use Rattle.binary.specs.Meaning.{Row}

unfoldable pub start_of : List ℕ → ℕ → ℕ
start_of ends r = get_or (0 ∷ ends) r 0

-- Of a row past the ends, or whose end lies before its start or past the list, the part is empty.
unfoldable pub row_at : List ℕ → List ℕ → ℕ → Row
row_at flat ends r =
    cond (leb (get_or ends r 0) (length flat)) (drop (start_of ends r) (take (get_or ends r 0) flat)) []

-- So many rows from row r on.
abbrev pub rows_from : List ℕ → List ℕ → ℕ → ℕ → List Row
rows_from flat ends r zero = []
rows_from flat ends r (suc count) = row_at flat ends r ∷ rows_from flat ends (suc r) count

unfoldable pub rows_between : List ℕ → List ℕ → ℕ → ℕ → List Row
rows_between flat ends from to = rows_from flat ends from (to - from)

pub record Held (flat ends : List ℕ) (r : ℕ) (row : Row) : Type 0 where
  pub ends_at : get_or ends r 0 ≡ start_of ends r + length row
  pub within : get_or ends r 0 ≤ length flat
  pub is : row_at flat ends r ≡ row

pub record Flat (rows : List Row) (flat ends : List ℕ) : Type 0 where
  pub count : length rows ≤ length ends
  pub held : (r : ℕ) → r < length rows → Held flat ends r (get_or rows r [])
