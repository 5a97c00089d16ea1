-- The rows on each qubit, kept with the code: 15 elements for each qubit, behind the 1,024 ends of the rows, in one list.
--   slot      where a qubit's elements begin: how many rows are on it, then these rows
--   number_on  how many rows are on a qubit; 15 where there are more than 14, which have no place
--   rows_on    the rows on a qubit, X rows and Z rows in their order, numbered as in the ends
--   note_on    a row more on a qubit; note_all: on each of its qubits
--   emptied   no row is on a qubit below n
--   noted     the list after a row of the code: the first begins with no row on any qubit
--   Listed    the list has the rows on each qubit that has a place for them
use Rattle.std.specs.Prelude.{◌≡◌, false, cond, List, [], ◌∷◌, ℕ, zero, suc, ◌+◌, ◌*◌, ◌≤◌, ◌<◌, eqb, ltb, leb, length, get_or, set, take, drop}
use Rattle.binary.specs.Meaning.{Row, has}
use Rattle.code.specs.Tests.{Distinct}

abbrev pub slot : ℕ → ℕ
slot q = 1024 + 15 * q

abbrev pub number_on : List ℕ → ℕ → ℕ
number_on l q = get_or l (slot q) 0

unfoldable pub rows_on : List ℕ → ℕ → List ℕ
rows_on l q = take (number_on l q) (drop (slot q + 1) l)

-- Where there is no place for row i, the number says so.
abbrev pub put_on : ℕ → List ℕ → ℕ → ℕ → List ℕ
put_on i l q number = cond (ltb number 14) (set (set l (slot q + 1 + number) i) (slot q) (number + 1)) (set l (slot q) 15)

-- A list without the qubit's elements stays.
unfoldable pub note_on : ℕ → List ℕ → ℕ → List ℕ
note_on i l q = cond (leb (slot q + 15) (length l)) (put_on i l q (number_on l q)) l

unfoldable pub note_all : ℕ → Row → List ℕ → List ℕ
note_all i [] l = l
note_all i (q ∷ row) l = note_all i row (note_on i l q)

unfoldable pub emptied : ℕ → List ℕ → List ℕ
emptied zero l = l
emptied (suc n) l = set (emptied n l) (slot n) 0

unfoldable pub noted : ℕ → ℕ → Row → List ℕ → List ℕ
noted n i row l = note_all i row (cond (eqb i 0) (emptied n l) l)

-- Of a code with these rows, none of them twice.
pub record ListedOn (rows : List Row) (l : List ℕ) (q : ℕ) : Type 0 where
  pub once : Distinct (rows_on l q)
  pub are : (r : ℕ) → r < length rows → has (rows_on l q) r ≡ has (get_or rows r []) q
  pub no_other : (r : ℕ) → length rows ≤ r → has (rows_on l q) r ≡ false

abbrev pub Listed : ℕ → List Row → List ℕ → Type 0
Listed n rows l = 0 < length rows → (q : ℕ) → q < n → number_on l q ≤ 14 → ListedOn rows l q
