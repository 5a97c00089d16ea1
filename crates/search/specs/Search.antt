-- What the private functions ask, and what they do: to rows, to the stand of the search, to the marks.
--   ColumnIn   column q, and the rows from top on, lie in the work list
--   First      the first row from top on with column q
--   Leaves     row i is added to each later row that has column q, and is counted no more
--   Column     row i clears column q: it is added to each other row that has it, and leaves; row top takes its place
--   Clears     the answer says whether a row cleared the column
--   row_of      the row left at a place
--   stand_of    how the search stands, by the work list
--   Sound      the untaken columns are columns, and the number of each is how many rows left have it
--   Knowns     the columns that are not lost are taken
--   Losts      the lost columns up to q are taken; those that a row clears are marked
use Rattle.std.specs.Prelude.{◌≡◌, Bool, true, false, cond, ◌&&◌, ◌⊎◌, List, ℕ, ◌+◌, ◌*◌, ◌≤◌, ◌<◌, leb, ltb, length, get_or}
use Rattle.binary.specs.Bits.{◌⊕◌}
use Rattle.binary.specs.Meaning.{Qubits}
use Rattle.binary.specs.Words.{listed}
use Rattle.packing.specs.Packed.{cell}
use Rattle.columns.specs.Columns.{untaken, Numbered}
use Rattle.numbering.specs.Numbering.{Stays, NumberedBut}
use Rattle.search.specs.Route.{Stand, some?, former, clearing, take_column, steps, ascend, Same}
use Rattle.search.specs.Marked.{columns_of}

----------------------------------------------------------------------
-- What lies in the lists

abbrev pub ColumnIn : ℕ → ℕ → ℕ → ℕ → List ℕ → Type 0
ColumnIn w top rows q m = (q < 64 * w) × (top ≤ rows) × (w ≤ 16) × (rows ≤ 512) × (rows * w ≤ 8192) × (10240 ≤ length m)

abbrev pub ColumnsIn : ℕ → ℕ → ℕ → List ℕ → Type 0
ColumnsIn n w rows m = (n ≤ 64 * w) × (n ≤ 1024) × (w ≤ 16) × (rows ≤ 512) × (rows * w ≤ 8192) × (10240 ≤ length m)

----------------------------------------------------------------------
-- Rows

-- r is its place, or `rows` where there is none.
pub record First (w top rows q : ℕ) (m : List ℕ) (r : ℕ) : Type 0 where
  pub start : top ≤ r
  pub within : r ≤ rows
  pub before : (i : ℕ) → top ≤ i → i < r → cell m w i q ≡ false
  pub found : r < rows → cell m w r q ≡ true

-- What it has itself then is not told.
pub record Leaves (w rows i q : ℕ) (m m' : List ℕ) : Type 0 where
  pub long : length m' ≡ length m
  pub added : (j c : ℕ) → i < j → j < rows → c < 64 * w → cell m' w j c ≡ cell m w j c ⊕ (cell m w j q && cell m w i c)
  pub kept : (j c : ℕ) → j < i → j < rows → c < 64 * w → cell m' w j c ≡ cell m w j c
  pub stays : Stays m m'
  pub numbered : (top : ℕ) → top ≤ i → Numbered w top rows m → NumberedBut w top rows i m'

pub record Column (w top rows q : ℕ) (m m' : List ℕ) (i : ℕ) : Type 0 where
  pub start : top ≤ i
  pub within : i < rows
  pub before : (j : ℕ) → top ≤ j → j < i → cell m w j q ≡ false
  pub found : cell m w i q ≡ true
  pub cells : (j c : ℕ) → top < j → j < rows → c < 64 * w
      → cell m' w j c ≡ cell m w (former top i j) c ⊕ (cell m w (former top i j) q && cell m w i c)

pub record Clears (w top rows q : ℕ) (m m' : List ℕ) (r : Bool) : Type 0 where
  pub long : length m' ≡ length m
  pub stays : Stays m m'
  pub cleared : r ≡ true → (i : ℕ) × Column w top rows q m m' i
  pub numbered : r ≡ true → Numbered w top rows m → Numbered w (top + 1) rows m'
  pub same : r ≡ false → m' ≡ m
  pub blank : r ≡ false → (i : ℕ) → top ≤ i → i < rows → cell m w i q ≡ false

-- It is noted.
pub record Noted (w top rows q : ℕ) (m m' : List ℕ) : Type 0 where
  pub long : length m' ≡ length m
  pub place : ℕ
  pub column : Column w top rows q m m' place
  pub note : get_or m' (9216 + top) 0 ≡ q
  pub stays : (k : ℕ) → 8448 ≤ k → (k ≡ 9216 + top → ⊥) → get_or m' k 0 ≡ get_or m k 0
  pub numbered : Numbered w top rows m → Numbered w (top + 1) rows m'

-- r is how many rows have cleared a column then: no row has the column, or one clears it.
abbrev pub Takes : ℕ → ℕ → ℕ → ℕ → List ℕ → List ℕ → ℕ → Type 0
Takes w top rows q m m' r =
    ((r ≡ top) × (m' ≡ m) × ((i : ℕ) → top ≤ i → i < rows → cell m w i q ≡ false)) ⊎ ((r ≡ top + 1) × Noted w top rows q m m')

----------------------------------------------------------------------
-- The stand of the search

-- Of n columns; empty where no row is left.
abbrev pub row_of : ℕ → ℕ → ℕ → ℕ → List ℕ → ℕ → Qubits
row_of n w rows top m i q = (leb top i && ltb i rows) && (ltb q n && cell m w i q)

abbrev pub stand_of : ℕ → ℕ → ℕ → ℕ → List ℕ → Stand
stand_of n w rows top m = record { untaken = λ q. ltb q n && untaken m q; columns = columns_of m top; row = row_of n w rows top m }

abbrev pub Sound : ℕ → ℕ → ℕ → ℕ → List ℕ → Type 0
Sound n w rows top m = ((c : ℕ) → c < 64 * w → untaken m c ≡ true → c < n) × Numbered w top rows m

-- r is how many rows have cleared one.
pub record Knowns (n w rows : ℕ) (m : List ℕ) (r : ℕ) (m' : List ℕ) : Type 0 where
  pub long : length m' ≡ length m
  pub within : r ≤ rows
  pub stands : Same (stand_of n w rows r m') (steps n rows n (stand_of n w rows 0 m))

----------------------------------------------------------------------
-- The lost columns

-- Column q, from where `top` rows have cleared one; r is how many have then.
pub record LostTaken (n w rows : ℕ) (lost : List ℕ) (q top : ℕ) (m marks : List ℕ) (r : ℕ) (m' marks' : List ℕ) : Type 0 where
  pub long : length m' ≡ length m
  pub size : length marks' ≡ length marks
  pub low : top ≤ r
  pub within : r ≤ rows
  pub order : (k : ℕ) → k < top → get_or m' (9216 + k) 0 ≡ get_or m (9216 + k) 0
  pub stands : Same (stand_of n w rows r m') (cond (listed n lost q) (take_column rows q (stand_of n w rows top m)) (stand_of n w rows top m))
  pub marked : get_or marks' q 0 ≡ cond (listed n lost q && some? (clearing rows q (stand_of n w rows top m))) 1 (get_or marks q 0)
  pub kept : (p : ℕ) → (p ≡ q → ⊥) → get_or marks' p 0 ≡ get_or marks p 0

-- Those below q.
pub record Losts (n w rows : ℕ) (lost : List ℕ) (top : ℕ) (m marks : List ℕ) (q r : ℕ) (m' marks' : List ℕ) : Type 0 where
  pub long : length m' ≡ length m
  pub size : length marks' ≡ length marks
  pub low : top ≤ r
  pub within : r ≤ rows
  pub order : (k : ℕ) → k < top → get_or m' (9216 + k) 0 ≡ get_or m (9216 + k) 0
  pub stands : Same (stand_of n w rows r m') (ascend rows (listed n lost) q (stand_of n w rows top m))
  pub marked : (p : ℕ) → p < q → get_or marks' p 0
      ≡ cond (listed n lost p && some? (clearing rows p (ascend rows (listed n lost) p (stand_of n w rows top m)))) 1 (get_or marks p 0)
  pub kept : (p : ℕ) → q ≤ p → get_or marks' p 0 ≡ get_or marks p 0
