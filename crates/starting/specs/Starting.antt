-- The start of a half in the lists.
--   open_mark     the marks before the fixed qubits are known
--   fixed_by      the fixed qubits, by the other kind's rows in the lists; fixed_in: in the lists of a half
--   Keeps        what is kept of the half's own rows is right over the marks
--   Saves        what is kept of the rows copied, and back: Restores
--   PeeledFirst  whether the lost qubits peel away
--   Routed       the work list has the columns that a row cleared, in the order of the search's route
--   Searched     the fixed qubits marked, and the columns of the route noted
--   Begun        the marks are the start's, and what is kept of the rows is right over them
--   enough?      whether sizes are in range and lists long enough; enoughIn?: of the lists; searchable?: for the search alone
--   Starts       the promise of `start`
--   Opens        the promise of `open_marks`; Marks: of `mark_start`
use Rattle.std.specs.Prelude.{◌≡◌, Bool, true, false, ◌&&◌, cond, List, ℕ, ◌+◌, ◌≤◌, ◌<◌, leb, length, get_or}
use Rattle.binary.specs.Meaning.{Qubits, Row, All, Commute, fixed?}
use Rattle.binary.specs.Words.{listed}
use Rattle.lists.specs.Filled.{Filled}
use Rattle.search.specs.Route.{known, route}
use Rattle.search.specs.Marked.{columns_of}
use Rattle.code.specs.Lists.{rows_from}
use Rattle.code.specs.Tests.{Ascending}
use Rattle.machine.specs.Machine.{is_open, start_mark}
use Rattle.machine.specs.Lists.{view}
use Rattle.machine.specs.Peeling.{peels_away}
use Rattle.scans.specs.Rows.{RowLists, row_checks, GoodRows}
use Rattle.kept.specs.Kept.{Kept, RowsOn}

-- Lost qubits are open until the fixed ones are known.
abbrev pub open_mark : ℕ → List ℕ → ℕ → ℕ
open_mark n lost q = cond (listed n lost q) 4 0

-- By the other kind's rows.
abbrev pub fixed_by : ℕ → List ℕ → List ℕ → List ℕ → ℕ → ℕ → Qubits
fixed_by n flat ends lost other others = fixed? n (rows_from flat ends other others) (listed n lost)

abbrev pub fixed_in : ℕ → RowLists → List ℕ → ℕ → ℕ → Qubits
fixed_in n c = fixed_by n c.flat c.ends

pub record Keeps (n : ℕ) (c : RowLists) (work marks : List ℕ) : Type 0 where
  pub kept : Kept (is_open (view n marks)) c work
  pub on : RowsOn (is_open (view n marks)) c work

----------------------------------------------------------------------
-- The two ways

-- The numbers of so many rows, the dangling rows and how many they are, copied to a second place; below 9216 every element stays.
pub record Saves (count : ℕ) (old new : List ℕ) : Type 0 where
  pub long : length new ≡ length old
  pub stays : (k : ℕ) → k < 9216 → get_or new k 0 ≡ get_or old k 0
  pub set : (j : ℕ) → j < 9 → get_or new (9216 + j) 0 ≡ get_or old (8192 + j) 0
  pub counts : (j : ℕ) → j < count → get_or new (9728 + j) 0 ≡ get_or old (8704 + j) 0

-- And back; below 8192 every element stays.
pub record Restores (count : ℕ) (old new : List ℕ) : Type 0 where
  pub long : length new ≡ length old
  pub stays : (k : ℕ) → k < 8192 → get_or new k 0 ≡ get_or old k 0
  pub set : (j : ℕ) → j < 9 → get_or new (8192 + j) 0 ≡ get_or old (9216 + j) 0
  pub counts : (j : ℕ) → j < count → get_or new (8704 + j) 0 ≡ get_or old (9728 + j) 0

-- What was kept of the rows, before it was used up: elements below 8192 stay, and the others have a copy.
pub record Saved (n : ℕ) (c : RowLists) (marks work' : List ℕ) : Type 0 where
  pub work : List ℕ
  pub keeps : Keeps n c work marks
  pub below : (k : ℕ) → k < 8192 → get_or work' k 0 ≡ get_or work k 0
  pub set : (j : ℕ) → j < 9 → get_or work' (9216 + j) 0 ≡ get_or work (8192 + j) 0
  pub counts : (j : ℕ) → j < c.count → get_or work' (9728 + j) 0 ≡ get_or work (8704 + j) 0

pub record PeeledFirst (n : ℕ) (c : RowLists) (lost work work' marks marks' : List ℕ) (r : Bool) : Type 0 where
  pub long : length work' ≡ length work
  pub opened : Filled (open_mark n lost) n marks marks'
  pub told : GoodRows n c → r ≡ peels_away (row_checks c) n (listed n lost)
  pub saved : GoodRows n c → Saved n c marks' work'

-- Those that are not lost, and all, the latest first (document 02, request d).
pub record Routed (n : ℕ) (rs : List Row) (lost : Qubits) (work : List ℕ) : Type 0 where
  pub knowns : columns_of work (length (known n rs lost).columns) ≡ (known n rs lost).columns
  pub all : columns_of work (length (route n rs lost).columns) ≡ (route n rs lost).columns

-- From marks that have every lost qubit open.
pub record Searched (n : ℕ) (flat ends lost : List ℕ) (other others : ℕ) (work work' marks marks' : List ℕ) : Type 0 where
  pub work_long : length work' ≡ length work
  pub marks_long : length marks' ≡ length marks
  pub rest : (q : ℕ) → n ≤ q → get_or marks' q 0 ≡ get_or marks q 0
  pub marked : ((q : ℕ) → q < n → get_or marks q 0 ≡ open_mark n lost q) → All (Ascending n) (rows_from flat ends other others)
      → view n marks' ≡ start_mark (listed n lost) (fixed_by n flat ends lost other others)
  pub routed : All (Ascending n) (rows_from flat ends other others) → Routed n (rows_from flat ends other others) (listed n lost) work'

----------------------------------------------------------------------
-- The promise

pub record Begun (n : ℕ) (c : RowLists) (lost : List ℕ) (other others : ℕ) (work marks : List ℕ) : Type 0 where
  pub marked : view n marks ≡ start_mark (listed n lost) (fixed_in n c lost other others)
  pub keeps : Keeps n c work marks

unfoldable pub enough? : ℕ → ℕ → ℕ → ℕ → ℕ → ℕ → ℕ → ℕ → ℕ → Bool
enough? n lost lit first count other others work marks =
    leb n 1024 && leb count 512 && leb others 512 && leb first 512 && leb other 512 && leb 10240 work && leb n lost && leb (first + count) lit && leb n marks

abbrev pub enough_in? : ℕ → RowLists → List ℕ → ℕ → ℕ → List ℕ → List ℕ → Bool
enough_in? n c lost other others work marks = enough? n (length lost) (length c.lit) c.first c.count other others (length work) (length marks)

-- Where sizes are in range and lists long enough, of rows that are strictly ascending and below n, and commute. Otherwise nothing is written. Where peeling leaves a qubit the search is
-- made, and the work list has the columns of its route.
pub record Starts (n : ℕ) (c : RowLists) (lost : List ℕ) (other others : ℕ) (work work' marks marks' : List ℕ) : Type 0 where
  pub work_long : length work' ≡ length work
  pub marks_long : length marks' ≡ length marks
  pub rest : (q : ℕ) → n ≤ q → get_or marks' q 0 ≡ get_or marks q 0
  pub refused : enough_in? n c lost other others work marks ≡ false → (work' ≡ work) × (marks' ≡ marks)
  pub begun : enough_in? n c lost other others work marks ≡ true → GoodRows n c → All (Ascending n) (rows_from c.flat c.ends other others)
      → Commute (rows_from c.flat c.ends c.first c.count) (rows_from c.flat c.ends other others) → Begun n c lost other others work' marks'
  pub routed : enough_in? n c lost other others work marks ≡ true → GoodRows n c → All (Ascending n) (rows_from c.flat c.ends other others)
      → peels_away (row_checks c) n (listed n lost) ≡ false → Routed n (rows_from c.flat c.ends other others) (listed n lost) work'

----------------------------------------------------------------------
-- The marks alone

-- Where the lists are long enough every lost qubit is marked open, as if none were fixed. Otherwise nothing is written.
pub record Opens (n : ℕ) (lost marks marks' : List ℕ) : Type 0 where
  pub long : length marks' ≡ length marks
  pub opened : (leb n (length lost) && leb n (length marks)) ≡ true → Filled (open_mark n lost) n marks marks'
  pub refused : (leb n (length lost) && leb n (length marks)) ≡ false → marks' ≡ marks

-- Of the lengths of the lists.
unfoldable pub searchable? : ℕ → ℕ → ℕ → ℕ → ℕ → ℕ → Bool
searchable? n lost other others work marks = leb n 1024 && leb others 512 && leb other 512 && leb 10240 work && leb n lost && leb n marks

-- Where sizes are in range and lists long enough, the marks are the start's, and the work list has the columns of the route, of the other kind's rows. Otherwise nothing is
-- written.
pub record Marks (n : ℕ) (flat ends lost : List ℕ) (other others : ℕ) (work work' marks marks' : List ℕ) : Type 0 where
  pub work_long : length work' ≡ length work
  pub marks_long : length marks' ≡ length marks
  pub rest : (q : ℕ) → n ≤ q → get_or marks' q 0 ≡ get_or marks q 0
  pub refused : searchable? n (length lost) other others (length work) (length marks) ≡ false → (work' ≡ work) × (marks' ≡ marks)
  pub marked : searchable? n (length lost) other others (length work) (length marks) ≡ true → All (Ascending n) (rows_from flat ends other others)
      → view n marks' ≡ start_mark (listed n lost) (fixed_by n flat ends lost other others)
  pub routed : searchable? n (length lost) other others (length work) (length marks) ≡ true → All (Ascending n) (rows_from flat ends other others)
      → Routed n (rows_from flat ends other others) (listed n lost) work'
