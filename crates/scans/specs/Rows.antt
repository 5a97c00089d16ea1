-- The rows of a half in the lists of the code, with their readings.
--   RowLists    the lists, with the half's first row and how many it has; rows_in: the rows, with any readings
--   check_at     a row with its reading; check_in: row i of the half
--   read?       whether a row was read; readIn?: whether row i of the half was; read_row: its qubits, none of an unread row
--   checks_from  the rows that were read, from a row on, with their readings; row_checks: the half's
--   ListedIn    the rows on a qubit, kept with the code, are those of the half that have it, none twice
--   GoodRows    the half's rows are strictly ascending and below n, and listed on each qubit that has a place for them
use Rattle.std.specs.Prelude.{◌≡◌, Bool, not, cond, List, [], ℕ, zero, suc, ◌+◌, ◌≤◌, ◌<◌, get_or}
use Rattle.binary.specs.Meaning.{All, Check, has}
use Rattle.code.specs.Lists.{row_at, rows_from}
use Rattle.code.specs.Tests.{Ascending, Distinct}
use Rattle.incidence.specs.Incidence.{number_on, rows_on}
use Rattle.machine.specs.Machine.{keep_if}
use Rattle.machine.specs.Lists.{lit?, unread?}

pub record RowLists : Type 0 where
  pub flat : List ℕ
  pub ends : List ℕ
  pub lit : List ℕ
  pub first : ℕ
  pub count : ℕ

abbrev pub rows_in : List ℕ → List ℕ → ℕ → ℕ → List ℕ → RowLists
rows_in flat ends first count lit = record { flat = flat; ends = ends; lit = lit; first = first; count = count }

abbrev pub check_at : List ℕ → List ℕ → List ℕ → ℕ → Check
check_at flat ends lit r = record { lit = lit? (get_or lit r 0); row = row_at flat ends r }

abbrev pub check_in : RowLists → ℕ → Check
check_in c i = check_at c.flat c.ends c.lit (c.first + i)

abbrev pub read? : List ℕ → ℕ → Bool
read? lit r = not (unread? (get_or lit r 0))

abbrev pub read_in? : RowLists → ℕ → Bool
read_in? c i = read? c.lit (c.first + i)

abbrev pub read_row : List ℕ → List ℕ → List ℕ → ℕ → List ℕ
read_row flat ends lit r = cond (read? lit r) (row_at flat ends r) []

abbrev pub checks_from : List ℕ → List ℕ → List ℕ → ℕ → ℕ → List Check
checks_from flat ends lit r zero = []
checks_from flat ends lit r (suc count) = keep_if (read? lit r) (check_at flat ends lit r) (checks_from flat ends lit (suc r) count)

abbrev pub row_checks : RowLists → List Check
row_checks c = checks_from c.flat c.ends c.lit c.first c.count

-- Rows of the other kind may be among them.
pub record ListedIn (c : RowLists) (q : ℕ) : Type 0 where
  pub once : Distinct (rows_on c.ends q)
  pub are : (i : ℕ) → i < c.count → has (rows_on c.ends q) (c.first + i) ≡ has (row_at c.flat c.ends (c.first + i)) q

pub record GoodRows (n : ℕ) (c : RowLists) : Type 0 where
  pub ascending : All (Ascending n) (rows_from c.flat c.ends c.first c.count)
  pub listed : 0 < c.count → (q : ℕ) → q < n → number_on c.ends q ≤ 14 → ListedIn c q
