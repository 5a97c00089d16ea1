-- What is kept of each row while the turns are tried, in the half's work list: the number of its open qubits and the dangling rows, as crate kept has them; the sum
-- of its open qubits, from element 9216 on, modulo 65536; and the parity of the values of its settled qubits, from element 9728 on.
--   Entry        the three numbers of a row; entry_in: those that a list has
--   entry_of      those of a row, of the open qubits and the values of the settled ones; an open one has none, and counts as 0
--   HasEntries   a list has those of each row of the half; Tracks: and the dangling rows
--   rows_over    the rows with another list of qubits, which is not read
--   EntryPut     a row's three numbers written
--   opened       a row's numbers with an open qubit more; settled: with one less, which has a value
--   RowOpened    a row has an open qubit more; Opens: so has each row on a qubit; RowsOpened: from the list of these rows
--   RowSettled   a row has an open qubit less; Settles: so has each row on a qubit; RowsSettled: from the list of these rows
--   ReadRight    the rows on a qubit that are closed fire exactly if they are lit
use Rattle.std.specs.Prelude.{◌≡◌, Bool, true, false, cond, List, ℕ, ◌+◌, ◌-◌, ◌%◌, ◌≤◌, ◌<◌, eqb, length, get_or}
use Rattle.binary.specs.Bits.{summed}
use Rattle.binary.specs.Meaning.{Qubits, Row, has, odd}
use Rattle.incidence.specs.Incidence.{number_on, rows_on}
use Rattle.machine.specs.Machine.{part, put, closed?}
use Rattle.machine.specs.Lists.{digit, lit?}
use Rattle.scans.specs.Rows.{RowLists, rows_in, check_in, read_in?, GoodRows}
use Rattle.kept.specs.Kept.{row_in, Tallied, Retallied}
use Rattle.filling.specs.Filling.{ReadAs}

----------------------------------------------------------------------
-- The numbers of a row

pub record Entry : Type 0 where
  pub number : ℕ
  pub sum : ℕ
  pub parity : ℕ

abbrev pub entry_in : List ℕ → ℕ → Entry
entry_in work i = record { number = get_or work (8704 + i) 0; sum = get_or work (9216 + i) 0; parity = get_or work (9728 + i) 0 }

abbrev pub total : List ℕ → ℕ
total = summed (λ q. q)

-- With the qubits o open, and the values x.
abbrev pub entry_of : Qubits → Qubits → Row → Entry
entry_of o x r = record { number = length (part o r); sum = total (part o r) % 65536; parity = digit (odd x r) }

abbrev pub HasEntries : Qubits → Qubits → RowLists → List ℕ → Type 0
HasEntries o x c work = (i : ℕ) → i < c.count → entry_in work i ≡ entry_of o x (row_in c i)

pub record Tracks (o x : Qubits) (c : RowLists) (work : List ℕ) : Type 0 where
  pub entries : HasEntries o x c work
  pub tallied : Tallied c.count work

abbrev pub rows_over : List ℕ → RowLists → RowLists
rows_over flat c = rows_in flat c.ends c.first c.count c.lit

-- Row i has these numbers, the other rows keep theirs.
abbrev pub EntryPut : ℕ → Entry → List ℕ → List ℕ → Type 0
EntryPut i e old new = (j : ℕ) → j < 512 → entry_in new j ≡ cond (eqb i j) e (entry_in old j)

----------------------------------------------------------------------
-- A qubit becomes open

abbrev pub opened : ℕ → Entry → Entry
opened q e = record { number = e.number + 1; sum = (e.sum % 65536 + q) % 65536; parity = e.parity }

-- Row r, if it is one of the half's that was read. Otherwise nothing is written.
pub record RowOpened (q r first count : ℕ) (lit old new : List ℕ) : Type 0 where
  pub long : length new ≡ length old
  pub opens : (i : ℕ) → ReadAs first count lit r i → get_or old (8704 + i) 0 < 1024 → EntryPut i (opened q (entry_in old i)) old new
  pub passes : ((i : ℕ) → ReadAs first count lit r i → ⊥) → new ≡ old

-- The qubits o were open before. The dangling rows do not follow.
abbrev pub Opens : ℕ → RowLists → List ℕ → List ℕ → Type 0
Opens q c old new =
    (n : ℕ) → n ≤ 1024 → q < n → GoodRows n c → (o x : Qubits) → o q ≡ false → HasEntries o x c old → HasEntries (put q true o) x c new

pub record RowsOpened (q : ℕ) (on : List ℕ) (first count : ℕ) (lit old new : List ℕ) : Type 0 where
  pub long : length new ≡ length old
  pub opens : (flat ends : List ℕ) → number_on ends q ≤ 14 → on ≡ rows_on ends q → Opens q (rows_in flat ends first count lit) old new

----------------------------------------------------------------------
-- An open qubit is settled

abbrev pub settled : ℕ → ℕ → Entry → Entry
settled p v e = record { number = e.number - 1; sum = (e.sum % 65536 + 65536 - p) % 65536; parity = (e.parity % 2 + v) % 2 }

-- Row r of all rows is row i of the half, and has an open qubit.
pub record OpenAs (first count : ℕ) (work : List ℕ) (r i : ℕ) : Type 0 where
  pub is : r ≡ first + i
  pub within : i < count
  pub some_open_lem : 1 ≤ get_or work (8704 + i) 0

-- Row r, if it is one of the half's and has an open qubit; the dangling rows are told anew. Otherwise nothing is written. It is told whether the row, if this closed it, reads right.
pub record RowSettled (p v r first count : ℕ) (lit old new : List ℕ) (told : Bool) : Type 0 where
  pub long : length new ≡ length old
  pub settles : (i : ℕ) → OpenAs first count old r i → EntryPut i (settled p v (entry_in old i)) old new
  pub tallied : (i : ℕ) → OpenAs first count old r i → Retallied i old new
  pub reads : told ≡ true → (i : ℕ) → OpenAs first count old r i → (settled p v (entry_in old i)).number ≡ 0 → (settled p v (entry_in old i)).parity ≡ digit (lit? (get_or lit r 0))
  pub passes : ((i : ℕ) → OpenAs first count old r i → ⊥) → new ≡ old

-- Each row on qubit p that was read and has no open qubit fires exactly if it is lit.
abbrev pub ReadRight : ℕ → Qubits → Qubits → RowLists → Type 0
ReadRight p o x c = (i : ℕ) → i < c.count → read_in? c i ≡ true → has (check_in c i).row p ≡ true → closed? o (check_in c i) ≡ true → odd x (check_in c i).row ≡ (check_in c i).lit

-- The qubits o were open before, and had no value.
abbrev pub Settles : ℕ → ℕ → RowLists → List ℕ → List ℕ → Type 0
Settles p v c old new =
    (n : ℕ) → n ≤ 1024 → p < n → GoodRows n c → (o x : Qubits) → o p ≡ true → x p ≡ false → Tracks o x c old
    → Tracks (put p false o) (put p (eqb v 1) x) c new × ReadRight p (put p false o) (put p (eqb v 1) x) c

pub record RowsSettled (p v : ℕ) (on : List ℕ) (first count : ℕ) (lit old new : List ℕ) (told : Bool) : Type 0 where
  pub long : length new ≡ length old
  pub settles : told ≡ true → (flat ends : List ℕ) → number_on ends p ≤ 14 → on ≡ rows_on ends p → Settles p v (rows_in flat ends first count lit) old new
