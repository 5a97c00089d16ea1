-- What is kept of a half's rows, made from the marks.
--   Beyond    the elements behind what is kept stay
--   Emptied   the sets of the open qubits and of the dangling rows are empty
--   RowAdded  a row is on each of its open qubits
--   KeptTo    the first rows are kept
--   RowPut    a row is on a qubit, and has an open qubit more; ReadAs: it is one of the half's that was read
--   Opens     a qubit becomes open: the numbers of the rows, and the rows on each qubit, have it
--   RowsPut   the same, from the rows on the qubit; QubitKept: from the list of the rows on each qubit; QubitsKept: of all open qubits
--   enough?   whether sizes are in range and lists long enough; Room: that they are
--   Fills     everything kept of the rows, from the marks
use Rattle.std.specs.Prelude.{◌≡◌, Bool, true, false, ◌&&◌, cond, List, ℕ, ◌+◌, ◌≤◌, ◌<◌, eqb, ltb, leb, length, get_or}
use Rattle.binary.specs.Bits.{◌⊕◌}
use Rattle.binary.specs.Meaning.{Qubits, has}
use Rattle.bitsets.specs.Bitsets.{in_set, Flipped}
use Rattle.code.specs.Tests.{Distinct}
use Rattle.incidence.specs.Incidence.{number_on, rows_on}
use Rattle.machine.specs.Machine.{is_open, part, put}
use Rattle.machine.specs.Lists.{view}
use Rattle.scans.specs.Rows.{RowLists, rows_in, read?, GoodRows}
use Rattle.scans.specs.Half.{sized?}
use Rattle.kept.specs.Kept.{row_in, open_in, Counted, Kept, RowsOn, Tallied, Raised}

abbrev pub Beyond : List ℕ → List ℕ → Type 0
Beyond old new = (k : ℕ) → 9216 ≤ k → get_or new k 0 ≡ get_or old k 0

-- The sets of the open qubits and of the dangling rows are empty.
pub record Emptied (n : ℕ) (marks old new : List ℕ) : Type 0 where
  pub long : length new ≡ length old
  pub sets : (q j : ℕ) → is_open (view n marks) q ≡ true → j < 512 → in_set new q j ≡ false
  pub dangling : (j : ℕ) → j < 512 → in_set new 1024 j ≡ false
  pub total : get_or new 8200 0 ≡ 0
  pub past : Beyond old new

-- Row i, which has no qubit twice, is on each of its open qubits; so many these are.
pub record RowAdded (n i : ℕ) (row marks old new : List ℕ) (number : ℕ) : Type 0 where
  pub long : length new ≡ length old
  pub count : number ≡ length (part (is_open (view n marks)) row)
  pub beyond : (k : ℕ) → 8192 ≤ k → get_or new k 0 ≡ get_or old k 0
  pub sets : Distinct row → (q j : ℕ) → is_open (view n marks) q ≡ true → j < 512 → in_set new q j ≡ in_set old q j ⊕ (eqb j i && has row q)

-- The first rows are kept, those before i.
pub record KeptTo (i n : ℕ) (c : RowLists) (marks work : List ℕ) : Type 0 where
  pub counts : (j : ℕ) → j < i → get_or work (8704 + j) 0 ≡ open_in (is_open (view n marks)) c j
  pub tallied : Tallied i work
  pub free : (j : ℕ) → i ≤ j → j < 512 → in_set work 1024 j ≡ false
  pub on : GoodRows n c
      → (q j : ℕ) → is_open (view n marks) q ≡ true → j < 512 → in_set work q j ≡ cond (ltb j i) (has (row_in c j) q) false

-- Row r of all rows is row i of the half, and was read.
pub record ReadAs (first count : ℕ) (lit : List ℕ) (r i : ℕ) : Type 0 where
  pub is : r ≡ first + i
  pub within : i < count
  pub read : read? lit r ≡ true

-- Row r, if it is one of the half's that was read. Otherwise nothing is written.
pub record RowPut (q r first count : ℕ) (lit old new : List ℕ) : Type 0 where
  pub long : length new ≡ length old
  pub puts : (i : ℕ) → ReadAs first count lit r i → (mid : List ℕ) × Flipped q i old mid × Raised i mid new
  pub passes : ((i : ℕ) → ReadAs first count lit r i → ⊥) → new ≡ old
  pub past : q < 1024 → Beyond old new

abbrev pub CountedWith : Qubits → RowLists → List ℕ → Type 0
CountedWith o c work = Counted o c work × RowsOn o c work

-- Of rows without repeats; the qubits o were open before.
abbrev pub Opens : ℕ → RowLists → List ℕ → List ℕ → Type 0
Opens q c old new =
    (n : ℕ) → n ≤ 1024 → q < n → GoodRows n c → (o : Qubits) → ((p : ℕ) → o p ≡ true → p < n) → o q ≡ false → CountedWith o c old → CountedWith (put q true o) c new

pub record RowsPut (q : ℕ) (on : List ℕ) (first count : ℕ) (lit old new : List ℕ) : Type 0 where
  pub long : length new ≡ length old
  pub opens : (flat ends : List ℕ) → number_on ends q ≤ 14 → on ≡ rows_on ends q → Opens q (rows_in flat ends first count lit) old new
  pub past : q < 1024 → Beyond old new

-- Where it is told that all rows on the qubit are listed.
pub record QubitKept (q : ℕ) (ends : List ℕ) (first count : ℕ) (lit old new : List ℕ) (told : Bool) : Type 0 where
  pub long : length new ≡ length old
  pub opens : told ≡ true → (flat : List ℕ) → Opens q (rows_in flat ends first count lit) old new
  pub past : q < 1024 → Beyond old new

pub record QubitsKept (n : ℕ) (ends : List ℕ) (first count : ℕ) (lit marks old new : List ℕ) (told : Bool) : Type 0 where
  pub long : length new ≡ length old
  pub kept : told ≡ true → (flat : List ℕ) → let c = rows_in flat ends first count lit in GoodRows n c → Kept (is_open (view n marks)) c new × RowsOn (is_open (view n marks)) c new
  pub past : Beyond old new

unfoldable pub enough? : ℕ → RowLists → ℕ → Bool
enough? n c work = sized? n c && leb 9216 work

-- Of a work list of that length.
pub record Room (n : ℕ) (c : RowLists) (work : ℕ) : Type 0 where
  pub size : n ≤ 1024
  pub few : c.count ≤ 512
  pub last : c.first + c.count ≤ 1024
  pub words : 9216 ≤ work
  pub lit : c.first + c.count ≤ length c.lit

-- Where sizes are in range and lists long enough, what is kept of good rows is a fresh count over the marks, and the rows on each open qubit. Otherwise nothing is written.
pub record Fills (n : ℕ) (c : RowLists) (marks old new : List ℕ) : Type 0 where
  pub long : length new ≡ length old
  pub past : Beyond old new
  pub refused : enough? n c (length old) ≡ false → new ≡ old
  pub kept : enough? n c (length old) ≡ true → GoodRows n c → Kept (is_open (view n marks)) c new
  pub rows : enough? n c (length old) ≡ true → GoodRows n c → RowsOn (is_open (view n marks)) c new
