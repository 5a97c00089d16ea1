-- What is kept of a half's rows while it is decoded (document 02, request b), in its work list: 8 words for the rows on each qubit, from element 0 on; the
-- set of dangling rows, set 1024; how many they are, element 8200; and of each row the number of its open qubits, from element 8704 on.
--   open_in     the number of open qubits of a row of the half; an unread row is left out, and has none
--   dangles?   whether a row dangles: it has one
--   Counted    the kept number of each row is a fresh count over the marks; Kept: so are the dangling rows
--   RowsOn     the rows on each open qubit
--   Tallied    the dangling rows are those whose kept number is 1
--   Changes    a row joins the dangling rows, or leaves them
--   Numbered   a row has another number; Retallied: the dangling rows are told by it
--   Lowered    a row has an open qubit less; LoweredRows: each row on a qubit
--   Raised     a row has an open qubit more
--   Finds      the dangling rows found from the numbers; dangling_word: of up to 64 rows, as a word
--   Lowest     the lowest dangling row; that none dangles is told by their number
use Rattle.std.specs.Prelude.{◌≡◌, Bool, true, false, ◌&&◌, cond, List, ℕ, ◌+◌, ◌-◌, ◌%◌, ◌≤◌, ◌<◌, eqb, ltb, length, get_or}
use Rattle.binary.specs.Bits.{◌⊕◌, tally}
use Rattle.binary.specs.Meaning.{Qubits, has}
use Rattle.binary.specs.Words.{number_of}
use Rattle.bitsets.specs.Bitsets.{in_set, NextIn}
use Rattle.machine.specs.Machine.{put, part}
use Rattle.scans.specs.Rows.{RowLists, read_row, GoodRows}

-- Row i of the half.
abbrev pub row_in : RowLists → ℕ → List ℕ
row_in c i = read_row c.flat c.ends c.lit (c.first + i)

abbrev pub open_in : Qubits → RowLists → ℕ → ℕ
open_in o c i = length (part o (row_in c i))

abbrev pub dangles? : Qubits → RowLists → ℕ → Bool
dangles? o c i = eqb (open_in o c i) 1

abbrev pub Counted : Qubits → RowLists → List ℕ → Type 0
Counted o c work = (i : ℕ) → i < c.count → get_or work (8704 + i) 0 ≡ open_in o c i

pub record Kept (o : Qubits) (c : RowLists) (work : List ℕ) : Type 0 where
  pub counts : Counted o c work
  pub dangling : (i : ℕ) → i < c.count → in_set work 1024 i ≡ dangles? o c i
  pub total : get_or work 8200 0 ≡ tally c.count (dangles? o c)

pub record RowsOn (o : Qubits) (c : RowLists) (work : List ℕ) : Type 0 where
  pub on : (q i : ℕ) → o q ≡ true → i < c.count → in_set work q i ≡ has (row_in c i) q

----------------------------------------------------------------------
-- One row

-- By the kept number of each of the first rows.
abbrev pub single? : List ℕ → ℕ → Bool
single? work i = eqb (get_or work (8704 + i) 0) 1

pub record Tallied (count : ℕ) (work : List ℕ) : Type 0 where
  pub dangling : (i : ℕ) → i < count → in_set work 1024 i ≡ single? work i
  pub total : get_or work 8200 0 ≡ tally count (single? work)

-- Row i joins the dangling rows, or leaves them.
pub record Changed (i : ℕ) (joins : Bool) (old new : List ℕ) : Type 0 where
  pub long : length new ≡ length old
  pub sets : (t j : ℕ) → t ≤ 1024 → j < 512 → in_set new t j ≡ in_set old t j ⊕ (eqb t 1024 && eqb j i)
  pub total : get_or new 8200 0 ≡ cond joins (cond (ltb (get_or old 8200 0) 512) (get_or old 8200 0 + 1) (get_or old 8200 0)) (get_or old 8200 0 - 1)
  pub below : (k : ℕ) → k < 8192 → get_or new k 0 ≡ get_or old k 0
  pub beyond : (k : ℕ) → 8201 ≤ k → get_or new k 0 ≡ get_or old k 0

-- Where the list is too short or has no such row, nothing is written.
pub record Changes (i : ℕ) (joins : Bool) (old new : List ℕ) : Type 0 where
  pub long : length new ≡ length old
  pub changed : 9216 ≤ length old → i < 512 → Changed i joins old new
  pub refused : (9216 ≤ length old → i < 512 → ⊥) → new ≡ old

-- Row i has this number, the other rows keep theirs.
abbrev pub Numbered : ℕ → ℕ → List ℕ → List ℕ → Type 0
Numbered i number old new = (j : ℕ) → j < 512 → get_or new (8704 + j) 0 ≡ cond (eqb i j) number (get_or old (8704 + j) 0)

-- The dangling rows are told anew, with row i among them or not.
abbrev pub Retallied : ℕ → List ℕ → List ℕ → Type 0
Retallied i old new = (count : ℕ) → count ≤ 512 → i < count → Tallied count old → Tallied count new

-- The rows on the qubits stay. Where the list is long enough and the row's kept number is not 0, that number is one less. Otherwise nothing is written, and none is left.
pub record Lowered (i : ℕ) (old new : List ℕ) (left : ℕ) : Type 0 where
  pub long : length new ≡ length old
  pub below : (k : ℕ) → k < 8192 → get_or new k 0 ≡ get_or old k 0
  pub past : (k : ℕ) → 9216 ≤ k → get_or new k 0 ≡ get_or old k 0
  pub lowered : 9216 ≤ length old → i < 512 → 1 ≤ get_or old (8704 + i) 0 → (left + 1 ≡ get_or old (8704 + i) 0) × Numbered i left old new × Retallied i old new
  pub refused : (9216 ≤ length old → i < 512 → 1 ≤ get_or old (8704 + i) 0 → ⊥) → (new ≡ old) × (left ≡ 0)

-- Nothing but numbers changes. Where the list is long enough, that of the row, which is below 1024 while a qubit of it is not open, is one more. Otherwise
-- nothing is written.
pub record Raised (i : ℕ) (old new : List ℕ) : Type 0 where
  pub long : length new ≡ length old
  pub below : (k : ℕ) → k < 8704 → get_or new k 0 ≡ get_or old k 0
  pub past : (k : ℕ) → 9216 ≤ k → get_or new k 0 ≡ get_or old k 0
  pub raised : 9216 ≤ length old → i < 512 → Numbered i (get_or old (8704 + i) 0 % 1024 + 1) old new
  pub refused : (9216 ≤ length old → i < 512 → ⊥) → new ≡ old

----------------------------------------------------------------------
-- All rows

-- Of the rows from `from` on, below `end`: bit i is that of row from + i.
unfoldable pub dangling_word : ℕ → ℕ → List ℕ → ℕ
dangling_word from end work = number_of (end - from) (λ i. single? work (from + i))

-- The rows on the qubits and the numbers stay. Where the list is too short or the rows are too many, nothing is written.
pub record Finds (count : ℕ) (old new : List ℕ) : Type 0 where
  pub long : length new ≡ length old
  pub below : (k : ℕ) → k < 8192 → get_or new k 0 ≡ get_or old k 0
  pub beyond : (k : ℕ) → 8201 ≤ k → get_or new k 0 ≡ get_or old k 0
  pub tallied : 9216 ≤ length old → count ≤ 512 → Tallied count new
  pub refused : (9216 ≤ length old → count ≤ 512 → ⊥) → new ≡ old

-- The rows on qubit p, which was open, are kept without it.
pub record LoweredRows (p count : ℕ) (old new : List ℕ) : Type 0 where
  pub long : length new ≡ length old
  pub below : (k : ℕ) → k < 8192 → get_or new k 0 ≡ get_or old k 0
  pub past : (k : ℕ) → 9216 ≤ k → get_or new k 0 ≡ get_or old k 0
  pub kept : 9216 ≤ length old → p < 1024 → count ≤ 512 → (n : ℕ) (c : RowLists) → c.count ≡ count → GoodRows n c
      → (o : Qubits) → o p ≡ true → Kept o c old → RowsOn o c old → Kept (put p false o) c new

-- The number of rows, where none dangles. That is answered from the total: where it is 0, whatever the other elements hold. A short list is answered so too. Otherwise
-- it is the lowest one of the set.
pub record Lowest (count : ℕ) (work : List ℕ) (r : ℕ) : Type 0 where
  pub within : r ≤ count
  pub by_total : get_or work 8200 0 ≡ 0 → r ≡ count
  pub short : length work < 9216 → r ≡ count
  pub by_set : 9216 ≤ length work → (get_or work 8200 0 ≡ 0 → ⊥) → NextIn work 1024 0 count r
  pub lowest : 9216 ≤ length work → (o : Qubits) (c : RowLists) → c.count ≡ count → Kept o c work
      → (r < count → dangles? o c r ≡ true) × ((j : ℕ) → j < r → dangles? o c j ≡ false)
