-- What peeling in the lists does. Which rows were read is told by what is kept of them.
--   Lists    marks, and what is kept of the rows over them
--   Ready    what is kept of the rows is right
--   Stays    lengths, and elements beside those of the peeling, stay
--   OneStep  the lowest dangling row settles its open qubit; that none dangles is told by their number
--   enough?  whether sizes are in range and lists long enough
--   Peels    the promise: whether peeling leaves nothing, and the marks that it leaves
use Rattle.std.specs.Prelude.{◌≡◌, Bool, true, false, not, ◌&&◌, cond, List, ℕ, ◌+◌, ◌≤◌, ◌<◌, leb, length, get_or}
use Rattle.std.proofs.Math.Option.{none, some}
use Rattle.binary.specs.Meaning.{Qubits, Check}
use Rattle.machine.specs.Machine.{put, is_open, dangling}
use Rattle.machine.specs.Lists.{view}
use Rattle.machine.specs.Peeling.{peeled, peels_away}
use Rattle.scans.specs.Rows.{RowLists, rows_in, row_checks, GoodRows}
use Rattle.scans.specs.Scans.{OneLess}
use Rattle.kept.specs.Kept.{Kept, RowsOn}

pub record Lists : Type 0 where
  pub marks : List ℕ
  pub work : List ℕ

abbrev pub open_in : ℕ → Lists → Qubits
open_in n l = is_open (view n l.marks)

pub record Ready (n : ℕ) (c : RowLists) (l : Lists) : Type 0 where
  pub good : GoodRows n c
  pub kept : Kept (open_in n l) c l.work
  pub on : RowsOn (open_in n l) c l.work

pub record Stays (n : ℕ) (old new : Lists) : Type 0 where
  pub marks_long : length new.marks ≡ length old.marks
  pub work_long : length new.work ≡ length old.work
  pub rest : (q : ℕ) → n ≤ q → get_or new.marks q 0 ≡ get_or old.marks q 0
  pub below : (k : ℕ) → k < 8192 → get_or new.work k 0 ≡ get_or old.work k 0
  pub past : (k : ℕ) → 9216 ≤ k → get_or new.work k 0 ≡ get_or old.work k 0

-- The qubit that the lowest dangling row settles.
pub record Settles (n : ℕ) (c : RowLists) (old new : Lists) : Type 0 where
  pub row : ℕ × Check
  pub dangles : dangling (open_in n old) (row_checks c) ≡ some row
  pub marks : view n new.marks ≡ put row.0 2 (view n old.marks)
  pub ready : Ready n c new

-- Whatever the lists hold: a step settles one open qubit, and where none is made nothing is written. That no row dangles is answered from the total that is kept, where it
-- is 0.
pub record OneStep (n : ℕ) (flat ends : List ℕ) (first count : ℕ) (old new : Lists) (r : Bool) : Type 0 where
  pub stays : Stays n old new
  pub by_total : get_or old.work 8200 0 ≡ 0 → r ≡ false
  pub one : r ≡ true → OneLess n old.marks new.marks
  pub idle : r ≡ false → new ≡ old
  pub settles : r ≡ true → (lit : List ℕ) → Ready n (rows_in flat ends first count lit) old → Settles n (rows_in flat ends first count lit) old new
  pub none_dangles : r ≡ false → (lit : List ℕ) → Ready n (rows_in flat ends first count lit) old
      → dangling (open_in n old) (row_checks (rows_in flat ends first count lit)) ≡ none

unfoldable pub enough? : ℕ → ℕ → ℕ → ℕ → ℕ → Bool
enough? n first count marks work = leb n 1024 && leb count 512 && leb (first + count) 1024 && leb n marks && leb 9216 work

-- The answer, and the marks: each open qubit that is not left has mark 2.
pub record Told (n : ℕ) (c : RowLists) (old new : Lists) (r : Bool) : Type 0 where
  pub answer : r ≡ peels_away (row_checks c) n (open_in n old)
  pub marks : (q : ℕ) → view n new.marks q ≡ cond (open_in n old q && not (peeled (row_checks c) n (open_in n old) q)) 2 (view n old.marks q)

-- Where sizes are in range and lists long enough, of rows that were kept right. Otherwise nothing is written.
pub record Peels (n : ℕ) (flat ends : List ℕ) (first count : ℕ) (old new : Lists) (r : Bool) : Type 0 where
  pub stays : Stays n old new
  pub refused : enough? n first count (length old.marks) (length old.work) ≡ false → (r ≡ false) × (new ≡ old)
  pub told : enough? n first count (length old.marks) (length old.work) ≡ true → (lit : List ℕ) → Ready n (rows_in flat ends first count lit) old
      → Told n (rows_in flat ends first count lit) old new r
