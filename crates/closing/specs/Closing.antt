-- Closed rows taken up.
--   LitClosed    whether a lit row has no open qubit, at the start of a half
--   closed_at?    whether a row is to be taken up; taken_if: the row taken up, if it is to be
--   TookIf       a row taken up, if it is closed
--   TakenRows    the rows on a settled qubit that it closed, taken up
--   enough?      whether sizes are in range and lists long enough
--   Enough       that they are, part by part
--   ClosedRows   the promise of `close_rows`: the same, and what stays
use Rattle.std.specs.Prelude.{◌≡◌, Bool, true, false, ◌&&◌, ◌||◌, cond, List, ℕ, ◌+◌, ◌*◌, ◌≤◌, ◌<◌, ltb, leb, length, get_or, None, Some}
use Rattle.std.proofs.Math.Option.{Option, none, some}
use Rattle.binary.specs.Meaning.{Qubits, Check, has}
use Rattle.machine.specs.Machine.{Forms, put, closed?, take_if, take_up_all, blank}
use Rattle.forms.specs.Forms.{with_live, Topped, Taken, TakenAs}
use Rattle.scans.specs.Rows.{RowLists, row_checks, GoodRows}
use Rattle.kept.specs.Kept.{Kept, RowsOn}

----------------------------------------------------------------------
-- The start

-- Of a half whose forms are 0: its closed rows taken up end it in none, or change nothing.
pub record LitClosed (lit : List ℕ) (first count : ℕ) (work : List ℕ) (r : Bool) : Type 0 where
  pub taken : first + count ≤ length lit → 9216 ≤ length work → count ≤ 512 → (flat ends : List ℕ) → let c : RowLists = record { flat = flat; ends = ends; lit = lit; first = first; count = count } in
      (o : Qubits) → Kept o c work → take_up_all (closed? o) (row_checks c) blank ≡ cond r none (some blank)
  pub refused : (first + count ≤ length lit → 9216 ≤ length work → count ≤ 512 → ⊥) → r ≡ false

----------------------------------------------------------------------
-- One row

-- The rows to take up: those that are closed, and have qubit p unless all are asked for.
unfoldable pub closed_at? : Bool → ℕ → Qubits → Check → Bool
closed_at? all p o c = (all || has c.row p) && closed? o c

-- A row taken up, or not.
abbrev pub taken_if : Bool → ℕ → List ℕ → ℕ → Check → Option Forms
taken_if closed n forms live c = take_if closed (with_live n forms live) c

pub record TookIf (n : ℕ) (closed : Bool) (c : Check) (live : ℕ) (forms forms' : List ℕ) (t : Taken) : Type 0 where
  pub long : length forms' ≡ length forms
  pub rest : (i : ℕ) → 4 * n ≤ i → get_or forms' i 0 ≡ get_or forms i 0
  pub taken : 4 * n ≤ length forms → Topped n live forms → TakenAs n forms' (taken_if closed n forms live c) t

----------------------------------------------------------------------
-- The rows on a settled qubit

-- The qubit p of the open ones is settled: of the rows on it those that have no open qubit left are taken up.
pub record TakenRows (n : ℕ) (c : RowLists) (p live : ℕ) (o : Qubits) (forms forms' work' : List ℕ) (t : Taken) : Type 0 where
  pub taken : TakenAs n forms' (take_up_all (closed_at? false p (put p false o)) (row_checks c) (with_live n forms live)) t
  pub kept : (k : ℕ) → t ≡ Some k → Kept (put p false o) c work'

pub record ClosingRows (n : ℕ) (c : RowLists) (p live : ℕ) (forms forms' work work' : List ℕ) (t : Taken) : Type 0 where
  pub forms_long : length forms' ≡ length forms
  pub forms_rest : (i : ℕ) → 4 * n ≤ i → get_or forms' i 0 ≡ get_or forms i 0
  pub work_long : length work' ≡ length work
  pub below : (k : ℕ) → k < 8192 → get_or work' k 0 ≡ get_or work k 0
  pub past : (k : ℕ) → 9216 ≤ k → get_or work' k 0 ≡ get_or work k 0
  pub rows : GoodRows n c → (o : Qubits) → o p ≡ true → Kept o c work → RowsOn o c work → Topped n live forms → TakenRows n c p live o forms forms' work' t

unfoldable pub enough? : ℕ → RowLists → ℕ → List ℕ → List ℕ → Bool
enough? n c p work forms =
    ltb p 1024 && leb c.count 512 && leb (c.first + c.count) 1024 && leb (4 * n) (length forms) && leb 10240 (length work) && leb (c.first + c.count) (length c.lit)

pub record Enough (n : ℕ) (c : RowLists) (p : ℕ) (work forms : List ℕ) : Type 0 where
  pub forms_long : 4 * n ≤ length forms
  pub small : p < 1024
  pub few : c.count ≤ 512
  pub work_long : 10240 ≤ length work
  pub lit : c.first + c.count ≤ length c.lit
  pub last : c.first + c.count ≤ 1024

-- Where sizes are in range and lists long enough. Otherwise nothing is written.
pub record ClosedRows (n : ℕ) (c : RowLists) (p live : ℕ) (forms forms' work work' : List ℕ) (t : Taken) : Type 0 where
  pub refused : enough? n c p work forms ≡ false → (t ≡ None) × (forms' ≡ forms) × (work' ≡ work)
  pub closes : enough? n c p work forms ≡ true → ClosingRows n c p live forms forms' work work' t
