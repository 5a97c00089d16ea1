-- What the decode of one half promises (document 01, "Lists lent to a decode").
--   Given       what a half is decoded from; given: of what a call is handed
--   own_rows     the half's own rows in its lists, with their readings
--   enough_in?   whether sizes are in range and lists long enough for the decode
--   Decodes     the promise
use Rattle.std.specs.Prelude.{◌≡◌, Bool, true, false, ◌&&◌, List, ℕ, ◌+◌, ◌*◌, leb, length, Option, Some, None}
use Rattle.code.specs.declared.Rows.{Rows}
use Rattle.scans.specs.declared.HalfRows.{HalfRows}
use Rattle.scans.specs.Rows.{RowLists}
use Rattle.turns.specs.Turns.{KeptOver}
use Rattle.machine.specs.declared.HalfReport.{HalfReport}
use Rattle.machine.specs.Report.{none?, outcome}
use Rattle.machine.specs.Lists.{HalfLists, Past, Shows, SameLengths}
use Rattle.halves.specs.Lists.{half_of}
use Rattle.halves.specs.Starts.{RowsObey}

-- What a half is decoded from: n, the lists of code and shot, its own rows and the other kind's (a first row and a count each), the budget
-- and the turn limit.
pub record Given : Type 0 where
  pub n : ℕ
  pub flat : List ℕ
  pub ends : List ℕ
  pub lost : List ℕ
  pub lit : List ℕ
  pub first : ℕ
  pub count : ℕ
  pub other : ℕ
  pub others : ℕ
  pub budget : ℕ
  pub limit : ℕ

abbrev pub given : HalfRows → List ℕ → Rows → ℕ → ℕ → Given
given h lost others budget limit = record {
  n = h.n;
  flat = h.code.flat.now;
  ends = h.code.ends.now;
  lost = lost;
  lit = h.lit.now;
  first = h.rows.first.0;
  count = h.rows.count;
  other = others.first.0;
  others = others.count;
  budget = budget;
  limit = limit;
}

abbrev pub own_rows : Given → RowLists
own_rows g = record { flat = g.flat; ends = g.ends; lit = g.lit; first = g.first; count = g.count }

-- The sizes are document 01's, and the lists are long enough.
unfoldable pub enough_in? : Given → ℕ → HalfLists → Bool
enough_in? g work l =
    leb g.n 1024 && leb g.count 512 && leb g.others 512 && leb g.first 512 && leb g.other 512
    && leb 10240 work && leb g.n (length g.lost) && leb (g.first + g.count) (length g.lit)
    && leb g.n (length l.marks) && leb (4 * g.n) (length l.forms) && leb g.n (length l.correction)

-- For every input the lists keep their lengths and what is past n, the forms what is past 4 × n. Where sizes are in range and lists long enough, the half is decoded: of rows that are strictly ascending and
-- below n, and commute, as those of an accepted code are, the answer and the lists are what the machine makes of code, shot, budget and limit, and at any end but
-- none the work list holds what is kept of the half's own rows, a fresh count over the marks (document 02, request b), and where a qubit was guessed
-- the weights of the open qubits (request g). Otherwise nothing is written.
pub record Decodes (g : Given) (work work' : List ℕ) (old new : HalfLists) (r : Option HalfReport) : Type 0 where
  pub lengths : SameLengths old new
  pub past : Past g.n old new
  pub work_long : length work' ≡ length work
  pub refused : enough_in? g (length work) old ≡ false → (r ≡ None) × (new ≡ old) × (work' ≡ work)
  pub answered : enough_in? g (length work) old ≡ true → r ≡ None → ⊥
  pub decoded : enough_in? g (length work) old ≡ true → RowsObey g.n (own_rows g) g.other g.others
      → let s = outcome (half_of g.n g.flat g.ends g.lost g.lit g.first g.count g.other g.others) g.budget g.limit in
      (r ≡ Some s.report) × Shows g.n s old new
  pub kept : enough_in? g (length work) old ≡ true → RowsObey g.n (own_rows g) g.other g.others
      → none? (outcome (half_of g.n g.flat g.ends g.lost g.lit g.first g.count g.other g.others) g.budget g.limit).report.word ≡ false
      → KeptOver g.n (own_rows g) new.marks work'
