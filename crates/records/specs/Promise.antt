-- What one record promises, for every input (document 01, "Records" and "Lists lent to a decode").
--   answer_of    the answer to a record
--   Left        what an answer leaves in the lists of code and shot
--   Written     what an answer leaves in the six lists; Unworked: in the work list
--   refusal_at   the refusal that a record meets at a code and shot, with these lists lent; tests_at: the tests of the table
--   Spares      the lists of code and shot that a record does not write; SparesLaw: what an answer leaves by the table is so
--   Says        the state that a refusal leaves, and a kind 8 that agrees, and the number of reports after any answer
--   Promised    what a record promises; Promise: the promise of `step`, of the record that the bytes are
use Rattle.std.specs.Prelude.{◌≡◌, Bool, false, ◌⊎◌, List, ℕ, ◌+◌, ◌≤◌, ◌<◌, length, get_or, set}
use Rattle.std.proofs.Math.Option.{Option, none, some}
use Rattle.binary.specs.Meaning.{Row}
use Rattle.code.specs.Lists.{start_of}
use Rattle.code.specs.Push.{written}
use Rattle.incidence.specs.Incidence.{noted}
use Rattle.machine.specs.Report.{outcome}
use Rattle.machine.specs.Lists.{Past, Shows, SameLengths}
use Rattle.records.specs.declared.State.{State}
use Rattle.records.specs.declared.Refusal.{Refusal}
use Rattle.records.specs.declared.Answer.{Answer}
use Rattle.records.specs.declared.Answer.TheVariants.{Refused, Taken, Complete, Decoded}
use Rattle.records.specs.declared.Reply.{Reply}
use Rattle.records.specs.declared.Pauli.TheVariants.{X, Z}
use Rattle.records.specs.Records.{Record, unknown, wrong, size, row, add, report, encodes, record_of}
use Rattle.records.specs.History.{Code, row_count, sizes_of, Shot, History, empty, loading, ready, half}
use Rattle.records.specs.Table.{tests, refusal, takes, is_row, is_report, is_readout, afterwards}
use Rattle.records.specs.States.{left_by}
use Rattle.records.specs.Window.{on_reports, one_more, place_of, Entered}
use Rattle.records.specs.Lists.{Lists, Six, Lent, short_lists, short_six, HeldShot, Represents}

----------------------------------------------------------------------
-- The answer

-- A complete code is told with its sizes.
abbrev pub completed : History → Answer
completed empty = Taken
completed (loading s xs zs) = Taken
completed (ready c s) = Complete (sizes_of c)

abbrev pub report_of : ℕ → ℕ → History → Answer
report_of budget limit empty = Taken
report_of budget limit (loading s xs zs) = Taken
report_of budget limit (ready c s) =
    Decoded (record { x = (outcome (half X c s) budget limit).report; z = (outcome (half Z c s) budget limit).report })

abbrev pub carried_out : Record → History → Answer
carried_out unknown a = Taken
carried_out wrong a = Taken
carried_out (size n x z) a = completed (takes (size n x z) a)
carried_out (row p r) a = completed (takes (row p r) a)
carried_out (add u k) a = Taken
carried_out (report budget limit) a = report_of budget limit a
carried_out (encodes k) a = Taken

abbrev pub answer_of : Option Refusal → Record → History → Answer
answer_of (some n) r a = Refused n
answer_of none r a = carried_out r a

----------------------------------------------------------------------
-- What the answer leaves

-- How many rows have come.
abbrev pub rows_in : History → ℕ
rows_in empty = 0
rows_in (loading s xs zs) = length xs + length zs
rows_in (ready c s) = row_count c

-- How many qubits the code has.
abbrev pub qubits_in : History → ℕ
qubits_in empty = 0
qubits_in (loading s xs zs) = s.n
qubits_in (ready c s) = c.n

-- A row is written after those before it, with its end, and put to the rows on each of its qubits.
pub record RowIn (n : ℕ) (r : Row) (i : ℕ) (old new : Lists) : Type 0 where
  pub flat : new.flat ≡ written old.flat (start_of old.ends i) r
  pub ends : new.ends ≡ noted n i r (set old.ends i (start_of old.ends i + length r))
  pub shot : new.shot ≡ old.shot

-- The shot's list holds the shot; past the qubits and rows of the code, and in the lists of the code, nothing changes.
pub record ShotLeft (c : Code) (s : Shot) (old new : Lists) : Type 0 where
  pub flat : new.flat ≡ old.flat
  pub ends : new.ends ≡ old.ends
  pub held : HeldShot c s new.shot
  pub rest : (k : ℕ) → c.n ≤ k → (k < 1024) ⊎ (1024 + row_count c ≤ k) → get_or new.shot k 0 ≡ get_or old.shot k 0

abbrev pub ShotOf : History → Lists → Lists → Type 0
ShotOf empty old new = new ≡ old
ShotOf (loading s xs zs) old new = new ≡ old
ShotOf (ready c s) old new = ShotLeft c s old new

-- A decode leaves the shot that it decoded in the lists; the state says that it has ended.
abbrev pub LeftBy : Record → History → Lists → Lists → Type 0
LeftBy unknown a old new = new ≡ old
LeftBy wrong a old new = new ≡ old
LeftBy (size n x z) a old new = new ≡ old
LeftBy (row p r) a old new = RowIn (qubits_in a) r (rows_in a) old new
LeftBy (add u k) a old new = ShotOf (takes (add u k) a) old new
LeftBy (report budget limit) a old new = ShotOf a old new
LeftBy (encodes k) a old new = new ≡ old

-- No refusal writes to a lent list.
abbrev pub Left : Option Refusal → Record → History → Lists → Lists → Type 0
Left (some n) r a old new = new ≡ old
Left none r a old new = LeftBy r a old new

abbrev pub Shown : ℕ → ℕ → History → Six → Six → Type 0
Shown budget limit empty old new = new ≡ old
Shown budget limit (loading s xs zs) old new = new ≡ old
Shown budget limit (ready c s) old new =
    Shows c.n (outcome (half X c s) budget limit) old.x new.x × Shows c.n (outcome (half Z c s) budget limit) old.z new.z

abbrev pub WrittenBy : Record → History → Six → Six → Type 0
WrittenBy unknown a old new = new ≡ old
WrittenBy wrong a old new = new ≡ old
WrittenBy (size n x z) a old new = new ≡ old
WrittenBy (row p r) a old new = new ≡ old
WrittenBy (add u k) a old new = new ≡ old
WrittenBy (report budget limit) a old new = Shown budget limit a old new
WrittenBy (encodes k) a old new = new ≡ old

abbrev pub Written : Option Refusal → Record → History → Six → Six → Type 0
Written (some n) r a old new = new ≡ old
Written none r a old new = WrittenBy r a old new

-- A work list may hold anything after a decode; no other record writes it.
abbrev pub Unworked : Option Refusal → Record → List ℕ → List ℕ → Type 0
Unworked (some n) r old new = new ≡ old
Unworked none unknown old new = new ≡ old
Unworked none wrong old new = new ≡ old
Unworked none (size n x z) old new = new ≡ old
Unworked none (row p r) old new = new ≡ old
Unworked none (add u k) old new = new ≡ old
Unworked none (report budget limit) old new = length new ≡ length old
Unworked none (encodes k) old new = new ≡ old

----------------------------------------------------------------------
-- The promise

-- The refusal that a record meets at this code and shot, with these lists lent.
abbrev pub refusal_at : Record → History → Lent → Option Refusal
refusal_at w a l = refusal (short_lists l.lists (length l.window) (length l.work)) (short_six l.six) w a

abbrev pub tests_at : Record → History → Lent → List (Refusal × Bool)
tests_at w a l = tests (short_lists l.lists (length l.window) (length l.work)) (short_six l.six) w a

pub record Carried (w : Record) (a : History) (old new : Lent) (r : Reply) : Type 0 where
  pub answer : r.answer ≡ answer_of (refusal_at w a old) w a
  pub next : Represents (afterwards (refusal_at w a old) w a) r.state new.lists
  pub lists : Left (refusal_at w a old) w a old.lists new.lists
  pub six : Written (refusal_at w a old) w a old.six new.six
  pub work : Unworked (refusal_at w a old) w old.work new.work

pub record KeptLengths (old new : Lent) : Type 0 where
  pub flat : length new.lists.flat ≡ length old.lists.flat
  pub ends : length new.lists.ends ≡ length old.lists.ends
  pub shot : length new.lists.shot ≡ length old.lists.shot
  pub window : length new.window ≡ length old.window
  pub work : length new.work ≡ length old.work
  pub x : SameLengths old.six.x new.six.x
  pub z : SameLengths old.six.z new.six.z

-- None but a row writes the lists of the code, and none but kinds 2 to 7 the shot's.
pub record Spares (w : Record) (old new : Lists) : Type 0 where
  pub flat : is_row w ≡ false → new.flat ≡ old.flat
  pub ends : is_row w ≡ false → new.ends ≡ old.ends
  pub shot : is_readout w ≡ false → new.shot ≡ old.shot

unfoldable pub SparesLaw : Type 0
SparesLaw = (n : Option Refusal) (w : Record) (a : History) (old new : Lists) → Left n w a old new → Spares w old new

-- The state after a refusal: where the table says that nothing changed, it is the state handed in. After a kind 8 that agrees it is that too. A decode that
-- is reported counts as one report more, and an accepted kind 1 begins to count anew.
pub record Says (w : Record) (st : State) (r : Reply) : Type 0 where
  pub refused : (n : Refusal) → r.answer ≡ Refused n → r.state ≡ left_by n (is_report w) st
  pub agreed : (k : ℕ) → w ≡ encodes k → r.answer ≡ Taken → r.state ≡ st
  pub reports : r.state.reports ≡ on_reports (λ m. 0) (λ t. one_more) w r.answer st.reports

-- A decode that is reported enters, both halves; nothing else writes the window's list, an accepted kind 1 neither.
abbrev pub WindowLeft : Record → State → List ℕ → List ℕ → Answer → Type 0
WindowLeft w st old new answer = on_reports (λ t. t) (λ r t. Entered (place_of st.reports) r old new) w answer (new ≡ old)

-- For every input, whatever state and lists hold: the lists keep their lengths; a row alone writes the lists of the code, kinds 2 to 7 the shot's, and a decode
-- the work list and the six lists, of these what is not past n; a refusal writes no lent list; it and a kind 8 that agrees leave the state that the table says;
-- and the window is written as the answer says. And for whatever code and shot the state and the lists hold, the answer, every lent element and the code and shot
-- afterwards are the table's. Over altered lists or an altered state nothing else is promised.
pub record Promised (w : Record) (st : State) (old new : Lent) (r : Reply) : Type 0 where
  pub lengths : KeptLengths old new
  pub spares : Spares w old.lists new.lists
  pub work : is_report w ≡ false → new.work ≡ old.work
  pub six : is_report w ≡ false → new.six ≡ old.six
  pub x_past : Past st.sizes.n old.six.x new.six.x
  pub z_past : Past st.sizes.n old.six.z new.six.z
  pub refused : (n : Refusal) → r.answer ≡ Refused n → new ≡ old
  pub says : Says w st r
  pub window : WindowLeft w st old.window new.window r.answer
  pub carried : (a : History) → Represents a st old.lists → Carried w a old new r

abbrev pub Promise : State → List ℕ → Lent → Lent → Reply → Type 0
Promise st bytes old new r = Promised (record_of bytes) st old new r
