-- What a decode does, beside the promise of its record.
--   readings_of  the part of the shot's list that has the rows' elements
--   six_lent     what the six lists of a decode hold
--   given_of     what a half is decoded from: X errors from the Z rows, Z errors from the X rows
--   undecoded   what is reported of a half that is refused, since a size is out of range or a list too short; report_in: of any answer
--   BothEnough     both halves are decoded
--   Reports     what the decode of both halves does
--   Replies     the reply to it, and what it leaves in the window
use Rattle.std.specs.Prelude.{◌≡◌, true, false, List, ℕ, length, drop, Option, Some, None}
use Rattle.machine.specs.declared.Word.TheVariants.{Stopped}
use Rattle.machine.specs.declared.HalfReport.{HalfReport}
use Rattle.machine.specs.declared.LentHalf.{LentHalf}
use Rattle.machine.specs.Lent.{half_lists}
use Rattle.machine.specs.Report.{Shown, outcome}
use Rattle.machine.specs.Lists.{Past, Shows, SameLengths}
use Rattle.halves.specs.Lists.{half_of}
use Rattle.halves.specs.Starts.{RowsObey}
use Rattle.halves.specs.Decode.{Given, own_rows, enough_in?}
use Rattle.records.specs.declared.Sizes.{Sizes}
use Rattle.records.specs.declared.State.{State}
use Rattle.records.specs.declared.Report.{Report}
use Rattle.records.specs.declared.Answer.TheVariants.{Decoded}
use Rattle.records.specs.declared.Reply.{Reply}
use Rattle.records.specs.declared.Pauli.{Pauli}
use Rattle.records.specs.declared.Pauli.TheVariants.{X, Z}
use Rattle.records.specs.Lists.{Lists, Six}
use Rattle.records.specs.States.{ended_of, reported_of}
use Rattle.window.specs.Entering.{Enters}

----------------------------------------------------------------------
-- Both halves

unfoldable pub readings_of : List ℕ → List ℕ
readings_of shot = drop 1024 shot

abbrev pub six_lent : LentHalf → LentHalf → Six
six_lent x z = record { x = half_lists x; z = half_lists z }

-- With this list of readings.
abbrev pub given_by : Pauli → Sizes → Lists → List ℕ → ℕ → ℕ → Given
given_by X z l readings budget limit = record {
  n = z.n;
  flat = l.flat;
  ends = l.ends;
  lost = l.shot;
  lit = readings;
  first = z.x;
  count = z.z;
  other = 0;
  others = z.x;
  budget = budget;
  limit = limit;
}
given_by Z z l readings budget limit = record {
  n = z.n;
  flat = l.flat;
  ends = l.ends;
  lost = l.shot;
  lit = readings;
  first = 0;
  count = z.x;
  other = z.x;
  others = z.z;
  budget = budget;
  limit = limit;
}

abbrev pub given_of : Pauli → Sizes → Lists → ℕ → ℕ → Given
given_of p z l budget limit = given_by p z l (readings_of l.shot) budget limit

-- What the half shows.
abbrev pub shown_of : Given → Shown
shown_of g = outcome (half_of g.n g.flat g.ends g.lost g.lit g.first g.count g.other g.others) g.budget g.limit

pub record BothEnough (sizes : Sizes) (budget limit : ℕ) (l : Lists) (work : ℕ) (six : Six) : Type 0 where
  pub x : enough_in? (given_of X sizes l budget limit) work six.x ≡ true
  pub z : enough_in? (given_of Z sizes l budget limit) work six.z ≡ true

-- Stopped before its first turn. No decode that is not refused meets it.
abbrev pub undecoded : HalfReport
undecoded = record { word = Stopped; fixed = 0; turns = 0; guesses = 0; live = 0 }

abbrev pub report_in : Option HalfReport → HalfReport
report_in (Some r) = r
report_in None = undecoded

-- The half's rows and the other kind's obey document 01.
abbrev pub Obeying : Given → Type 0
Obeying g = RowsObey g.n (own_rows g) g.other g.others

pub record Reports (z : Sizes) (budget limit : ℕ) (l : Lists) (work work' : List ℕ) (old new : Six) (r : Report) : Type 0 where
  pub work_long : length work' ≡ length work
  pub x_long : SameLengths old.x new.x
  pub z_long : SameLengths old.z new.z
  pub x_past : Past z.n old.x new.x
  pub z_past : Past z.n old.z new.z
  pub x_refused : enough_in? (given_of X z l budget limit) (length work) old.x ≡ false → r.x ≡ undecoded
  pub z_refused : enough_in? (given_of Z z l budget limit) (length work) old.z ≡ false → r.z ≡ undecoded
  pub decoded : BothEnough z budget limit l (length work) old → Obeying (given_of X z l budget limit) → Obeying (given_of Z z l budget limit)
      → (r ≡ record { x = (shown_of (given_of X z l budget limit)).report; z = (shown_of (given_of Z z l budget limit)).report })
      × Shows z.n (shown_of (given_of X z l budget limit)) old.x new.x
      × Shows z.n (shown_of (given_of Z z l budget limit)) old.z new.z

-- m: the number of reports with this one.
abbrev pub Replies : State → Report → List ℕ → List ℕ → Reply → Type 0
Replies st d old new r = (m : ℕ) × Enters st.reports d old new m × (r ≡ record { state = reported_of m (ended_of st); answer = Decoded d })
