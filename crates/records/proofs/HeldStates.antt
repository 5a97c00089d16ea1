-- What states that an answer leaves hold, of any code and shot and any lists; and code or no code. Assumes nothing.
use mathlib.Core.Path.{◌≡◌, refl, sym, ◌∙◌}
use mathlib.Core.Bool.{Bool, true, false, cond}
use mathlib.Core.List.{List}
use Prim.Native.Nat.{ℕ}
use Rattle.binary.specs.Meaning.{Row}
use Rattle.binary.proofs.Bits.{never}
use Rattle.records.specs.declared.Sizes.{Sizes}
use Rattle.records.specs.declared.State.{State}
use Rattle.records.specs.History.{Code, Shot, Domain, qubits, rows, already, History, empty, loading, ready, empty_shot, spoil, end_shot}
use Rattle.records.specs.Table.{complete, is_report, leaves}
use Rattle.records.specs.declared.Refusal.{Refusal}
use Rattle.records.specs.declared.Refusal.TheVariants.{Unknown, Length, Size, Place, Clash, Codeless, Range, Twice, Spoiled, Short, Encoded}
use Rattle.records.specs.Records.{Record}
use Rattle.records.specs.Lists.{Lists, NoShot, ShotIn, Loads, Holds, Represents}
use Rattle.records.specs.States.{without_code, spoiled_of, ended_of, reported_of, left_by}

-- While a code is loading there is no shot to spoil or to end.
module _ (st : State) (l : Lists) (spoiled stale : Bool) (reports : ℕ) where
  abbrev changed : State
  changed = record { phase = st.phase; sizes = st.sizes; rows = st.rows; clash = st.clash; spoiled = spoiled; stale = stale; reports = reports }

  loads_any : (s : Sizes) (xs zs : List Row) → Loads s xs zs st l → Loads s xs zs changed l
  loads_any s xs zs h =
      record {
        phase = h.phase;
        sizes = h.sizes;
        range = h.range;
        rows = h.rows;
        some_left = h.some_left;
        x_few = h.x_few;
        x_first = h.x_first;
        good_xs = h.good_xs;
        good_zs = h.good_zs;
        flat = h.flat;
        on = h.on;
        clash = h.clash;
      }

  -- With a complete code, any shot that the flags and the list hold.
  holds_any : (c : Code) (s s' : Shot) → Holds c s st l → spoiled ≡ s'.spoiled → ShotIn stale c s' l.shot → Holds c s' changed l
  holds_any c s s' h flag shot =
      record {
        phase = h.phase;
        sizes = h.sizes;
        range = h.range;
        good_xs = h.good_xs;
        good_zs = h.good_zs;
        commute = h.commute;
        flat = h.flat;
        on = h.on;
        spoiled = flag;
        shot = shot;
      }

-- Nothing is in an empty shot.
pub none_among : NoShot empty_shot
none_among u = refl

module _ (st : State) (l : Lists) where
  holds_spoiled : (a : History) → Represents a st l → Represents (spoil a) (spoiled_of st) l
  holds_spoiled empty h = h
  holds_spoiled (loading s xs zs) h = loads_any st l true st.stale st.reports s xs zs h
  holds_spoiled (ready c s) h =
      holds_any st l true st.stale st.reports c s (record { sets = s.sets; spoiled = true }) h refl (shot st.stale h.shot)
    where
      same : (p : Domain) (k : ℕ) → already p (record { sets = s.sets; spoiled = true }) k ≡ already p s k
      same qubits k = refl
      same (rows p) k = refl

      shot : (b : Bool) → ShotIn b c s l.shot → ShotIn b c (record { sets = s.sets; spoiled = true }) l.shot
      shot true i = i
      shot false i = record { sets = i.sets; zeros = λ p k h t. i.zeros p k h (sym (same p k) ∙ t) }

  pub holds_ended : (a : History) → Represents a st l → Represents (end_shot a) (ended_of st) l
  holds_ended empty h = h
  holds_ended (loading s xs zs) h = loads_any st l false true st.reports s xs zs h
  holds_ended (ready c s) h = holds_any st l false true st.reports c s empty_shot h refl none_among

  -- The number of reports says nothing of code and shot.
  pub holds_reported : (m : ℕ) (a : History) → Represents a st l → Represents a (reported_of m st) l
  holds_reported m empty h = h
  holds_reported m (loading s xs zs) h = loads_any st l st.spoiled st.stale m s xs zs h
  holds_reported m (ready c s) h = holds_any st l st.spoiled st.stale m c s s h h.spoiled h.shot

  holds_short : (w : Record) (b : Bool) → is_report w ≡ b → (a : History) → Represents a st l → Represents (cond b (end_shot a) a) (cond b (ended_of st) st) l
  holds_short w true e a h = holds_ended a h
  holds_short w false e a h = h

  -- A refusal leaves the code and shot that the table says.
  pub holds_left : (n : Refusal) (w : Record) (a : History) → Represents a st l → Represents (leaves n w a) (left_by n (is_report w) st) l
  holds_left Unknown w a h = holds_spoiled a h
  holds_left Length w a h = holds_spoiled a h
  holds_left Size w a h = refl
  holds_left Place w a h = refl
  holds_left Refusal.Row w a h = refl
  holds_left Clash w a h = refl
  holds_left Codeless w a h = h
  holds_left Range w a h = holds_spoiled a h
  holds_left Twice w a h = holds_spoiled a h
  holds_left Spoiled w a h = holds_ended a h
  holds_left Short w a h = holds_short w (is_report w) refl a h
  holds_left Encoded w a h = refl

----------------------------------------------------------------------
-- Code or no code

pub no_code : (st : State) (l : Lists) (a : History) → Represents a st l → without_code st.phase ≡ true → complete a ≡ false
no_code st l empty h e = refl
no_code st l (loading s xs zs) h e = refl
no_code st l (ready c s) h e = never (rw h.phase at e) refl

-- What holds of each complete code with its shot holds of the history.
pub with_code : (st : State) (l : Lists) (P : History → Type 0) → without_code st.phase ≡ false → ((c : Code) (s : Shot) → Holds c s st l → P (ready c s))
    → (a : History) → Represents a st l → P a
with_code st l P e f empty h = never refl (rw h at e)
with_code st l P e f (loading s xs zs) h = never refl (rw h.phase at e)
with_code st l P e f (ready c s) h = f c s h
