-- An answer, and the promise of a record, from the refusal that it meets. Assumes nothing.
use mathlib.Core.Path.{◌≡◌, refl, sym, ap, ◌∙◌}
use mathlib.Core.Bool.{Bool, true, false, not, cond}
use mathlib.Core.Option.{Option, none, some}
use mathlib.Core.List.{List}
use Prim.Native.Nat.{ℕ}
use native.Mathlib.Omega.{arith}
use lib.ListN.{length}
use borrow.Author.Tests.{not-true, not-false}
use Rattle.binary.specs.Meaning.{Row}
use Rattle.binary.proofs.Bits.{never}
use Rattle.machine.specs.Lists.{HalfLists, Past, SameLengths}
use Rattle.records.specs.declared.State.{State}
use Rattle.records.specs.declared.Refusal.{Refusal}
use Rattle.records.specs.declared.Refusal.TheVariants.{Unknown, Length, Size, Place, Clash, Codeless, Range, Twice, Spoiled, Short, Encoded}
use Rattle.records.specs.declared.Report.{Report}
use Rattle.records.specs.declared.Answer.{Answer}
use Rattle.records.specs.declared.Answer.TheVariants.{Refused, Taken, Complete, Decoded}
use Rattle.records.specs.declared.Reply.{Reply}
use Rattle.records.specs.declared.Pauli.{Pauli}
use Rattle.records.specs.Records.{Record, unknown, wrong, size, row, add, report, encodes}
use Rattle.records.specs.History.{History, empty, loading, ready}
use Rattle.records.specs.Table.{refusal, takes, is_report, is_readout, afterwards}
use Rattle.records.specs.Lists.{Lists, Six, Lent, lent_of, short_lists, short_six, Represents}
use Rattle.records.specs.States.{ended_of, left_by, saying}
use Rattle.records.specs.Window.{on_reports, one_more}
use Rattle.records.specs.Promise.{answer_of, rows_in, qubits_in, RowIn, ShotOf, Left, Written, Unworked, refusal_at, Carried, KeptLengths, Spares, SparesLaw, Says, WindowLeft, Promised}
use Rattle.records.specs.Steps.{Answered, Does, Keeps}
use Rattle.records.proofs.HeldStates.{holds_left}

-- What a test told of a value.
pub told_true : (t b : Bool) → t ≡ b → not t ≡ false → b ≡ true
told_true t b e n = sym e ∙ not-false t n

pub told_false : (t b : Bool) → t ≡ b → not t ≡ true → b ≡ false
told_false t b e n = sym e ∙ not-true t n

module _ (short : Bool) (six : ℕ → Bool) (w : Record) (a : History) (old : Lists) where
  pub answered : (new : Lists) (r : Reply) (n : Option Refusal) → refusal short six w a ≡ n → r.answer ≡ answer_of n w a
      → Represents (afterwards n w a) r.state new → Left n w a old new → Answered short six w a old new r
  answered new r n e said next left = record { answer = rw e said; next = rw e next; lists = rw e left }

  -- No refusal writes to a lent list.
  pub answered_refused : (n : Refusal) (st : State) (r : Reply) → refusal short six w a ≡ some n → Represents a st old → r ≡ saying n (is_report w) st
      → Answered short six w a old old r
  answered_refused n st r e h is = answered old r (some n) e (rw is) (rw is (holds_left st old n w a h)) refl

----------------------------------------------------------------------
-- The promise

pub same_lengths : (l : HalfLists) → SameLengths l l
same_lengths l = record { marks = refl; forms = refl; correction = refl }

pub past_same : (n : ℕ) (l : HalfLists) → Past n l l
past_same n l = record { marks = λ q i. refl; forms = λ q i. refl; correction = λ q i. refl }

-- A refusal keeps the number of reports, and changes nothing that is known of them.
left_reports : (w : Record) (st : State) (n : Refusal) → st.reports ≡ (left_by n (is_report w) st).reports
left_reports w st Unknown = refl
left_reports w st Length = refl
left_reports w st Size = refl
left_reports w st Place = refl
left_reports w st Refusal.Row = refl
left_reports w st Clash = refl
left_reports w st Codeless = refl
left_reports w st Range = refl
left_reports w st Twice = refl
left_reports w st Spoiled = refl
left_reports w st Short = either (is_report w)
  where
    either : (b : Bool) → st.reports ≡ (cond b (ended_of st) st).reports
    either true = refl
    either false = refl
left_reports w st Encoded = refl

pub refused_stays : {A : Type 0} (empties : A → A) (enters : Report → A → A) (w : Record) (n : Refusal) (a : A)
    → on_reports empties enters w (Refused n) a ≡ a
refused_stays f g unknown n a = refl
refused_stays f g wrong n a = refl
refused_stays f g (size m x z) n a = refl
refused_stays f g (row p r) n a = refl
refused_stays f g (add u k) n a = refl
refused_stays f g (report budget limit) n a = refl
refused_stays f g (encodes k) n a = refl

-- A reply that refuses says what the table says.
pub says_refused : (w : Record) (st : State) (r : Reply) (n : Refusal) → r ≡ saying n (is_report w) st → Says w st r
says_refused w st r n e =
    record {
      refused = λ m f. let same : n ≡ m = cc in ap (λ (x : Reply). x.state) e ∙ ap (λ (k : Refusal). left_by k (is_report w) st) same;
      agreed = λ k i f. let z : ◌≡◌ {A = ℕ} 0 1 = cc in absurd (omega arith);
      reports = rw e (sym (left_reports w st n) ∙ sym (refused_stays (λ m. 0) (λ t. one_more) w n st.reports));
    }

-- One that does not, of any kind but 8, says nothing.
abbrev is_test : Record → Bool
is_test unknown = false
is_test wrong = false
is_test (size n x z) = false
is_test (row p r) = false
is_test (add u k) = false
is_test (report budget limit) = false
is_test (encodes k) = true

pub says_nothing : (w : Record) (st : State) (r : Reply) → is_test w ≡ false → ((n : Refusal) → r.answer ≡ Refused n → ⊥)
    → r.state.reports ≡ on_reports (λ m. 0) (λ t. one_more) w r.answer st.reports → Says w st r
says_nothing w st r t f e = record { refused = λ n e. absurd (f n e); agreed = λ k i e. never (ap is_test i) t; reports = e }

pub says_same : (k : ℕ) (st : State) (r : Reply) → r ≡ record { state = st; answer = Taken } → Says (encodes k) st r
says_same k st r e =
    record {
      refused = λ n f. let z : ◌≡◌ {A = ℕ} 0 1 = cc in absurd (omega arith);
      agreed = λ j i f. ap (λ (x : Reply). x.state) e;
      reports = ap (λ (x : Reply). x.state.reports) e;
    }

pub spared : (w : Record) (l : Lists) → Spares w l l
spared w l = record { flat = λ e. refl; ends = λ e. refl; shot = λ e. refl }

same_spared : (w : Record) (old new : Lists) → new ≡ old → Spares w old new
same_spared w old new e = rw e (spared w old)

row_spared : (p : Pauli) (r : Row) (n i : ℕ) (old new : Lists) → RowIn n r i old new → Spares (row p r) old new
row_spared p r n i old new v = record { flat = λ e. never refl e; ends = λ e. never refl e; shot = λ e. v.shot }

shot_spared : (w : Record) → is_readout w ≡ true → (a : History) (old new : Lists) → ShotOf a old new → Spares w old new
shot_spared w t empty old new v = same_spared w old new v
shot_spared w t (loading s xs zs) old new v = same_spared w old new v
shot_spared w t (ready c s) old new v = record { flat = λ e. v.flat; ends = λ e. v.ends; shot = λ e. never t e }

pub left_spared : SparesLaw
unfolding SparesLaw
left_spared (some n) w a old new v = same_spared w old new v
left_spared none unknown a old new v = same_spared unknown old new v
left_spared none wrong a old new v = same_spared wrong old new v
left_spared none (size n x z) a old new v = same_spared (size n x z) old new v
left_spared none (row p r) a old new v = row_spared p r (qubits_in a) (rows_in a) old new v
left_spared none (add u k) a old new v = shot_spared (add u k) refl (takes (add u k) a) old new v
left_spared none (report budget limit) a old new v = shot_spared (report budget limit) refl a old new v
left_spared none (encodes k) a old new v = same_spared (encodes k) old new v

pub unchanged : (l : Lent) → KeptLengths l l
unchanged l = record { flat = refl; ends = refl; shot = refl; window = refl; work = refl; x = same_lengths l.six.x; z = same_lengths l.six.z }

-- By the refusal, or none, that the table gives.
pub carried : (w : Record) (a : History) (old new : Lent) (r : Reply) (n : Option Refusal) → refusal_at w a old ≡ n → r.answer ≡ answer_of n w a
    → Represents (afterwards n w a) r.state new.lists → Left n w a old.lists new.lists → Written n w a old.six new.six
    → Unworked n w old.work new.work → Carried w a old new r
carried w a old new r n e answer next lists six work =
    record { answer = rw e answer; next = rw e next; lists = rw e lists; six = rw e six; work = rw e work }

-- Any record but a decode writes neither the six lists nor the work list, and enters no report.
untouched : (n : Option Refusal) (w : Record) (a : History) (s : Six) → is_report w ≡ false → Written n w a s s
untouched (some n) w a s e = refl
untouched none unknown a s e = refl
untouched none wrong a s e = refl
untouched none (size n x z) a s e = refl
untouched none (row p r) a s e = refl
untouched none (add u k) a s e = refl
untouched none (report budget limit) a s e = never refl e
untouched none (encodes k) a s e = refl

unworked : (n : Option Refusal) (w : Record) (k : List ℕ) → is_report w ≡ false → Unworked n w k k
unworked (some n) w k e = refl
unworked none unknown k e = refl
unworked none wrong k e = refl
unworked none (size n x z) k e = refl
unworked none (row p r) k e = refl
unworked none (add u j) k e = refl
unworked none (report budget limit) k e = never refl e
unworked none (encodes j) k e = refl

unentered : (w : Record) (st : State) (l : List ℕ) (answer : Answer) → is_report w ≡ false → WindowLeft w st l l answer
unentered unknown st l answer e = refl
unentered wrong st l answer e = refl
unentered (size n x z) st l (Refused m) e = refl
unentered (size n x z) st l Taken e = refl
unentered (size n x z) st l (Complete s) e = refl
unentered (size n x z) st l (Decoded r) e = refl
unentered (row p r) st l answer e = refl
unentered (add u k) st l answer e = refl
unentered (report budget limit) st l answer e = never refl e
unentered (encodes k) st l answer e = refl

pub promised : (w : Record) (st : State) (l l' : Lists) (window work : List ℕ) (six : Six) (r : Reply) → is_report w ≡ false → Keeps w st l l' r
    → Does (short_lists l (length window) (length work)) (short_six six) w st l l' r
    → Promised w st (lent_of l window work six) (lent_of l' window work six) r
unfolding Does
promised w st l l' window work six r i k d =
    record {
      lengths = record { flat = k.flat; ends = k.ends; shot = k.shot; window = refl; work = refl; x = same_lengths six.x; z = same_lengths six.z };
      spares = k.spares;
      work = λ e. refl;
      six = λ e. refl;
      x_past = past_same st.sizes.n six.x;
      z_past = past_same st.sizes.n six.z;
      refused = λ n e. ap (λ (x : Lists). lent_of x window work six) (k.refused n e);
      says = k.says;
      window = unentered w st window r.answer i;
      carried = λ a h.
          let n = refusal (short_lists l (length window) (length work)) (short_six six) w a in
          let t = d a h in
          record { answer = t.answer; next = t.next; lists = t.lists; six = untouched n w a six i; work = unworked n w work i };
    }
