-- The ways through a decode, by the table. Assumes nothing.
use mathlib.Core.Path.{◌≡◌, refl, sym, ap, ap₂, ◌∙◌, subst}
use mathlib.Core.Bool.{Bool, true, false, not, ◌||◌, cond}
use mathlib.Core.Option.{none, some}
use mathlib.Core.List.{List}
use Prim.Native.Nat.{ℕ, ◌≤◌}
use native.Mathlib.Omega.{arith}
use lib.ListN.{length}
use borrow.Author.Tests.{le-ltb, not-false}
use Rattle.binary.proofs.Bits.{bit, never}
use Rattle.machine.specs.Report.{Shown, outcome}
use Rattle.machine.specs.Lists.{Shows}
use Rattle.records.specs.declared.Sizes.{Sizes}
use Rattle.records.specs.declared.State.{State}
use Rattle.records.specs.declared.Refusal.{Refusal}
use Rattle.records.specs.declared.Refusal.TheVariants.{Codeless, Spoiled, Short}
use Rattle.records.specs.declared.Report.{Report}
use Rattle.records.specs.declared.Answer.TheVariants.{Decoded}
use Rattle.records.specs.declared.Reply.{Reply}
use Rattle.records.specs.declared.Pauli.{Pauli}
use Rattle.records.specs.declared.Pauli.TheVariants.{X, Z}
use Rattle.records.specs.Records.{Record, report}
use Rattle.records.specs.History.{Code, sizes_of, Shot, History, ready, empty_shot, half}
use Rattle.records.specs.Table.{in_range, refusal}
use Rattle.records.specs.Lists.{Six, Lent, held, lent_of, short_lists, short_half, short_six, Holds, Represents}
use Rattle.records.specs.States.{without_code, ended_of, opened_of, reported_of, saying}
use Rattle.records.specs.Window.{one_more, place_of, Entered}
use Rattle.records.specs.Promise.{ShotLeft, refusal_at, Carried, Promised}
use Rattle.records.proofs.HeldStates.{holds_ended, holds_reported, holds_left, no_code, with_code}
use Rattle.records.proofs.Answers.{past_same, says_refused, says_nothing, spared, unchanged, carried}
use Rattle.records.proofs.Range.{InRange, range_out, LongLists, long_lists, LongHalf, long_half}
use Rattle.readout.specs.Readout.{Begun}
use Rattle.readout.proofs.Shots.{left_begun, holds_opened}
use Rattle.window.specs.Entering.{Enters}
use Rattle.std.specs.Prelude.{Result, Ok, Err}
use Rattle.decodable.specs.Tests.{lacking?, test_of}
use Rattle.decoding.specs.Decoding.{given_of, shown_of, BothEnough, Obeying, Reports, Replies}
use Rattle.decoding.proofs.Halves.{both_enough, shown_held, obeying}

----------------------------------------------------------------------
-- The tests

-- With sizes in range, what lacks is a list.
short_of : (a b t : Bool) → (a || b || not t) ≡ true → t ≡ true → (a || b) ≡ true
short_of true b t e f = refl
short_of false true t e f = refl
short_of false false t e f = never e (ap not f)

nothing_short : (a b t : Bool) → (a || b || not t) ≡ false → (a ≡ false) × (b ≡ false) × (t ≡ true)
nothing_short true b t e = never refl e
nothing_short false true t e = never refl e
nothing_short false false t e = (refl, refl, not-false t e)

neither : (a b : Bool) → (a || b) ≡ false → (a ≡ false) × (b ≡ false)
neither true b e = never refl e
neither false b e = (refl, e)

-- A decode that passes the tests.
pub record Passes (st : State) (lacking : Bool) : Type 0 where
  pub coded : without_code st.phase ≡ false
  pub clean : st.spoiled ≡ false
  pub whole : lacking ≡ false

passes : (st : State) (lacking : Bool) → test_of st lacking ≡ Ok tt → Passes st lacking
unfolding test_of
passes st lacking e =
    let z = chain (without_code st.phase) st.spoiled lacking _ _ _ e in record { coded = z.0; clean = z.1; whole = z.2 }
  where
    chain : (a b c : Bool) (p q r : Reply) → ◌≡◌ {A = Result (Unit {0}) Reply} (cond a (Err p) (cond b (Err q) (cond c (Err r) (Ok tt)))) (Ok tt) → (a ≡ false) × (b ≡ false) × (c ≡ false)
    chain true b c p q r e = let z : ◌≡◌ {A = ℕ} 0 1 = cc in absurd (omega arith)
    chain false true c p q r e = let z : ◌≡◌ {A = ℕ} 0 1 = cc in absurd (omega arith)
    chain false false true p q r e = let z : ◌≡◌ {A = ℕ} 0 1 = cc in absurd (omega arith)
    chain false false false p q r e = (refl, refl, refl)

-- As the code tells it.
pub passed : (st : State) (l : Lent) (lacking : Bool) (test : Result (Unit {0}) Reply) → lacking ≡ lacking? st.sizes l → test ≡ test_of st lacking
    → test ≡ Ok tt → Passes st (lacking? st.sizes l)
passed st l lacking test e f g = subst (Passes st) e (passes st lacking (sym f ∙ g))

-- Lists that lack nothing.
pub record Whole (sizes : Sizes) (l : Lent) : Type 0 where
  pub range : InRange sizes.n sizes.x sizes.z
  pub lists : LongLists l.lists (length l.window) (length l.work)
  pub x : LongHalf sizes.n l.six.x
  pub z : LongHalf sizes.n l.six.z

pub whole : (z : Sizes) (l : Lent) → lacking? z l ≡ false → Whole z l
unfolding lacking? short_six
whole z l e =
    let t = nothing_short (short_lists l.lists (length l.window) (length l.work)) (short_half l.six.x z.n || short_half l.six.z z.n) (in_range z.n z.x z.z) e in
    let h = neither (short_half l.six.x z.n) (short_half l.six.z z.n) t.1 in
    record {
      range = range_out z.n z.x z.z t.2;
      lists = long_lists l.lists (length l.window) (length l.work) t.0;
      x = long_half z.n l.six.x h.0;
      z = long_half z.n l.six.z h.1;
    }

----------------------------------------------------------------------
-- Refused

same_reply : (a b : Reply) → ◌≡◌ {A = Result (Unit {0}) Reply} (Err a) (Err b) → b ≡ a
same_reply a b e = cc

module _ (budget limit : ℕ) (st : State) (l : Lent) (reply : Reply) where
  abbrev w : Record
  w = report budget limit

  -- By the number in the table; nothing is written.
  refuse : (n : Refusal) → ◌≡◌ {A = Result (Unit {0}) Reply} (Err (saying n true st)) (Err reply) → ((a : History) → Represents a st l.lists → refusal_at w a l ≡ some n)
      → Promised w st l l reply
  refuse n e f =
      record {
        lengths = unchanged l;
        spares = spared w l.lists;
        work = λ i. refl;
        six = λ i. refl;
        x_past = past_same st.sizes.n l.six.x;
        z_past = past_same st.sizes.n l.six.z;
        refused = λ m i. refl;
        says = says_refused w st reply n (same_reply (saying n true st) reply e);
        window = rw (same_reply (saying n true st) reply e);
        carried = λ a h. rw (same_reply (saying n true st) reply e)
            (carried w a l l (saying n true st) (some n) (f a h) refl (holds_left st l.lists n w a h) refl refl refl);
      }

  -- Of a complete code.
  refuse_code : without_code st.phase ≡ false → (n : Refusal) → ◌≡◌ {A = Result (Unit {0}) Reply} (Err (saying n true st)) (Err reply)
      → ((c : Code) (s : Shot) → Holds c s st l.lists → refusal_at w (ready c s) l ≡ some n) → Promised w st l l reply
  refuse_code t n e g = refuse n e (with_code st l.lists (λ a. refusal_at w a l ≡ some n) t g)

  by_test : test_of st (lacking? st.sizes l) ≡ Err reply → Promised w st l l reply
  unfolding test_of refusal lacking?
  by_test e =
      bit (without_code st.phase) (λ t. refuse Codeless (rw t at e) (λ a h. rw (no_code st l.lists a h t)))
      (λ t. bit st.spoiled (λ i. refuse_code t Spoiled (rw (t, i) at e) (λ c s v. rw (← v.spoiled, i)))
      (λ i. bit (lacking? st.sizes l) (λ k. refuse_code t Short (rw (t, i, k) at e) (λ c s v.
      let u : (short_lists l.lists (length l.window) (length l.work) || short_six l.six c.n) ≡ true
      = rw v.sizes at (short_of (short_lists l.lists (length l.window) (length l.work)) (short_six l.six st.sizes.n) (in_range st.sizes.n st.sizes.x st.sizes.z) k (rw v.sizes v.range)) in
      rw (← v.spoiled, i, u)))
      (λ k. let f : ◌≡◌ {A = Result (Unit {0}) Reply} (Ok tt) (Err reply) = rw (t, i, k) at e in let z : ◌≡◌ {A = ℕ} 0 1 = cc in absurd (omega arith))))

  pub decode_refused : (lacking : Bool) (test : Result (Unit {0}) Reply) → lacking ≡ lacking? st.sizes l → test ≡ test_of st lacking → test ≡ Err reply
      → Promised w st l l reply
  decode_refused lacking test e f g = by_test (ap (test_of st) (sym e) ∙ sym f ∙ g)

----------------------------------------------------------------------
-- Carried out

-- The shot's list has a part for the rows.
pub shot_long : (st : State) (flat ends shot shot' window work : List ℕ) (six : Six) → Passes st (lacking? st.sizes (lent_of (held flat ends shot) window work six))
    → Begun st shot shot' → 1024 ≤ length shot'
shot_long st flat ends shot shot' window work six p b =
    omega (arith, (whole st.sizes (lent_of (held flat ends shot) window work six) p.whole).lists.shot, b.long)

module _ (budget limit : ℕ) (st : State) (flat ends shot shot' window work : List ℕ) (six : Six)
    (p : Passes st (lacking? st.sizes (lent_of (held flat ends shot) window work six))) (b : Begun st shot shot') where
  abbrev old : Lent
  old = lent_of (held flat ends shot) window work six

  halves_enough : BothEnough st.sizes budget limit (held flat ends shot') (length work) six
  halves_enough =
      let o = whole st.sizes old p.whole in
      both_enough st.sizes budget limit (held flat ends shot') (length window) (length work) six o.range
      (record { flat = o.lists.flat; ends = o.lists.ends; shot = omega (arith, o.lists.shot, b.long); window = o.lists.window; work = o.lists.work }) o.x o.z

  no_refusal : (c : Code) (s : Shot) → Holds c s st old.lists → refusal_at (report budget limit) (ready c s) old ≡ none
  unfolding refusal lacking?
  no_refusal c s v =
      let t = nothing_short (short_lists old.lists (length window) (length work)) (short_six six st.sizes.n) (in_range st.sizes.n st.sizes.x st.sizes.z) p.whole in
      let x : short_six six c.n ≡ false = rw v.sizes at t.1 in
      rw (← v.spoiled, p.clean, t.0, x)

  module _ (window' work' : List ℕ) (six' : Six) (rep : Report) (d : Reports st.sizes budget limit (held flat ends shot') work work' six six' rep) where
    abbrev new : Lent
    new = lent_of (held flat ends shot') window' work' six'

    -- Of a complete code.
    module _ (c : Code) (s : Shot) (v : Holds c s st old.lists) where
      left : ShotLeft c s old.lists new.lists
      left = left_begun c s st flat ends shot shot' v b

      same : (q : Pauli) → shown_of (given_of q (sizes_of c) new.lists budget limit) ≡ outcome (half q c s) budget limit
      same = shown_held c s new.lists v.flat left.held budget limit

      done : (rep ≡ record { x = (outcome (half X c s) budget limit).report; z = (outcome (half Z c s) budget limit).report })
          × Shows c.n (outcome (half X c s) budget limit) six.x six'.x × Shows c.n (outcome (half Z c s) budget limit) six.z six'.z
      done =
          let good : (q : Pauli) → Obeying (given_of q (sizes_of c) new.lists budget limit)
          = λ q. obeying c s new.lists v.flat left.held budget limit q v.good_xs.ascending v.good_zs.ascending v.commute v.on in
          let enough = subst (λ (z : Sizes). BothEnough z budget limit new.lists (length work) six) v.sizes halves_enough in
          let t = (subst (λ (z : Sizes). Reports z budget limit new.lists work work' six six' rep) v.sizes d).decoded enough (good X) (good Z) in (
            t.0 ∙ ap₂ (λ (x z : Shown). record { x = x.report; z = z.report }) (same X) (same Z),
            subst (λ (u : Shown). Shows c.n u six.x six'.x) (same X) t.1,
            subst (λ (u : Shown). Shows c.n u six.z six'.z) (same Z) t.2,
          )

      decoded : (m : ℕ) → Carried (report budget limit) (ready c s) old new (record { state = reported_of m (ended_of st); answer = Decoded rep })
      decoded m =
          carried (report budget limit) (ready c s) old new (record { state = reported_of m (ended_of st); answer = Decoded rep }) none (no_refusal c s v)
          (ap Decoded done.0)
          (holds_reported (ended_of st) new.lists m (ready c empty_shot)
          (holds_ended (opened_of st) new.lists (ready c s) (holds_opened c s s st flat ends shot shot' v refl left.held)))
          left (done.1, done.2) d.work_long

    -- The window was long enough.
    entered : (m : ℕ) → Enters st.reports rep window window' m → Entered (place_of st.reports) rep window window' × (m ≡ one_more st.reports)
    entered m e = rw (le-ltb (length window) 2560 (whole st.sizes old p.whole).lists.window) at e

    pub decode_done : (r : Reply) → Replies st rep window window' r → Promised (report budget limit) st old new r
    decode_done r f =
        let e = entered f.0 f.1 in
        record {
          lengths = record { flat = refl; ends = refl; shot = b.long; window = e.0.long; work = d.work_long; x = d.x_long; z = d.z_long };
          spares = record { flat = λ i. refl; ends = λ i. refl; shot = λ i. never refl i };
          work = λ i. never refl i;
          six = λ i. never refl i;
          x_past = d.x_past;
          z_past = d.z_past;
          refused = λ n i. let j = f.2 in let z : ◌≡◌ {A = ℕ} 0 1 = cc in absurd (omega arith);
          says = says_nothing (report budget limit) st r refl (λ n i. let j = f.2 in let z : ◌≡◌ {A = ℕ} 0 1 = cc in omega arith) (rw f.2 e.1);
          window = rw f.2 e.0;
          carried = with_code st old.lists (λ a. Carried (report budget limit) a old new r) p.coded (λ c s v. rw f.2 (decoded c s v f.0));
        }
