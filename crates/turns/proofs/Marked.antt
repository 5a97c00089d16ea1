-- A half from the marks of its start: what is kept of its rows, the closed rows, the turns, the report. Assumes nothing.
use mathlib.Core.Path.{◌≡◌, refl, sym, ap, ◌∙◌, fun_ext, subst}
use mathlib.Core.Bool.{Bool, true, false, not, cond}
use mathlib.Core.Logic.{◌⊎◌, inl, inr, ⊎_elim}
use mathlib.Core.Option.{none, some}
use mathlib.Core.List.{List}
use Prim.Native.Nat.{ℕ, suc, ◌+◌, ◌-◌, ◌*◌, ◌/◌, ◌%◌, ◌≤◌, ◌<◌, zero-le}
use native.Mathlib.Omega.{arith}
use lib.Dec.{leb}
use lib.ListN.{length}
use borrow.Author.Tests.{leb-true, le-leb, lt-ltb, le-ltb}
use Rattle.binary.specs.Meaning.{Qubits}
use Rattle.binary.specs.Words.{bit}
use Rattle.binary.proofs.Bits.{bit as cases, never, and_out, not_out}
use Rattle.binary.proofs.WordBits.{order, bit_zero}
use Rattle.lists.specs.Cleared.{Cleared}
use Rattle.std.specs.Prelude.{None, Some}
use Rattle.machine.specs.declared.Word.{Word}
use Rattle.machine.specs.declared.HalfReport.{HalfReport}
use Rattle.machine.specs.Machine.{Form, End, on, is_open, blank, stage, freest, run}
use Rattle.machine.specs.Report.{marked}
use Rattle.machine.specs.Lists.{view, form_of, forms_of}
use Rattle.machine.proofs.FormWords.{form_in, form_out}
use Rattle.scans.specs.Rows.{RowLists, row_checks}
use Rattle.scans.specs.Scans.{count_marks}
use Rattle.closing.specs.Closing.{LitClosed}
use Rattle.turns.specs.declared.Ended.{Ended}
use Rattle.scans.specs.Half.{sized?}
use Rattle.turns.specs.Lent.{Room}
use Rattle.turns.specs.Lists.{state_of}
use Rattle.turns.specs.Turns.{Working, Stays, Ready, EndedAs, run_from, RunEnds}
use Rattle.turns.specs.Runs.{stage_in, Begins, end_of, Midway, rest_of, TurnedHalf, report_by, Ran, enough?, Answers}
use Rattle.turns.proofs.Stays.{stays_same, stays_on}
use Rattle.turns.proofs.Running.{run_failed}

----------------------------------------------------------------------
-- The start

pub blank_forms : (n : ℕ) (forms forms' : List ℕ) → Cleared 0 (4 * n) forms forms' → forms_of n forms' ≡ (λ q k. false)
blank_forms n forms forms' f =
    fun_ext λ q. fun_ext λ k. ⊎_elim (λ (l : q < n). rw (lt-ltb q n l) (within q k l (order k 256))) (λ (l : n ≤ q). rw (le-ltb q n l)) (order q n)
  where
    within : (q k : ℕ) → q < n → (k < 256) ⊎ (256 ≤ k) → form_of forms' q k ≡ false
    within q k l (inl h) = form_in forms' q k h ∙ ap (λ (x : ℕ). bit x (k % 64)) (f.inside (4 * q + k / 64) zero-le (omega arith)) ∙ bit_zero (k % 64)
    within q k l (inr h) = form_out forms' q k h

module _ (n : ℕ) (c : RowLists) (budget limit : ℕ) (old : Working) (forms₁ : List ℕ) (told : Bool) (room : Room n c old)
    (cleared : Cleared 0 (4 * n) old.forms forms₁) (tells : LitClosed c.lit c.first c.count old.work told) where
  abbrev o : Qubits
  o = is_open (view n old.marks)

  abbrev now : Working
  now = record { marks = old.marks; forms = forms₁; work = old.work }

  stays_mid : Stays n old now
  stays_mid = record { marks_long = refl; forms_long = cleared.long; work_long = refl; marks_rest = λ q i. refl; forms_rest = λ q l. cleared.outside q (inr l) }

  begun : Begins n c old → stage_in n c old.marks ≡ stage (view n old.marks) 0 (cond told none (some blank))
  begun b = ap (stage (view n old.marks) 0) (tells.taken room.read (let w = room.work in omega arith) room.few c.flat c.ends o b.kept)

  abbrev Turned : Working → Ended → Type 0
  Turned new r = TurnedHalf n c (Begins n c old) (end_of n c budget limit old) old new r

  pub half_failed : told ≡ true → Turned now (record { word = Word.None; turns = 0; live = 0 })
  half_failed e =
      record {
        stays = stays_mid;
        ends = λ b.
            subst (EndedAs n c now (record { word = Word.None; turns = 0; live = 0 }))
            (sym (run_failed (row_checks c) n (freest (row_checks c) n) budget limit (suc limit) (record { mark = view n old.marks; forms = blank; turns = 0 }))
            ∙ ap (run (row_checks c) n (freest (row_checks c) n) budget limit (suc limit)) (sym (begun b ∙ ap (λ (x : Bool). stage (view n old.marks) 0 (cond x none (some blank))) e)))
            (record { word = refl; turns = refl; live = refl; marks = refl; forms = λ j. never refl j; kept = λ j. never refl j });
      }

  clear : forms_of n forms₁ ≡ (λ q k. false)
  clear = blank_forms n old.forms forms₁ cleared

  start_ready : Begins n c old → Ready n c 0 false now
  start_ready b = record { topped = λ q k l. ap (λ (g : ℕ → Form). g q k) clear; kept = b.kept; on = b.on; weights = λ e. never e refl; unguessed = λ e. b.unguessed }

  here : told ≡ false → Begins n c old → stage_in n c old.marks ≡ on (state_of n old.marks forms₁ 0 0)
  here e b =
      begun b ∙ ap (λ (x : Bool). stage (view n old.marks) 0 (cond x none (some blank))) e
      ∙ ap (λ (g : ℕ → Form). on (record { mark = view n old.marks; forms = record { form = g; live = 0 }; turns = 0 })) (sym clear)

  pub half_goes : told ≡ false → (new : Working) (r : Ended) → RunEnds n c budget limit 0 0 now new r → Turned new r
  unfolding run_from
  half_goes e new r v =
      record {
        stays = stays_on n old now new stays_mid v.stays;
        ends = λ b.
            let all : limit - 0 ≡ limit = omega arith in
            subst (EndedAs n c new r)
            (ap (λ (m : ℕ). run (row_checks c) n (freest (row_checks c) n) budget limit (suc m) (on (state_of n old.marks forms₁ 0 0))) all
            ∙ sym (ap (run (row_checks c) n (freest (row_checks c) n) budget limit (suc limit)) (here e b)))
            (v.ends b.good (start_ready b) zero-le);
      }

-- From where turns without a guess led.
pub half_rest : (n : ℕ) (c : RowLists) (budget limit made : ℕ) (old new : Working) (r : Ended) → RunEnds n c budget limit made 0 old new r
    → TurnedHalf n c (Midway n c old) (rest_of n c budget limit made old) old new r
half_rest n c budget limit made old new r v =
    record {
      stays = v.stays;
      ends = λ m.
          let b = m.begins in v.ends b.good (record { topped = m.topped; kept = b.kept; on = b.on; weights = λ e. never e refl; unguessed = λ e. b.unguessed }) zero-le;
    }

----------------------------------------------------------------------
-- The report

-- Marks counted, of a list that is long enough.
pub counted_as : (n : ℕ) (marks : List ℕ) (m x : ℕ) → n ≤ length marks → x ≡ count_marks n marks m → x ≡ marked n (view n marks) m
counted_as n marks m x h e = e ∙ rw (le-leb n (length marks) h)

ran_as : (n : ℕ) (c : RowLists) (end : End) (new : Working) (e : Ended) (r : HalfReport) → EndedAs n c new e end → r ≡ report_by n e new.marks → Ran n c new r end
ran_as n c end new e r w told =
    record {
      report = told ∙ λ i. record { word = w.word i; fixed = marked n (w.marks i) 1; turns = w.turns i; guesses = marked n (w.marks i) 3; live = w.live i };
      marks = w.marks;
      forms = w.forms;
      kept = w.kept;
    }

----------------------------------------------------------------------
-- Sizes in range and lists long enough, and the promise

pub enough_out : (n : ℕ) (c : RowLists) (l : Working) → enough? n c l ≡ true → Room n c l
unfolding enough? sized?
enough_out n c l t =
    let b = and_out _ (leb (4 * n) (length l.forms)) t in
    let d = and_out _ (leb n (length l.marks)) b.0 in
    let e = and_out _ (leb 10240 (length l.work)) d.0 in
    let f = and_out _ (leb c.first 512) e.0 in
    let g = and_out _ (leb (c.first + c.count) (length c.lit)) f.0 in
    let h = and_out _ (leb (c.first + c.count) 1024) g.0 in
    let i = and_out (leb n 1024) (leb c.count 512) h.0 in
    record {
      size = leb-true _ _ i.0;
      marks = leb-true _ _ d.1;
      forms = leb-true _ _ b.1;
      work = leb-true _ _ e.1;
      few = leb-true _ _ i.1;
      read = leb-true _ _ g.1;
      last = leb-true _ _ h.1;
    }

-- Of sizes in range and lists long enough.
pub enough_in : (n : ℕ) (c : RowLists) (l : Working) → Room n c l → c.first ≤ 512 → enough? n c l ≡ true
unfolding enough? sized?
enough_in n c l r first =
    rw (
      le-leb n 1024 r.size,
      le-leb c.count 512 r.few,
      le-leb (c.first + c.count) 1024 r.last,
      le-leb (c.first + c.count) (length c.lit) r.read,
      le-leb c.first 512 first,
      le-leb 10240 (length l.work) r.work,
      le-leb n (length l.marks) r.marks,
      le-leb (4 * n) (length l.forms) r.forms,
    )

pub enough_told : (enough told : Bool) → told ≡ enough → not told ≡ false → enough ≡ true
enough_told enough told tells e = cases enough (λ y. y) (λ y. never (ap not (tells ∙ y)) e)

module _ (n : ℕ) (c : RowLists) (enough : Bool) (asked : Type 0) (end : End) (old : Working) (told : Bool) (tells : told ≡ enough) where
  pub answers_refused : not told ≡ true → Answers n c enough asked end old old None
  answers_refused e =
      record {
        stays = stays_same n old;
        refused = λ i. (refl, refl);
        over = λ i. never i (sym tells ∙ not_out told e);
      }

  pub answers_over : not told ≡ false → (new : Working) (e : Ended) (r : HalfReport) → TurnedHalf n c asked end old new e → r ≡ report_by n e new.marks
      → Answers n c enough asked end old new (Some r)
  answers_over f new e r v is =
      record { stays = v.stays; refused = λ i. never (enough_told enough told tells f) i; over = λ i. (r, refl, λ b. ran_as n c end new e r (v.ends b) is) }
