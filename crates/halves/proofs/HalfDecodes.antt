-- The lists that a half's decode leaves show the machine's outcome. Assumes nothing.
use mathlib.Core.Path.{◌≡◌, refl, sym, ap, ap₂, ◌∙◌, fun_ext, subst}
use mathlib.Core.Bool.{Bool, true, false, not, ◌&&◌, cond}
use mathlib.Core.Logic.{⊎_elim}
use mathlib.Core.List.{List}
use Rattle.std.specs.Prelude.{Option, Some, None}
use Prim.Native.Nat.{ℕ, ◌+◌, ◌*◌, ◌/◌, ◌%◌, ◌^◌, ◌≤◌, ◌<◌}
use native.Mathlib.Omega.{arith}
use lib.Dec.{eqb, ltb, leb}
use lib.ListN.{length, get_or}
use borrow.Author.Tests.{lt-ltb, le-ltb, leb-true}
use Rattle.binary.specs.Words.{bit}
use Rattle.binary.proofs.Bits.{bit as cases, never, and_out, not_out}
use Rattle.binary.proofs.WordBits.{bit_zero, order}
use Rattle.scans.specs.Rows.{RowLists}
use Rattle.kept.specs.Kept.{Kept}
use Rattle.guessing.specs.Guessing.{Weighed}
use Rattle.machine.specs.declared.Word.{Word}
use Rattle.machine.specs.declared.HalfReport.{HalfReport}
use Rattle.machine.specs.Words.{finished?}
use Rattle.machine.specs.Machine.{Form, End, is_open, decoded}
use Rattle.machine.specs.Fillings.{filling}
use Rattle.machine.specs.Report.{none?, shown}
use Rattle.machine.specs.Lists.{view, form_of, HalfLists, digit, Shows, Past}
use Rattle.machine.proofs.FormWords.{form_in, form_out, form_first, first_digit}
use Rattle.halves.specs.Decode.{Given, own_rows, enough_in?, Decodes}
use Rattle.turns.specs.Turns.{Working, Stays, KeptOver}
use Rattle.turns.specs.Runs.{Ran}
use Rattle.turns.proofs.Marked.{enough_told}
use Rattle.halves.specs.Starts.{half_in, RowsObey, HalfRoom, HalfRan, Finished}
use Rattle.machine.proofs.Values.{value_off}
use Rattle.halves.proofs.Finishing.{not_none}

-- What the turns and the end leave past n is as it was.
past_stays : (n : ℕ) (old : Working) (correction : List ℕ) (mid : Working) (w : Word) (new : HalfLists) → Stays n old mid
    → Finished n w (record { marks = mid.marks; forms = mid.forms; correction = correction }) new
    → Past n (record { marks = old.marks; forms = old.forms; correction = correction }) new
past_stays n old correction mid w new k f = record {
  marks = λ q i. f.marks.rest q i ∙ k.marks_rest q i;
  forms = λ q i. f.forms.rest q i ∙ k.forms_rest q i;
  correction = λ q i. f.correction.rest q i;
}

module _ (n : ℕ) (c : RowLists) (mid : Working) (correction : List ℕ) (new : HalfLists) (r : HalfReport) (e : End) (v : Ran n c mid r e)
    (f : Finished n r.word (record { marks = mid.marks; forms = mid.forms; correction = correction }) new) where
  word : r.word ≡ e.word
  word = ap (λ (h : HalfReport). h.word) v.report

  at : (l : List ℕ) (q : ℕ) → q < n → view n l q ≡ get_or l q 0
  at l q i = rw (lt-ltb q n i)

  form_at : none? e.word ≡ false → (q : ℕ) → q < n → (k : ℕ) → form_of mid.forms q k ≡ e.state.forms.form q k
  form_at j q i k = let t : ltb q n ≡ true = lt-ltb q n i in rw t at (ap (λ (g : ℕ → Form). g q k) (v.forms j))

  marks_shown : (q : ℕ) → q < n → get_or new.marks q 0 ≡ cond (none? e.word) 0 (e.state.mark q)
  marks_shown q i =
      f.marks.first q i
      ∙ ap₂ (λ (w : Word) (x : ℕ). cond (none? w) 0 x) word (sym (at mid.marks q i) ∙ ap (λ (g : ℕ → ℕ). g q) v.marks)

  -- The words of a form, if it is not none.
  words_shown : (q : ℕ) → q < n → (k : ℕ) → k < 256 → get_or new.forms (4 * q + k / 64) 0 ≡ cond (none? e.word) 0 (get_or mid.forms (4 * q + k / 64) 0)
  words_shown q i k l = f.forms.first (4 * q + k / 64) (omega arith) ∙ ap (λ (w : Word). cond (none? w) 0 (get_or mid.forms (4 * q + k / 64) 0)) word

  forms_shown : (q : ℕ) → q < n → (k : ℕ) → form_of new.forms q k ≡ (not (none? e.word) && e.state.forms.form q k)
  forms_shown q i k = ⊎_elim (λ (l : k < 256). inside l) (λ (l : 256 ≤ k). outside l) (order k 256)
    where
      inside : k < 256 → form_of new.forms q k ≡ (not (none? e.word) && e.state.forms.form q k)
      inside l =
          form_in new.forms q k l ∙ ap (λ (x : ℕ). bit x (k % 64)) (words_shown q i k l)
          ∙ cases (none? e.word) (λ j. rw j (bit_zero (k % 64))) (λ j. rw j (sym (form_in mid.forms q k l) ∙ form_at j q i k))

      outside : 256 ≤ k → form_of new.forms q k ≡ (not (none? e.word) && e.state.forms.form q k)
      outside l =
          form_out new.forms q k l ∙ cases (none? e.word) (λ j. rw j) (λ j. rw j (sym (form_out mid.forms q k l) ∙ form_at j q i k))

  flips_shown : (q : ℕ) → q < n → get_or new.correction q 0
      ≡ digit (finished? e.word && filling e.state.forms.live e.state.forms.form (λ k. false) q)
  flips_shown q i =
      f.correction.first q i ∙ ap (λ (w : Word). cond (finished? w) (get_or mid.forms (4 * q) 0 % 2) 0) word
      ∙ cases (finished? e.word)
      (λ j. rw j (first_digit (get_or mid.forms (4 * q) 0)
      ∙ ap digit (sym (form_first mid.forms q 0 (omega arith)) ∙ form_at (not_none e.word j) q i 0 ∙ sym (value_off e.state.forms.live (e.state.forms.form q)))))
      (λ j. rw j)

  -- At any end but none the marks stay, and with them what is kept of the rows.
  marks_stay : none? e.word ≡ false → view n mid.marks ≡ view n new.marks
  marks_stay j = fun_ext λ q. ⊎_elim (inside q) (λ (i : n ≤ q). rw (le-ltb q n i)) (order q n)
    where
      inside : (q : ℕ) → q < n → view n mid.marks q ≡ view n new.marks q
      inside q i = rw (lt-ltb q n i) (sym (f.marks.first q i ∙ rw (word, j)))

  pub ended_kept : none? e.word ≡ false → KeptOver n c new.marks mid.work
  ended_kept j =
      let w = v.kept j in
      record {
        rows = subst (λ (m : ℕ → ℕ). Kept (is_open m) c mid.work) (marks_stay j) w.rows;
        weights = subst (λ (m : ℕ → ℕ). (q : ℕ) → eqb (m q) 3 ≡ true → Weighed (is_open m) c mid.work) (marks_stay j) w.weights;
      }

  pub ended_shows : (old : HalfLists) → Past n old new → ((i : ℕ) → get_or new.forms i 0 < 2 ^ 64) → Shows n (shown n e) old new
  unfolding shown
  ended_shows old past wide = record { marks = marks_shown; forms = forms_shown; words = λ i l. wide i; correction = flips_shown; past = past }

----------------------------------------------------------------------
-- Sizes in range and lists long enough

module _ (g : Given) (work : List ℕ) (l : HalfLists) where
  abbrev Long : Type 0
  Long = HalfRoom g.n (own_rows g) g.lost g.other g.others (record { marks = l.marks; forms = l.forms; work = work }) × (g.n ≤ length l.correction)

  -- What the test says, in the order of its parts.
  pub enough_out : enough_in? g (length work) l ≡ true → Long
  unfolding enough_in?
  enough_out t =
      let a = and_out _ (leb g.n (length l.correction)) t in
      let b = and_out _ (leb (4 * g.n) (length l.forms)) a.0 in
      let c = and_out _ (leb g.n (length l.marks)) b.0 in
      let d = and_out _ (leb (g.first + g.count) (length g.lit)) c.0 in
      let e = and_out _ (leb g.n (length g.lost)) d.0 in
      let f = and_out _ (leb 10240 (length work)) e.0 in
      let h = and_out _ (leb g.other 512) f.0 in
      let i = and_out _ (leb g.first 512) h.0 in
      let j = and_out _ (leb g.others 512) i.0 in
      let k = and_out (leb g.n 1024) (leb g.count 512) j.0 in (
        record {
          size = leb-true g.n 1024 k.0;
          few = leb-true g.count 512 k.1;
          few_others = leb-true g.others 512 j.1;
          first = leb-true g.first 512 i.1;
          other_first = leb-true g.other 512 h.1;
          work = leb-true 10240 (length work) f.1;
          losses = leb-true g.n (length g.lost) e.1;
          read = leb-true (g.first + g.count) (length g.lit) d.1;
          marks = leb-true g.n (length l.marks) c.1;
          forms = leb-true (4 * g.n) (length l.forms) b.1;
        },
        leb-true g.n (length l.correction) a.1,
      )

  -- What is told to be enough is.
  pub long_enough : (told : Bool) → told ≡ enough_in? g (length work) l → not told ≡ false → Long
  long_enough told tells e = enough_out (enough_told (enough_in? g (length work) l) told tells e)

----------------------------------------------------------------------
-- The promise

-- Nothing is written where a size is out of range or a list too short.
pub decodes_refused : (g : Given) (work : List ℕ) (l : HalfLists) (told : Bool) → told ≡ enough_in? g (length work) l → not told ≡ true → Decodes g work work l l None
decodes_refused g work l told tells e =
    let no : enough_in? g (length work) l ≡ false = sym tells ∙ not_out told e in
    record {
      lengths = record { marks = refl; forms = refl; correction = refl };
      past = record { marks = λ q i. refl; forms = λ q i. refl; correction = λ q i. refl };
      work_long = refl;
      refused = λ i. (refl, refl, refl);
      answered = λ i. never i no;
      decoded = λ i. never i no;
      kept = λ i. never i no;
    }

module _ (g : Given) (work : List ℕ) (old : HalfLists) (mid : Working) (told : Bool) (tells : told ≡ enough_in? g (length work) old) (enough : not told ≡ false) (a : Option HalfReport)
    (v : HalfRan g.n (own_rows g) g.lost g.other g.others g.budget g.limit (record { marks = old.marks; forms = old.forms; work = work }) mid a) where
  is_enough : enough_in? g (length work) old ≡ true
  is_enough = enough_told (enough_in? g (length work) old) told tells enough

  -- A half that is run is told.
  pub none_told : a ≡ None → ⊥
  none_told e = let o = v.over in let z : ◌≡◌ {A = ℕ} 0 1 = cc in omega arith

  pub room_then : (g.n ≤ length mid.marks) × (4 * g.n ≤ length mid.forms) × (g.n ≤ length old.correction)
  room_then = let f = enough_out g work old is_enough in let k = v.stays in (omega arith, omega arith, f.1)

  module _ (r : HalfReport) (is : a ≡ Some r) (new : HalfLists) (f : Finished g.n r.word (record { marks = mid.marks; forms = mid.forms; correction = old.correction }) new)
      (wide : (i : ℕ) → get_or new.forms i 0 < 2 ^ 64) where
    abbrev e : End
    e = decoded (half_in g.n (own_rows g) g.lost g.other g.others) g.budget g.limit

    ran : RowsObey g.n (own_rows g) g.other g.others → Ran g.n (own_rows g) mid r e
    ran obey =
        let o = v.over in
        let same : o.0 ≡ r = cc in
        subst (λ (x : HalfReport). Ran g.n (own_rows g) mid x e) same (o.2 obey)

    past : Past g.n old new
    past = past_stays g.n (record { marks = old.marks; forms = old.forms; work = work }) old.correction mid r.word new v.stays f

    pub decodes_done : Decodes g work mid.work old new (Some r)
    unfolding shown
    decodes_done =
        record {
          lengths = record {
            marks = f.marks.long ∙ v.stays.marks_long;
            forms = f.forms.long ∙ v.stays.forms_long;
            correction = f.correction.long;
          };
          past = past;
          work_long = v.stays.work_long;
          refused = λ i. never is_enough i;
          answered = λ i j. let z : ◌≡◌ {A = ℕ} 0 1 = cc in omega arith;
          decoded = λ i obey. let w = ran obey in (ap Some w.report, ended_shows g.n (own_rows g) mid old.correction new r e w f old past wide);
          kept = λ i obey. ended_kept g.n (own_rows g) mid old.correction new r e (ran obey) f;
        }
