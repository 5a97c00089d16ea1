-- The rows on a qubit that was settled: each has an open qubit less, and those that this closed are taken up. Assumes nothing.
use mathlib.Core.Path.{◌≡◌, refl, sym, ap, ◌∙◌, subst}
use mathlib.Core.Bool.{Bool, true, false, not, ◌&&◌, cond}
use mathlib.Core.Option.{Option, none, some}
use mathlib.Core.List.{List, []}
use Rattle.std.specs.Prelude.{None, Some}
use Prim.Native.Nat.{ℕ, ◌+◌, ◌*◌, ◌-◌, ◌≤◌, ◌<◌}
use native.Mathlib.Omega.{arith}
use lib.Dec.{eqb, ltb, leb}
use lib.ListN.{length, get_or}
use borrow.Author.Tests.{ltb-true, leb-true, lt-ltb, le-leb}
use Rattle.binary.specs.Meaning.{Qubits, Row, Check, has}
use Rattle.binary.proofs.Bits.{bit, never, and_out, not_out}
use Rattle.bitsets.specs.Bitsets.{in_set, NextIn}
use Rattle.machine.specs.Machine.{Forms, put, part, closed?, bind, take_if, take_up_all}
use Rattle.forms.specs.Forms.{with_live, Topped, Taken, TakenAs}
use Rattle.scans.specs.Rows.{RowLists, check_in, read_in?, row_checks}
use Rattle.scans.proofs.Checks.{from, from_all, from_none}
use Rattle.kept.specs.Kept.{row_in, Lowered}
use Rattle.kept.proofs.Lowering.{Lowering, Given, on_row, lowering_pass, lowering_none, on_it, number_is, rows_on_lem, lowering_row, lowering_end}
use Rattle.closing.specs.Closing.{closed_at?, TookIf, TakenRows, ClosingRows, enough?, Enough, ClosedRows}
use Rattle.closing.proofs.TakingRows.{taken_none, taken_some, never_live, length_empty, from_next, from_passed}

none_has : (b : Bool) (row : Row) (p : ℕ) (x : Bool) → has (cond b row []) p ≡ false → (b && (has row p && x)) ≡ false
none_has true row p x e = rw e
none_has false row p x e = refl

----------------------------------------------------------------------
-- The rows on a qubit that was settled

-- With the qubits o open before; the rows before row i are done.
pub record Closing (n : ℕ) (c : RowLists) (p live : ℕ) (o : Qubits) (forms₀ : List ℕ) (i left : ℕ) (forms work : List ℕ) : Type 0 where
  pub so : take_up_all (closed_at? false p (put p false o)) (from c i) (with_live n forms left) ≡ take_up_all (closed_at? false p (put p false o)) (row_checks c) (with_live n forms₀ live)
  pub topped : Topped n left forms
  pub lowering : Lowering c p o i work

-- What is known of the lists at the start of the loop.
pub record Begun (n : ℕ) (c : RowLists) (p live : ℕ) (o : Qubits) (forms₀ work₀ : List ℕ) : Type 0 where
  pub given : Given n c p o work₀
  pub topped : Topped n live forms₀

module _ (n : ℕ) (c : RowLists) (p live : ℕ) (o : Qubits) (forms₀ work₀ : List ℕ) (small : p < 1024) (few : c.count ≤ 512) (g : Begun n c p live o forms₀ work₀) where
  abbrev o' : Qubits
  o' = put p false o

  abbrev test : Check → Bool
  test = closed_at? false p o'

  abbrev Rows : List ℕ → Type 0
  Rows work = (k : ℕ) → k < 8192 → get_or work k 0 ≡ get_or work₀ k 0

  -- Rows that are not on the qubit are passed over.
  pass : (i i' left : ℕ) (forms work : List ℕ) → Rows work → Closing n c p live o forms₀ i left forms work → i ≤ i' → i' ≤ c.count
      → ((j : ℕ) → i ≤ j → j < i' → in_set work p j ≡ false) → Closing n c p live o forms₀ i' left forms work
  unfolding closed_at?
  pass i i' left forms work same s a b none-on =
      let e : i + (i' - i) ≡ i' = omega arith in
      record {
        so = sym (from_passed c test (with_live n forms left) i (i' - i) (omega arith) (λ j l m. none_has (read_in? c j) (check_in c j).row p (closed? o' (check_in c j)) (off j l (omega arith)))
            ∙ ap (λ (k : ℕ). take_up_all test (from c k) (with_live n forms left)) e) ∙ s.so;
        topped = s.topped;
        lowering = lowering_pass n c p o work₀ small few g.given i i' work same s.lowering a b none-on;
      }
    where
      off : (j : ℕ) → i ≤ j → j < i' → has (row_in c j) p ≡ false
      off j l m = sym (on_row n c p o work₀ small few g.given work same j (omega arith)) ∙ none-on j l m

  pub closing_start : (i : ℕ) → NextIn work₀ p 0 c.count i → Closing n c p live o forms₀ i live forms₀ work₀
  closing_start i f =
      let w = f.within (omega arith) in
      pass 0 i live forms₀ work₀ (λ k h. refl) (record {
        so = ap (λ (cs : List Check). take_up_all test cs (with_live n forms₀ live)) (from_all c);
        topped = g.topped;
        lowering = lowering_none n c p o work₀ small few g.given;
      }) (omega arith) w.1 f.skipped

  -- Row i, which is on the qubit.
  module _ (i left : ℕ) (forms work : List ℕ) (same : Rows work) (s : Closing n c p live o forms₀ i left forms work) (h : i < c.count) (found : in_set work p i ≡ true)
      (long : 9216 ≤ length work) (work' : List ℕ) (number : ℕ) (low : Lowered i work work' number) where
    -- The row closed if none is left.
    closes : (read_in? c i && test (check_in c i)) ≡ eqb number 0
    unfolding closed_at?
    closes =
        let it = on_it n c p o work₀ small few g.given i work same s.lowering h found long work' number low in
        rw (it.0, it.1, number_is n c p o work₀ small few g.given i work same s.lowering h found long work' number low) (sym (length_empty (part o' (check_in c i).row)))

    module _ (told : Bool) (tells : told ≡ eqb number 0) (room : 4 * n ≤ length forms) (t : Taken) (forms' : List ℕ) (took : TookIf n told (check_in c i) left forms forms' t) where
      abbrev row_step : Option Forms
      row_step = take_if (read_in? c i && test (check_in c i)) (with_live n forms left) (check_in c i)

      row_took : TakenAs n forms' row_step t
      row_took = subst (λ (b : Bool). TakenAs n forms' (take_if b (with_live n forms left) (check_in c i)) t) (tells ∙ sym closes) (took.taken room s.topped)

      whole : bind row_step (take_up_all test (from c (i + 1))) ≡ take_up_all test (row_checks c) (with_live n forms₀ live)
      whole = sym (from_next c test i h (with_live n forms left)) ∙ s.so

      pub closing_failed : t ≡ None → TakenRows n c p live o forms₀ forms' work' None
      closing_failed e =
          let z = taken_none n forms' row_step (subst (TakenAs n forms' row_step) e row_took) in
          let w : none ≡ take_up_all test (row_checks c) (with_live n forms₀ live) = sym (ap (λ (x : Option Forms). bind x (take_up_all test (from c (i + 1)))) z) ∙ whole in
          record { taken = subst (λ (x : Option Forms). TakenAs n forms' x None) w refl; kept = λ k u. never_live k u }

      pub closing_turn : (left' : ℕ) → t ≡ Some left' → (i' : ℕ) → NextIn work' p (i + 1) c.count i' → Closing n c p live o forms₀ i' left' forms' work'
      closing_turn left' e i' f =
          let z = taken_some n forms' row_step left' (subst (TakenAs n forms' row_step) e row_took) in
          let w = f.within (omega arith) in
          pass (i + 1) i' left' forms' work' (rows_on_lem n c p o work₀ small few g.given i work same s.lowering h found long work' number low) (record {
            so = sym (ap (λ (x : Option Forms). bind x (take_up_all test (from c (i + 1)))) z.0) ∙ whole;
            topped = z.1;
            lowering = lowering_row n c p o work₀ small few g.given i work same s.lowering h found long work' number low;
          }) w.0 w.1 f.skipped

  pub closing_end : (i left : ℕ) (forms work : List ℕ) → Closing n c p live o forms₀ i left forms work → c.count ≤ i → TakenRows n c p live o forms₀ forms work (Some left)
  closing_end i left forms work s h =
      let w : some (with_live n forms left) ≡ take_up_all test (row_checks c) (with_live n forms₀ live) = sym (ap (λ (cs : List Check). take_up_all test cs (with_live n forms left)) (from_none c i h)) ∙ s.so in
      record {
        taken = subst (λ (x : Option Forms). TakenAs n forms x (Some left)) w (refl, refl, s.topped);
        kept = λ k u. lowering_end n c p o work₀ small few g.given i work s.lowering h;
      }

----------------------------------------------------------------------
-- The loop

-- Whatever the lists hold: lengths, and forms past 4 × n and what is past what is kept, stay; row i is the next on the qubit.
pub record ClosingAll (n : ℕ) (c : RowLists) (p live : ℕ) (forms₀ work₀ : List ℕ) (i left : ℕ) (forms work : List ℕ) : Type 0 where
  pub forms_long : length forms ≡ length forms₀
  pub forms_rest : (q : ℕ) → 4 * n ≤ q → get_or forms q 0 ≡ get_or forms₀ q 0
  pub work_long : length work ≡ length work₀
  pub below : (k : ℕ) → k < 8192 → get_or work k 0 ≡ get_or work₀ k 0
  pub past : (k : ℕ) → 9216 ≤ k → get_or work k 0 ≡ get_or work₀ k 0
  pub within : i ≤ c.count
  pub found : i < c.count → in_set work p i ≡ true
  pub so : (o : Qubits) → Begun n c p live o forms₀ work₀ → Closing n c p live o forms₀ i left forms work

module _ (n : ℕ) (c : RowLists) (p live : ℕ) (forms₀ work₀ : List ℕ) (small : p < 1024) (few : c.count ≤ 512) where
  pub all_start : (i : ℕ) → NextIn work₀ p 0 c.count i → ClosingAll n c p live forms₀ work₀ i live forms₀ work₀
  all_start i f =
      record {
        forms_long = refl;
        forms_rest = λ q h. refl;
        work_long = refl;
        below = λ k h. refl;
        past = λ k h. refl;
        within = (f.within (omega arith)).1;
        found = f.found;
        so = λ o g. closing_start n c p live o forms₀ work₀ small few g i f;
      }

  pub closed_rows : (i left : ℕ) (forms work : List ℕ) → ClosingAll n c p live forms₀ work₀ i left forms work → (t : Taken)
      → ((o : Qubits) → Begun n c p live o forms₀ work₀ → TakenRows n c p live o forms₀ forms work t) → ClosingRows n c p live forms₀ forms work₀ work t
  closed_rows i left forms work a t v =
      record {
        forms_long = a.forms_long;
        forms_rest = a.forms_rest;
        work_long = a.work_long;
        below = a.below;
        past = a.past;
        rows = λ good o e k r top. v o (record { given = record { good = good; open_p = e; kept = k; on = r }; topped = top });
      }

  pub all_end : (i left : ℕ) (forms work : List ℕ) → ClosingAll n c p live forms₀ work₀ i left forms work → c.count ≤ i → ClosingRows n c p live forms₀ forms work₀ work (Some left)
  all_end i left forms work a h =
      closed_rows i left forms work a (Some left) (λ o g. closing_end n c p live o forms₀ work₀ small few g i left forms work (a.so o g) h)

  module _ (i left : ℕ) (forms work : List ℕ) (a : ClosingAll n c p live forms₀ work₀ i left forms work) (h : i < c.count) (long : 9216 ≤ length work₀) (room : 4 * n ≤ length forms₀)
      (work' : List ℕ) (number : ℕ) (low : Lowered i work work' number) (told : Bool) (tells : told ≡ eqb number 0) (t : Taken) (forms' : List ℕ)
      (took : TookIf n told (check_in c i) left forms forms' t) where
    stays : (i' left' : ℕ) → i' ≤ c.count → (i' < c.count → in_set work' p i' ≡ true)
        → ((o : Qubits) → Begun n c p live o forms₀ work₀ → Closing n c p live o forms₀ i' left' forms' work') → ClosingAll n c p live forms₀ work₀ i' left' forms' work'
    stays i' left' w f s =
        record {
          forms_long = took.long ∙ a.forms_long;
          forms_rest = λ q l. took.rest q l ∙ a.forms_rest q l;
          work_long = low.long ∙ a.work_long;
          below = λ k l. low.below k l ∙ a.below k l;
          past = λ k l. low.past k l ∙ a.past k l;
          within = w;
          found = f;
          so = s;
        }

    pub all_failed : t ≡ None → ClosingRows n c p live forms₀ forms' work₀ work' None
    all_failed e =
        record {
          forms_long = took.long ∙ a.forms_long;
          forms_rest = λ q l. took.rest q l ∙ a.forms_rest q l;
          work_long = low.long ∙ a.work_long;
          below = λ k l. low.below k l ∙ a.below k l;
          past = λ k l. low.past k l ∙ a.past k l;
          rows = λ good o u k r top.
              let g : Begun n c p live o forms₀ work₀ = record { given = record { good = good; open_p = u; kept = k; on = r }; topped = top } in
              closing_failed n c p live o forms₀ work₀ small few g i left forms work a.below (a.so o g) h (a.found h) (rw a.work_long long) work' number low told tells
              (rw a.forms_long room) t forms' took e;
        }

    pub all_turn : (left' : ℕ) → t ≡ Some left' → (i' : ℕ) → NextIn work' p (i + 1) c.count i' → ClosingAll n c p live forms₀ work₀ i' left' forms' work'
    all_turn left' e i' f =
        stays i' left' (f.within (omega arith)).1 f.found
        (λ o g. closing_turn n c p live o forms₀ work₀ small few g i left forms work a.below (a.so o g) h (a.found h) (rw a.work_long long) work' number low told tells
        (rw a.forms_long room) t forms' took left' e i' f)

----------------------------------------------------------------------
-- Sizes in range and lists long enough, and the promise

-- Of sizes in range and lists long enough.
pub closed_as : (n : ℕ) (c : RowLists) (p live : ℕ) (forms forms' work work' : List ℕ) (t : Taken) → Enough n c p work forms → ClosedRows n c p live forms forms' work work' t
    → ClosingRows n c p live forms forms' work work' t
unfolding enough?
closed_as n c p live forms forms' work work' t f v =
    v.closes (rw (
      lt-ltb p 1024 f.small,
      le-leb c.count 512 f.few,
      le-leb (c.first + c.count) 1024 f.last,
      le-leb (4 * n) (length forms) f.forms_long,
      le-leb 10240 (length work) f.work_long,
      le-leb (c.first + c.count) (length c.lit) f.lit,
    ))

module _ (n : ℕ) (c : RowLists) (p live : ℕ) (forms work : List ℕ) (told : Bool) (tells : told ≡ enough? n c p work forms) where
  enough_told : not told ≡ false → enough? n c p work forms ≡ true
  enough_told e = bit (enough? n c p work forms) (λ y. y) (λ y. never (ap not (tells ∙ y)) e)

  pub enough_out : not told ≡ false → Enough n c p work forms
  unfolding enough?
  enough_out e =
      let a = and_out _ (leb (c.first + c.count) (length c.lit)) (enough_told e) in
      let b = and_out _ (leb 10240 (length work)) a.0 in
      let d = and_out _ (leb (4 * n) (length forms)) b.0 in
      let f = and_out _ (leb (c.first + c.count) 1024) d.0 in
      let g = and_out (ltb p 1024) (leb c.count 512) f.0 in
      record {
        forms_long = leb-true _ _ d.1;
        small = ltb-true _ _ g.0;
        few = leb-true _ _ g.1;
        work_long = leb-true _ _ b.1;
        lit = leb-true _ _ a.1;
        last = leb-true _ _ f.1;
      }

  pub closed_refused : not told ≡ true → (forms' work' : List ℕ) → forms' ≡ forms → work' ≡ work → ClosedRows n c p live forms forms' work work' None
  closed_refused e forms' work' i j = record { refused = λ u. (refl, i, j); closes = λ u. never u (sym tells ∙ not_out told e) }

  pub closed_made : not told ≡ false → (forms' work' : List ℕ) (t : Taken) → ClosingRows n c p live forms forms' work work' t → ClosedRows n c p live forms forms' work work' t
  closed_made e forms' work' t v = record { refused = λ u. never (enough_told e) u; closes = λ u. v }
