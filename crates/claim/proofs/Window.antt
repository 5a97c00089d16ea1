-- The window's list holds the last 256 reports, and what a read counts in it is a fresh count over them. Assumes nothing.
use Rattle.std.specs.Prelude.{Result}
use mathlib.Core.Path.{◌≡◌, refl, sym, ap, ap₂, ◌∙◌, subst}
use mathlib.Core.Bool.{Bool, true, false}
use mathlib.Core.Logic.{◌⊎◌, inl, inr, ⊎_elim}
use mathlib.Core.List.{List, [], ◌∷◌, ◌++◌}
use Prim.Native.Nat.{ℕ, zero, suc, ◌+◌, ◌-◌, ◌*◌, ◌%◌, ◌≤◌, ◌<◌}
use native.Mathlib.Omega.{arith}
use borrow.Author.Tests.{lt-ltb, ltb-true, ltb-false}
use lib.Dec.{ltb}
use lib.ListN.{length, get_or, length-append, length-drop, get_or-append}
use lib.Seq.{get_or-append_seam, get_or-drop}
use Rattle.binary.proofs.Bits.{bit}
use Rattle.machine.specs.declared.Word.TheVariants.{None}
use Rattle.machine.specs.declared.HalfReport.{HalfReport}
use Rattle.records.specs.declared.Report.{Report}
use Rattle.records.specs.declared.Answer.{Answer}
use Rattle.records.specs.declared.Answer.TheVariants.{Refused, Taken, Complete, Decoded}
use Rattle.window_meaning.specs.declared.Counts.{Counts}
use Rattle.window_meaning.specs.declared.WindowRefusal.{WindowRefusal}
use Rattle.records.specs.declared.Pauli.{Pauli}
use Rattle.records.specs.declared.Pauli.TheVariants.{X, Z}
use Rattle.records.specs.Records.{Record, unknown, wrong, size, row, add, report, encodes}
use Rattle.records.specs.Window.{on_reports, one_more, place_of, kept_of, Entry, entry_of, entry_at, offset, Entered}
use Rattle.window_meaning.specs.Read.{counted, sum_below, counts_at, window_answer}
use Rattle.records.proofs.Window.{kept_few, kept_many}
use Rattle.claim.specs.Window.{last, report_for, sum_over, count_over, ReadOf, KeptIn}

----------------------------------------------------------------------
-- The number of reports

module _ (m n : ℕ) (few : m ≤ 511) (kept : kept_of m ≡ kept_of n) (place : place_of m ≡ place_of n) where
  -- Below 256 the number is that of the reports.
  same_few : m < 256 → m ≡ n
  same_few h = ⊎_elim (λ i. sym (kept_few m h) ∙ kept ∙ kept_few n i) (λ i. absurd (omega (arith, kept_few m h, kept_many n i, kept))) (order n)
    where
      order : (n : ℕ) → (n < 256) ⊎ (256 ≤ n)
      order n = bit (ltb n 256) (λ t. inl (ltb-true n 256 t)) (λ t. inr (ltb-false n 256 t))

  same_many : 256 ≤ m → 256 ≤ n
  same_many h = bit (ltb n 256) (λ t. absurd (omega (arith, kept_few n (ltb-true n 256 t), kept_many m h, kept, ltb-true n 256 t))) (λ t. ltb-false n 256 t)

  more_few : one_more m ≤ 511
  more_few = bit (ltb m 511) (λ t. rw t (omega (arith, ltb-true m 511 t))) (λ t. rw t (omega arith))

  more_kept : kept_of (one_more m) ≡ kept_of (n + 1)
  more_kept =
      bit (ltb m 256)
      (λ t. let h = ltb-true m 256 t in let one : suc n ≡ n + 1 = omega arith in rw (lt-ltb m 511 (omega (arith, h)), same_few h) (ap kept_of one))
      (λ t. let h = ltb-false m 256 t in kept_many (one_more m) (above h) ∙ sym (kept_many (n + 1) (omega (arith, same_many h))))
    where
      above : 256 ≤ m → 256 ≤ one_more m
      above h = bit (ltb m 511) (λ t. rw t (omega arith)) (λ t. rw t (omega arith))

  more_place : place_of (one_more m) ≡ place_of (n + 1)
  more_place =
      bit (ltb m 511) (λ t. rw t (omega (arith, place)))
      (λ t. rw t (omega (arith, place, few, ltb-false m 511 t)))

----------------------------------------------------------------------
-- A report enters

-- What stands at other places stays.
stays : (p q : ℕ) (r : Report) (old new : List ℕ) → Entered p r old new → (q ≡ p → ⊥) → (b : Pauli) → entry_at b q new ≡ entry_at b q old
stays p q r old new e apart b t =
    record {
      word = e.rest (10 * q + offset b) (outside (offset b) (omega (arith, small b))) t;
      fixed = e.rest (10 * q + offset b + 1) (beside 1 (omega arith)) t;
      turns = e.rest (10 * q + offset b + 2) (beside 2 (omega arith)) t;
      guesses = e.rest (10 * q + offset b + 3) (beside 3 (omega arith)) t;
      live = e.rest (10 * q + offset b + 4) (beside 4 (omega arith)) t;
    }
  where
    small : (b : Pauli) → offset b < 6
    small X = omega arith
    small Z = omega arith

    outside : (i : ℕ) → i < 10 → (10 * q + i < 10 * p) ⊎ (10 * p + 10 ≤ 10 * q + i)
    outside i h = bit (ltb q p) (λ t. inl (omega (arith, ltb-true q p t))) (λ t. inr (omega (arith, ltb-false q p t, next (ltb-false q p t))))
      where
        next : p ≤ q → p < q
        next h = ⊎_elim (λ i. i) (λ i. absurd (apart i)) (by (ltb p q) refl)
          where
            by : (b : Bool) → ltb p q ≡ b → (p < q) ⊎ (q ≡ p)
            by true t = inl (ltb-true p q t)
            by false t = inr (omega (arith, ltb-false p q t))

    beside : (i : ℕ) → i < 5 → (10 * q + offset b + i < 10 * p) ⊎ (10 * p + 10 ≤ 10 * q + offset b + i)
    beside i h = subst (λ (k : ℕ). (k < 10 * p) ⊎ (10 * p + 10 ≤ k)) (omega arith) (outside (offset b + i) (omega (arith, small b)))

module _ (rs : List Report) (m : ℕ) (old new : List ℕ) (v : KeptIn rs m old) (r : Report) (e : Entered (place_of m) r old new) where
  own : (b : Pauli) → entry_at b (place_of m) new ≡ entry_of (report_for b r)
  own X = e.x
  own Z = e.z

  long : length (rs ++ (r ∷ [])) ≡ length rs + 1
  long = length-append rs (r ∷ [])

  entry : (k : ℕ) → k < length (rs ++ (r ∷ [])) → length (rs ++ (r ∷ [])) ≤ k + 256 → (b : Pauli) (d : Report)
      → entry_at b (place_of k) new ≡ entry_of (report_for b (get_or (rs ++ (r ∷ [])) k d))
  entry k h i b d =
      bit (ltb k (length rs)) (λ t. earlier (ltb-true k (length rs) t)) (λ t. newest (omega (arith, ltb-false k (length rs) t, h, long)))
    where
      earlier : k < length rs → entry_at b (place_of k) new ≡ entry_of (report_for b (get_or (rs ++ (r ∷ [])) k d))
      earlier l =
          stays (place_of m) (place_of k) r old new e (λ s. omega (arith, s, v.place, i, long)) b
          ∙ v.entries k l (omega (arith, i, long)) b d
          ∙ ap (λ (x : Report). entry_of (report_for b x)) (sym (get_or-append rs (r ∷ []) d k l))

      newest : k ≡ length rs → entry_at b (place_of k) new ≡ entry_of (report_for b (get_or (rs ++ (r ∷ [])) k d))
      newest s =
          ap (λ (x : ℕ). entry_at b x new) (ap place_of s ∙ sym v.place)
          ∙ own b
          ∙ ap (λ (x : Report). entry_of (report_for b x)) (sym (ap (λ (x : ℕ). get_or (rs ++ (r ∷ [])) x d) s ∙ get_or-append_seam rs r [] d))

  pub kept_entered : KeptIn (rs ++ (r ∷ [])) (one_more m) new
  kept_entered =
      record {
        few = more_few m (length rs) v.few v.kept v.place;
        kept = more_kept m (length rs) v.few v.kept v.place ∙ ap kept_of (sym long);
        place = more_place m (length rs) v.few v.kept v.place ∙ ap place_of (sym long);
        entries = entry;
      }

-- Whatever the list holds.
pub kept_none : (window : List ℕ) → KeptIn [] 0 window
kept_none window = record { few = omega arith; kept = refl; place = refl; entries = λ k h i b d. absurd (omega (arith, h)) }

----------------------------------------------------------------------
-- Any record

pub kept_after : (w : Record) (x : Answer) (rs : List Report) (m : ℕ) (old new : List ℕ) → KeptIn rs m old
    → on_reports (λ t. t) (λ r t. Entered (place_of m) r old new) w x (new ≡ old)
    → KeptIn (on_reports (λ rs. []) (λ r rs. rs ++ (r ∷ [])) w x rs) (on_reports (λ m. 0) (λ t. one_more) w x m) new
kept_after unknown x rs m old new v e = rw e v
kept_after wrong x rs m old new v e = rw e v
kept_after (size n y z) (Refused a) rs m old new v e = rw e v
kept_after (size n y z) Taken rs m old new v e = kept_none new
kept_after (size n y z) (Complete s) rs m old new v e = kept_none new
kept_after (size n y z) (Decoded r) rs m old new v e = kept_none new
kept_after (row p r) x rs m old new v e = rw e v
kept_after (add u k) x rs m old new v e = rw e v
kept_after (report budget limit) (Refused a) rs m old new v e = rw e v
kept_after (report budget limit) Taken rs m old new v e = rw e v
kept_after (report budget limit) (Complete s) rs m old new v e = rw e v
kept_after (report budget limit) (Decoded r) rs m old new v e = kept_entered rs m old new v r e
kept_after (encodes k) x rs m old new v e = rw e v

----------------------------------------------------------------------
-- Sums

sum_same : (f g : ℕ → ℕ) (n : ℕ) → ((k : ℕ) → k < n → f k ≡ g k) → sum_below f n ≡ sum_below g n
unfolding sum_below
sum_same f g zero h = refl
sum_same f g (suc n) h = ap₂ ◌+◌ (sum_same f g n (λ k l. h k (omega arith))) (h n (omega arith))

sum_last : (f : ℕ → ℕ) (n : ℕ) → sum_below f (suc n) ≡ sum_below f n + f n
unfolding sum_below
sum_last f n = refl

-- The first of them apart.
sum_first : (f : ℕ → ℕ) (n : ℕ) → f 0 + sum_below (λ k. f (suc k)) n ≡ sum_below f (suc n)
unfolding sum_below
sum_first f zero = omega arith
sum_first f (suc n) = omega (arith, sum_first f n)

sum_listed : (f : Report → ℕ) (d : Report) (rs : List Report) → sum_over f rs ≡ sum_below (λ k. f (get_or rs k d)) (length rs)
unfolding sum_below
sum_listed f d [] = refl
sum_listed f d (r ∷ rs) = ap (λ (n : ℕ). f r + n) (sum_listed f d rs) ∙ sum_first (λ k. f (get_or (r ∷ rs) k d)) (length rs)

-- 256 numbers one after the other have all 256 places, wherever they begin.
turned : (g : ℕ → ℕ) (n : ℕ) → sum_below (λ k. g ((n + k) % 256)) 256 ≡ sum_below g 256
turned g zero = sum_same (λ k. g ((0 + k) % 256)) g 256 (λ k h. let e : (0 + k) % 256 ≡ k = omega arith in ap g e)
turned g (suc n) =
    sum_same (λ k. g ((suc n + k) % 256)) (λ k. g ((n + suc k) % 256)) 256 (λ k h. let e : (suc n + k) % 256 ≡ (n + suc k) % 256 = omega arith in ap g e)
    ∙ omega (arith, sum_first f 256, sum_last f 256, again, turned g n)
  where
    f : ℕ → ℕ
    f k = g ((n + k) % 256)

    again : g ((n + 0) % 256) ≡ g ((n + 256) % 256)
    again = let e : (n + 0) % 256 ≡ (n + 256) % 256 = omega arith in ap g e

----------------------------------------------------------------------
-- A read

-- Any report, where there is none.
some : HalfReport
some = record { word = None; fixed = 0; turns = 0; guesses = 0; live = 0 }

any : Report
any = record { x = some; z = some }

left_over : (n : ℕ) → n - (n - 256) ≡ kept_of n
left_over n =
    bit (ltb n 256) (λ t. let h = ltb-true n 256 t in omega (arith, h, kept_few n h)) (λ t. let h = ltb-false n 256 t in omega (arith, h, kept_many n h))

module _ (rs : List Report) (m : ℕ) (window : List ℕ) (v : KeptIn rs m window) (b : Pauli) (f : Entry → ℕ) where
  from : ℕ
  from = length rs - 256

  g : ℕ → ℕ
  g p = f (entry_at b p window)

  -- The last 256 reports stand at their places.
  placed : sum_over (λ r. f (entry_of (report_for b r))) (last 256 rs) ≡ sum_below (λ k. g ((from + k) % 256)) (kept_of (length rs))
  unfolding from g
  placed =
      sum_listed (λ r. f (entry_of (report_for b r))) any (last 256 rs)
      ∙ ap (sum_below (λ k. f (entry_of (report_for b (get_or (last 256 rs) k any))))) (length-drop from rs ∙ left_over (length rs))
      ∙ sum_same _ _ (kept_of (length rs)) (λ k h.
      let i : from + k < length rs = omega (arith, h, left_over (length rs)) in
      ap (λ (r : Report). f (entry_of (report_for b r))) (get_or-drop from rs k any) ∙ ap f (sym (v.entries (from + k) i (omega arith) b any)))

  -- The places that are taken are those of the last 256 reports.
  all_places : sum_below (λ k. g ((from + k) % 256)) (kept_of (length rs)) ≡ sum_below g (kept_of (length rs))
  unfolding from
  all_places =
      bit (ltb (length rs) 256)
      (λ t. let h = ltb-true (length rs) 256 t in
      sum_same _ g (kept_of (length rs)) (λ k l. let e : (from + k) % 256 ≡ k = omega (arith, h, l, kept_few (length rs) h) in ap g e))
      (λ t. rw (kept_many (length rs) (ltb-false (length rs) 256 t)) (turned g from))

  sum_fresh : sum_below (λ p. f (entry_at b p window)) (kept_of m) ≡ sum_over (λ r. f (entry_of (report_for b r))) (last 256 rs)
  unfolding g
  sum_fresh = ap (sum_below g) v.kept ∙ sym all_places ∙ sym placed

module _ (rs : List Report) (m : ℕ) (window : List ℕ) (v : KeptIn rs m window) where
  counts_fresh : (b : Pauli) → counts_at b (kept_of m) window ≡ count_over b (last 256 rs)
  unfolding counts_at
  counts_fresh b t = counted (λ f. sum_fresh rs m window v b f t)

  -- long: the list at the start, as long as this one.
  pub read_fresh : (a : Result Counts WindowRefusal) → a ≡ window_answer m window → (long : List ℕ) → length long ≡ length window → ReadOf long rs a
  unfolding window_answer
  read_fresh a e long s = e ∙ rw (s, counts_fresh X, counts_fresh Z)
