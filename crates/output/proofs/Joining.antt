-- Texts handed to the output one behind the other. Assumes nothing.
use mathlib.Core.Path.{◌≡◌, refl, sym, ◌∙◌}
use mathlib.Core.Bool.{true, false}
use mathlib.Core.Logic.{⊎_elim}
use mathlib.Core.List.{List, [], ◌++◌}
use Prim.Native.Nat.{ℕ, ◌+◌, ◌-◌, ◌≤◌, ◌<◌}
use native.Mathlib.Nat.{eq-zero-or-pos}
use native.Mathlib.Omega.{arith}
use borrow.Author.Tests.{ltb-true, lt-ltb, le-ltb}
use lib.Dec.{ltb}
use lib.ListN.{length, get_or, length-append, get_or-append}
use lib.Seq.{get_or-append-add}
use Rattle.counts.specs.Counts.{total}
use Rattle.output.specs.declared.Output.{Output}
use Rattle.output.specs.Writing.{Whole, Taken, Flushed}
use Rattle.output.proofs.Counting.{either, all_bytes, all_records}

-- No text.
pub flushed_none : (o : Output) → o.bytes ≤ 18446744073709551615 → o.records ≤ 18446744073709551615 → Flushed o [] [] o
flushed_none o b s =
    record {
      shut = λ e. refl;
      taken = λ e. record {
        count = 0;
        whole = 0;
        written = record { most = omega arith; failed = e };
        answered = record { most = omega arith; each = λ i l. absurd (omega arith); next = λ l. absurd (omega arith) };
        bytes = omega arith;
        records = omega arith;
      };
    }

-- Places in two texts: those of the second, ss, lie behind the first, which has a bytes.
module _ (a : ℕ) (ps qs ss : List ℕ) (long : length ss ≡ length qs) (behind : (i : ℕ) → i < length qs → get_or ss i 0 ≡ a + get_or qs i 0) where
  both_long : length (ps ++ ss) ≡ length ps + length qs
  both_long = simp length-append (omega (arith, long))

  in_first : (i : ℕ) → i < length ps → get_or (ps ++ ss) i 0 ≡ get_or ps i 0
  in_first i l = get_or-append ps ss 0 i l

  in_second : (i j : ℕ) → i ≡ length ps + j → j < length qs → get_or (ps ++ ss) i 0 ≡ a + get_or qs j 0
  in_second i j e l = rw (e, get_or-append-add ps ss j 0) (behind j l)

  -- The first was not taken whole.
  whole_first : (k w : ℕ) → Whole ps k w → k < a → Whole (ps ++ ss) k w
  whole_first k w h l =
      record { most = omega (arith, h.most, both_long); each = λ i j. rw (in_first i (omega (arith, h.most))) (h.each i j); next = λ j. ⊎_elim (λ e. let z : w ≡ length ps = omega (arith, h.most) in rw (in_second w 0 (omega arith) (omega (arith, both_long))) (omega arith)) (λ b. rw (in_first w (omega arith)) (h.next (omega arith))) (eq-zero-or-pos (length ps - w)) }

  -- It was.
  whole_both : (k w : ℕ) → ((i : ℕ) → i < length ps → get_or ps i 0 ≤ a) → Whole qs k w → Whole (ps ++ ss) (a + k) (length ps + w)
  whole_both k w within h =
      record { most = omega (arith, h.most, both_long); each = λ i j. ⊎_elim (λ e. rw (in_second i (i - length ps) (omega arith) (omega (arith, h.most))) (omega (arith, h.each (i - length ps) (omega arith)))) (λ b. rw (in_first i (omega arith)) (omega (arith, within i (omega arith)))) (eq-zero-or-pos (length ps - i)); next = λ j. rw (in_second (length ps + w) w refl (omega (arith, both_long))) (omega (arith, h.next (omega (arith, both_long)))) }

-- One text and then another: as both at once.
module _ (o m r : Output) (a b ps qs ss : List ℕ) (f : Flushed o a ps m) (g : Flushed m b qs r) (within : (i : ℕ) → i < length ps → get_or ps i 0 ≤ length a) (long : length ss ≡ length qs) (behind : (i : ℕ) → i < length qs → get_or ss i 0 ≡ length a + get_or qs i 0) where
  -- The first failed.
  first_failed : Taken o a ps m → m.failed ≡ true → Taken o (a ++ b) (ps ++ ss) r
  first_failed t e =
      let k : t.count < length a = ltb-true t.count (length a) (sym t.written.failed ∙ e) in
      let l : t.count < length (a ++ b) = rw (length-append a b) (omega arith) in
      record {
        count = t.count;
        whole = t.whole;
        written = record { most = omega arith; failed = rw (g.shut e) (e ∙ sym (lt-ltb t.count (length (a ++ b)) l)) };
        answered = whole_first (length a) ps qs ss long behind _ _ t.answered k;
        bytes = rw (g.shut e) t.bytes;
        records = rw (g.shut e) t.records;
      }

  -- Neither test of the counts is about more than their sum.
  shifted : (x n k : ℕ) → ltb k n ≡ ltb (x + k) (x + n)
  shifted x n k =
      ⊎_elim
      (λ (e : n - k ≡ 0). rw (le-ltb k n (omega arith), le-ltb (x + k) (x + n) (omega arith)))
      (λ l. rw (lt-ltb k n (omega arith), lt-ltb (x + k) (x + n) (omega arith)))
      (eq-zero-or-pos (n - k))

  first_taken : Taken o a ps m → m.failed ≡ false → Taken o (a ++ b) (ps ++ ss) r
  first_taken t e =
      let u : Taken m b qs r = g.taken e in
      let ab : m.bytes ≡ total o.bytes (length a) = all_bytes o m a ps f e in
      let ar : m.records ≡ total o.records (length ps) = all_records o m a ps f e within in
      record {
        count = length a + u.count;
        whole = length ps + u.whole;
        written = record { most = rw (length-append a b) (omega (arith, u.written.most)); failed = u.written.failed ∙ rw (length-append a b) (shifted (length a) (length b) u.count) };
        answered = whole_both (length a) ps qs ss long behind u.count u.whole within u.answered;
        bytes = omega (arith, u.bytes);
        records = omega (arith, u.records);
      }

  pub flushed_join : Flushed o (a ++ b) (ps ++ ss) r
  flushed_join =
      record {
        shut = λ e. g.shut (rw (f.shut e) e) ∙ f.shut e;
        taken = λ e. ⊎_elim (first_failed (f.taken e)) (first_taken (f.taken e)) (either m.failed);
      }
