-- A guess replaced word by word is replaced in the form that the words make, however many they are. Assumes nothing.
use mathlib.Core.Path.{◌≡◌, refl, sym, ap, ap₂, ◌∙◌, fun_ext}
use mathlib.Core.Bool.{Bool, false, ◌&&◌, cond}
use mathlib.Core.Logic.{⊎_elim}
use Prim.Native.Nat.{ℕ, suc, ◌+◌, ◌*◌, ◌/◌, ◌%◌, ◌≤◌, ◌<◌}
use native.Mathlib.Nat.{eq-or-lt_of_le}
use native.Mathlib.Omega.{arith}
use borrow.Author.Tests.{lt-ltb, le-ltb, le-leb, lt-leb, eq-eqb, ne_eqb}
use lib.Dec.{eqb, ltb, leb}
use Rattle.binary.specs.Bits.{◌⊕◌}
use Rattle.binary.proofs.Bits.{⊕_false, &&_false}
use Rattle.binary.proofs.WordBits.{order}
use Rattle.machine.specs.Machine.{Form, without, replace}
use Rattle.machine.proofs.TakingUp.{without_below, without_above}
use Rattle.forms.specs.Words.{Words, joined}
use Rattle.forms.specs.Changes.{adding_below, replacing, moved_to}
use Rattle.forms.proofs.FormWords.{joined_at}

-- Bit k of word v is the guess; w are the words of a form, s those of the side, each of 64 bits; no word of the form is past word m, none of the side past v.
module _ (v k m : ℕ) (s w : Words) (within : k < 64) (high : v ≤ m)
    (w-narrow : (t j : ℕ) → 64 ≤ j → w t j ≡ false) (s-narrow : (t j : ℕ) → 64 ≤ j → s t j ≡ false)
    (w-top : (t j : ℕ) → m < t → w t j ≡ false) (s_top : (t j : ℕ) → v < t → s t j ≡ false) where
  -- The form with the side added where the guess is, before its later bits move down.
  sum : Words
  sum t j = w t j ⊕ (w v k && s t j)

  sum_narrow : (t j : ℕ) → 64 ≤ j → sum t j ≡ false
  unfolding sum
  sum_narrow t j l = ap₂ (λ (a b : Bool). a ⊕ (w v k && b)) (w-narrow t j l) (s-narrow t j l) ∙ &&_false (w v k)

  sum_top : (t j : ℕ) → m < t → sum t j ≡ false
  unfolding sum
  sum_top t j l = ap₂ (λ (a b : Bool). a ⊕ (w v k && b)) (w-top t j l) (s_top t j (omega arith)) ∙ &&_false (w v k)

  -- The words after the side is added and the guess's own word closed up.
  shut : Words
  shut = replacing v k (s v) (adding_below v k v s w)

  shut_below : (t j : ℕ) → t < v → shut t j ≡ sum t j
  unfolding replacing adding_below shut sum
  shut_below t j l = rw (ne_eqb t v (λ e. absurd (omega arith)), lt-ltb t v l)

  shut_at : (j : ℕ) → shut v j ≡ without k (sum v) j
  unfolding replacing adding_below shut sum
  shut_at j =
      rw (eq-eqb v v refl)
      (ap (λ (f : Form). without k f j) (fun_ext λ i. rw (le-ltb v v (omega arith)) (ap₂ (λ (a b : Bool). a ⊕ (b && s v i)) (⊕_false (w v i)) (⊕_false (w v k)))))

  shut_above : (t j : ℕ) → v < t → shut t j ≡ sum t j
  unfolding replacing adding_below shut sum
  shut_above t j l =
      rw (ne_eqb t v (λ e. absurd (omega arith)), le-ltb t v (omega arith)) (ap (w t j ⊕◌) (sym (ap (w v k &&◌) (s_top t j l) ∙ &&_false (w v k))))

  abbrev guess : ℕ
  guess = 64 * v + k

  -- The bit after one, which may be the next word's first.
  next : (t i : ℕ) → i < 64 → joined sum (suc (64 * t + i)) ≡ sum t (suc i) ⊕ (eqb i 63 && sum (suc t) 0)
  next t i l = ⊎_elim (λ (h : suc i < 64). inside h) (λ (h : 64 ≤ suc i). over h) (order (suc i) 64)
    where
      inside : suc i < 64 → joined sum (suc (64 * t + i)) ≡ sum t (suc i) ⊕ (eqb i 63 && sum (suc t) 0)
      inside h =
          let e : suc (64 * t + i) ≡ 64 * t + suc i = omega arith in
          ap (joined sum) e ∙ joined_at sum t (suc i) h ∙ sym (rw (ne_eqb i 63 (λ z. absurd (omega arith))) (⊕_false (sum t (suc i))))

      over : 64 ≤ suc i → joined sum (suc (64 * t + i)) ≡ sum t (suc i) ⊕ (eqb i 63 && sum (suc t) 0)
      over h =
          let e : suc (64 * t + i) ≡ 64 * suc t + 0 = omega arith in
          ap (joined sum) e ∙ joined_at sum (suc t) 0 (omega arith) ∙ sym (rw (eq-eqb i 63 (omega arith), sum_narrow t (suc i) h))

  -- What moves down from the word above.
  carry : (t i : ℕ) → v ≤ t → (leb v t && ltb t m && eqb i 63 && shut (suc t) 0) ≡ (eqb i 63 && sum (suc t) 0)
  carry t i l =
      ⊎_elim (λ (h : t < m). rw (le-leb v t l, lt-ltb t m h) (ap (eqb i 63 &&◌) (shut_above (suc t) 0 (omega arith))))
      (λ (h : m ≤ t). rw (le-leb v t l, le-ltb t m h) (sym (ap (eqb i 63 &&◌) (sum_top (suc t) 0 (omega arith)) ∙ &&_false (eqb i 63)))) (order t m)

  -- Below the guess's word, in it, and above.
  moved_below : (t i : ℕ) → t < v → moved_to v m shut t i ≡ sum t i
  unfolding moved_to
  moved_below t i l = rw (le-ltb v t (omega arith), lt-leb v t l) (⊕_false (shut t i) ∙ shut_below t i l)

  moved_at : (i : ℕ) → moved_to v m shut v i ≡ without k (sum v) i ⊕ (eqb i 63 && sum (suc v) 0)
  unfolding moved_to
  moved_at i =
      ap₂ (λ (b c : Bool). cond (b && leb v m) (shut v (suc i)) (shut v i) ⊕ c) (le-ltb v v (omega arith)) (carry v i (omega arith))
      ∙ ap (◌⊕ (eqb i 63 && sum (suc v) 0)) (shut_at i)

  moved_above : (t i : ℕ) → v < t → moved_to v m shut t i ≡ sum t (suc i) ⊕ (eqb i 63 && sum (suc t) 0)
  unfolding moved_to
  moved_above t i l = ap₂ ◌⊕◌ own (carry t i (omega arith))
    where
      own : cond (ltb v t && leb t m) (shut t (suc i)) (shut t i) ≡ sum t (suc i)
      own =
          ⊎_elim (λ (h : m < t). rw (lt-leb t m h, &&_false (ltb v t)) (shut_above t i l ∙ sum_top t i h ∙ sym (sum_top t (suc i) h)))
          (λ (h : t ≤ m). rw (lt-ltb v t l, le-leb t m h) (shut_above t (suc i) l)) (order m t)

  moved : (t i : ℕ) → i < 64 → moved_to v m shut t i ≡ without guess (joined sum) (64 * t + i)
  moved t i l = ⊎_elim (λ (h : t < v). below h) (λ (h : v ≤ t). ⊎_elim (λ (e : v ≡ t). at e) (λ (g : v < t). above g) (eq-or-lt_of_le h)) (order t v)
    where
      below : t < v → moved_to v m shut t i ≡ without guess (joined sum) (64 * t + i)
      below h = moved_below t i h ∙ sym (without_below guess (64 * t + i) (joined sum) (omega arith) ∙ joined_at sum t i l)

      above : v < t → moved_to v m shut t i ≡ without guess (joined sum) (64 * t + i)
      above h = moved_above t i h ∙ sym (without_above guess (64 * t + i) (joined sum) (omega arith) ∙ next t i l)

      here : moved_to v m shut v i ≡ without guess (joined sum) (64 * v + i)
      here =
          moved_at i
          ∙ ⊎_elim (λ (h : i < k). ap₂ (λ (a b : Bool). a ⊕ (b && sum (suc v) 0)) (without_below k i (sum v) h) (ne_eqb i 63 (λ e. absurd (omega arith)))
          ∙ ⊕_false (sum v i) ∙ sym (without_below guess (64 * v + i) (joined sum) (omega arith) ∙ joined_at sum v i l))
          (λ (h : k ≤ i). ap (◌⊕ (eqb i 63 && sum (suc v) 0)) (without_above k i (sum v) h) ∙ sym (without_above guess (64 * v + i) (joined sum) (omega arith) ∙ next v i l)) (order i k)

      at : v ≡ t → moved_to v m shut t i ≡ without guess (joined sum) (64 * t + i)
      at e = ap (λ (x : ℕ). moved_to v m shut x i) (sym e) ∙ here ∙ ap (λ (x : ℕ). without guess (joined sum) (64 * x + i)) e

  pub joined_replaced : joined (moved_to v m (replacing v k (s v) (adding_below v k v s w))) ≡ replace guess (joined s) (joined w)
  unfolding sum shut
  joined_replaced =
      fun_ext λ j.
      let e : 64 * (j / 64) + j % 64 ≡ j = omega arith in
      moved (j / 64) (j % 64) (omega arith) ∙ ap (without guess (joined sum)) e
      ∙ ap (λ (b : Bool). without guess (λ i. joined w i ⊕ (b && joined s i)) j) (sym (joined_at w v k within))
