-- The words of the first forms changed one form after the other, and changes one after the other. Assumes nothing.
use mathlib.Core.Path.{◌≡◌, refl, sym, ap, ap₂, ◌∙◌, fun_ext}
use mathlib.Core.Bool.{Bool, true, false, ◌&&◌, cond}
use mathlib.Core.Logic.{◌⊎◌, inl, inr, ⊎_elim}
use mathlib.Core.List.{List}
use Prim.Native.Nat.{ℕ, suc, ◌+◌, ◌-◌, ◌*◌, ◌/◌, ◌%◌, ◌^◌, ◌≤◌, ◌<◌}
use native.Mathlib.Nat.{not-suc-le-zero, eq-or-lt_of_le}
use native.Mathlib.Decide.{ℕ_discrete}
use native.Mathlib.Omega.{arith}
use borrow.Author.Tests.{lt-ltb, le-ltb, le-leb, lt-leb, eq-eqb, ne_eqb, eqb-true}
use lib.Dec.{eqb, ltb, leb}
use lib.Bits.{bit_xor}
use lib.ListN.{length, get_or, set, length-set}
use lib.Seq.{get_or-set_same, get_or-set_other}
use Rattle.binary.specs.Bits.{◌⊕◌}
use Rattle.binary.specs.Meaning.{Check}
use Rattle.binary.specs.Words.{bit}
use Rattle.binary.proofs.Bits.{bit as cases, ⊕_false, &&_false}
use Rattle.binary.proofs.WordBits.{order, bit-bit_xor}
use Rattle.binary.proofs.NumberBits.{bit_next}
use Rattle.machine.specs.Machine.{Form, replace}
use Rattle.forms.specs.Words.{Words, words_in, side_in}
use Rattle.forms.specs.Changes.{Changed, adding, adding_below, replacing, moving_down, moved_to}
use Rattle.forms.proofs.WordBits.{replaced_low, carried}
use Rattle.forms.proofs.FormWords.{words_in_lem, words_out, words_same, side_same}

----------------------------------------------------------------------
-- Form after form

pub changed_start : (change : Words → Words) (forms : List ℕ) → Changed 0 change forms forms
changed_start change forms = record { done = λ q h. absurd (not-suc-le-zero h); rest = λ i h. refl; long = refl }

-- Form q is changed, and the list as it was but for it.
changed_turn : (q : ℕ) (change : Words → Words) (forms₀ forms forms' : List ℕ) → Changed q change forms₀ forms → length forms' ≡ length forms
    → ((i : ℕ) → (i < 4 * q) ⊎ (4 * q + 4 ≤ i) → get_or forms' i 0 ≡ get_or forms i 0) → words_in forms' q ≡ change (words_in forms q)
    → Changed (q + 1) change forms₀ forms'
changed_turn q change forms₀ forms forms' so long beside here =
    record {
      done = λ p l. ⊎_elim
          (λ (h : p < q). words_same forms' forms p (λ v m. beside (4 * p + v) (inl (omega arith))) ∙ so.done p h)
          (λ (h : q ≤ p). let e : q ≡ p = omega arith in rw (← e) (here ∙ ap change (words_same forms forms₀ q (λ v m. so.rest (4 * q + v) (omega arith)))))
          (order p q);
      rest = λ i l. beside i (inr (omega arith)) ∙ so.rest i (omega arith);
      long = long ∙ so.long;
    }

-- A word of a form stored.
module _ (forms : List ℕ) (q v x : ℕ) (within : v < 4) where
  set_beside : (i : ℕ) → (i < 4 * q) ⊎ (4 * q + 4 ≤ i) → get_or (set forms (4 * q + v) x) i 0 ≡ get_or forms i 0
  set_beside i h =
      get_or-set_other forms (4 * q + v) i x 0 (λ e. ⊎_elim (λ (l : i < 4 * q). absurd (omega arith)) (λ (l : 4 * q + 4 ≤ i). absurd (omega arith)) h)

  set_words : 4 * q + v < length forms → (t j : ℕ) → words_in (set forms (4 * q + v) x) q t j ≡ cond (eqb t v) (bit x j) (words_in forms q t j)
  set_words inside t j = by (ℕ_discrete t v)
    where
      by : Dec (t ≡ v) → words_in (set forms (4 * q + v) x) q t j ≡ cond (eqb t v) (bit x j) (words_in forms q t j)
      by (yes e) =
          rw (e, eq-eqb v v refl)
          (words_in_lem (set forms (4 * q + v) x) q v j within ∙ ap (λ (y : ℕ). bit y j) (get_or-set_same forms (4 * q + v) x 0 inside))
      by (no f) =
          rw (ne_eqb t v f)
          (⊎_elim
          (λ (l : t < 4). words_in_lem (set forms (4 * q + v) x) q t j l ∙ ap (λ (y : ℕ). bit y j) (get_or-set_other forms (4 * q + v) (4 * q + t) x 0 (λ e. f (omega arith)))
          ∙ sym (words_in_lem forms q t j l))
          (λ (l : 4 ≤ t). words_out (set forms (4 * q + v) x) q t j l ∙ sym (words_out forms q t j l)) (order t 4))

----------------------------------------------------------------------
-- A side added

module _ (q v k u side : ℕ) (forms₀ forms : List ℕ) (a : v < 4) (b : u < 4) (inside : 4 * q + u < length forms)
    (so : Changed q (adding v k u (bit side)) forms₀ forms) where
  pub added_turn : bit (get_or forms (4 * q + v) 0) k ≡ true
      → Changed (q + 1) (adding v k u (bit side)) forms₀ (set forms (4 * q + u) (bit_xor (get_or forms (4 * q + u) 0) side))
  unfolding adding
  added_turn has =
      changed_turn q _ forms₀ forms _ so (length-set forms _ _) (set_beside forms q u _ b)
      (fun_ext λ t. fun_ext λ j. set_words forms q u _ b inside t j
      ∙ cases (eqb t u)
      (λ e. rw (e, words_in_lem forms q v k a, has) (bit-bit_xor (get_or forms (4 * q + u) 0) side j ∙ ap (◌⊕ bit side j) (sym (words_in_lem forms q u j b) ∙ at t j e)))
      (λ e. rw e (sym (⊕_false (words_in forms q t j)))))
    where
      at : (t j : ℕ) → eqb t u ≡ true → words_in forms q u j ≡ words_in forms q t j
      at t j e = ap (λ (x : ℕ). words_in forms q x j) (sym (eqb-true t u e))

  pub added_skip : bit (get_or forms (4 * q + v) 0) k ≡ false → Changed (q + 1) (adding v k u (bit side)) forms₀ forms
  unfolding adding
  added_skip has =
      changed_turn q _ forms₀ forms forms so refl (λ i h. refl)
      (fun_ext λ t. fun_ext λ j. sym (rw (words_in_lem forms q v k a, has) (ap (λ (c : Bool). words_in forms q t j ⊕ (c && bit side j)) (&&_false (eqb t u)) ∙ ⊕_false (words_in forms q t j))))

-- The side's words below a number added, one after the other; none of them is changed before it is added.
module _ (n v k u : ℕ) (s : Words) (forms₀ forms : List ℕ) (c : Check) (so : Changed n (adding_below v k u s) forms₀ forms) where
  below_same : (q : ℕ) → q < n → (t j : ℕ) → u ≤ t → words_in forms q t j ≡ words_in forms₀ q t j
  unfolding adding_below
  below_same q h t j l = ap (λ (w : Words). w t j) (so.done q h) ∙ rw (le-ltb t u l) (⊕_false (words_in forms₀ q t j))

  pub side_kept : (j : ℕ) → side_in n forms c u j ≡ side_in n forms₀ c u j
  side_kept j = side_same n forms forms₀ c u j (λ q h. below_same q h u j (omega arith))

pub below_start : (n v k : ℕ) (s : Words) (forms : List ℕ) → Changed n (adding_below v k 0 s) forms forms
unfolding adding_below
below_start n v k s forms = record { done = λ q h. same (words_in forms q); rest = λ i h. refl; long = refl }
  where
    same : (w : Words) → w ≡ adding_below v k 0 s w
    same w = fun_ext λ t. fun_ext λ j. sym (rw (le-ltb t 0 (omega arith)) (⊕_false (w t j)))

-- One word more, in any form.
one_more_lem : (v k u : ℕ) (s : Words) (side : Form) → u < v → ((j : ℕ) → side j ≡ s u j) → (w : Words) (t j : ℕ)
    → adding v k u side (adding_below v k u s w) t j ≡ adding_below v k (u + 1) s w t j
unfolding adding adding_below
one_more_lem v k u s side low is w t j = rw (le-ltb v u (omega arith), ⊕_false (w v k)) (by (ℕ_discrete t u))
  where
    over : u ≤ t → (t ≡ u → ⊥) → u + 1 ≤ t
    over l f = ⊎_elim (λ (h : t < u + 1). absurd (f (omega arith))) (λ (h : u + 1 ≤ t). h) (order t (u + 1))

    by : Dec (t ≡ u) → (w t j ⊕ (ltb t u && w v k && s t j)) ⊕ (eqb t u && w v k && side j) ≡ w t j ⊕ (ltb t (u + 1) && w v k && s t j)
    by (yes e) = rw (e, le-ltb u u (omega arith), eq-eqb u u refl, lt-ltb u (u + 1) (omega arith), is j, ⊕_false (w u j))
    by (no f) =
        rw (ne_eqb t u f)
        (⊕_false (w t j ⊕ (ltb t u && w v k && s t j))
        ∙ ⊎_elim (λ (l : t < u). rw (lt-ltb t u l, lt-ltb t (u + 1) (omega arith)))
        (λ (l : u ≤ t). rw (le-ltb t u l, le-ltb t (u + 1) (over l f))) (order t u))

pub below_turn : (n v k u : ℕ) (s : Words) (side : ℕ) (forms₀ forms forms' : List ℕ) → u < v → Changed n (adding_below v k u s) forms₀ forms → ((j : ℕ) → bit side j ≡ s u j)
    → Changed n (adding v k u (bit side)) forms forms' → Changed n (adding_below v k (u + 1) s) forms₀ forms'
below_turn n v k u s side forms₀ forms forms' low so is next =
    record {
      done = λ q h. next.done q h ∙ ap (adding v k u (bit side)) (so.done q h) ∙ fun_ext (λ t. fun_ext (λ j. one_more_lem v k u s (bit side) low is (words_in forms₀ q) t j));
      rest = λ i h. next.rest i h ∙ so.rest i h;
      long = next.long ∙ so.long;
    }

----------------------------------------------------------------------
-- The guess's own word closed up

module _ (q v k side : ℕ) (forms₀ forms : List ℕ) (a : v < 4) (inside : 4 * q + v < length forms) (so : Changed q (replacing v k (bit side)) forms₀ forms) where
  own : (j : ℕ) → words_in forms q v j ≡ bit (get_or forms (4 * q + v) 0) j
  own j = words_in_lem forms q v j a

  pub replaced_turn : (x : ℕ) → ((j : ℕ) → bit x j ≡ replace k (bit side) (bit (get_or forms (4 * q + v) 0)) j)
      → Changed (q + 1) (replacing v k (bit side)) forms₀ (set forms (4 * q + v) x)
  unfolding replacing
  replaced_turn x is =
      changed_turn q _ forms₀ forms _ so (length-set forms _ _) (set_beside forms q v x a)
      (fun_ext λ t. fun_ext λ j. set_words forms q v x a inside t j ∙ by t j (ℕ_discrete t v))
    where
      by : (t j : ℕ) → Dec (t ≡ v) → cond (eqb t v) (bit x j) (words_in forms q t j) ≡ cond (eqb t v) (replace k (bit side) (words_in forms q t) j) (words_in forms q t j)
      by t j (yes e) = rw (e, eq-eqb v v refl) (is j ∙ ap (λ (f : Form). replace k (bit side) f j) (sym (fun_ext own)))
      by t j (no f) = rw (ne_eqb t v f)

  pub replaced_skip : get_or forms (4 * q + v) 0 / 2 ^ k ≡ 0 → Changed (q + 1) (replacing v k (bit side)) forms₀ forms
  unfolding replacing
  replaced_skip z =
      changed_turn q _ forms₀ forms forms so refl (λ i h. refl) (fun_ext λ t. fun_ext λ j. by t j (ℕ_discrete t v))
    where
      by : (t j : ℕ) → Dec (t ≡ v) → words_in forms q t j ≡ cond (eqb t v) (replace k (bit side) (words_in forms q t) j) (words_in forms q t j)
      by t j (yes e) =
          rw (e, eq-eqb v v refl)
          (own j ∙ replaced_low (get_or forms (4 * q + v) 0) k side z j ∙ ap (λ (f : Form). replace k (bit side) f j) (sym (fun_ext own)))
      by t j (no f) = rw (ne_eqb t v f)

----------------------------------------------------------------------
-- Words moved down

-- The word below gets the lowest bit at its top, then the word is moved.
module _ (q u : ℕ) (forms₀ forms : List ℕ) (a : 0 < u) (b : u < 4) (inside : 4 * q + u < length forms) (so : Changed q (moving_down u) forms₀ forms) where
  word : ℕ
  word = get_or forms (4 * q + u) 0

  lower : ℕ
  lower = bit_xor (get_or forms (4 * q + (u - 1)) 0) (word % 2 * 2 ^ 63 % 2 ^ 64)

  lowered : List ℕ
  lowered = set forms (4 * q + (u - 1)) lower

  lower_bits : (j : ℕ) → bit lower j ≡ words_in forms q (u - 1) j ⊕ (eqb j 63 && words_in forms q u 0)
  unfolding lower word
  lower_bits j =
      bit-bit_xor (get_or forms (4 * q + (u - 1)) 0) (word % 2 * 2 ^ 63 % 2 ^ 64) j
      ∙ ap₂ ◌⊕◌ (sym (words_in_lem forms q (u - 1) j (omega arith))) (carried word j ∙ ap (eqb j 63 &&◌) (sym (words_in_lem forms q u 0 b)))

  moved_words : (t j : ℕ) → words_in (set lowered (4 * q + u) (word / 2 ^ 1)) q t j ≡ moving_down u (words_in forms q) t j
  unfolding moving_down lowered word
  moved_words t j =
      set_words lowered q u (word / 2 ^ 1) b (rw length-set inside) t j
      ∙ by (ℕ_discrete t u)
    where
      shifted : bit (word / 2 ^ 1) j ≡ words_in forms q u (suc j)
      shifted = sym (bit_next word j) ∙ sym (words_in_lem forms q u (suc j) b)

      under : (eqb t u ≡ false) → words_in lowered q t j ≡ words_in forms q t j ⊕ (eqb (suc t) u && eqb j 63 && words_in forms q u 0)
      under f = set_words forms q (u - 1) lower (omega arith) (omega arith) t j ∙ of (ℕ_discrete (suc t) u)
        where
          of : Dec (suc t ≡ u) → cond (eqb t (u - 1)) (bit lower j) (words_in forms q t j) ≡ words_in forms q t j ⊕ (eqb (suc t) u && eqb j 63 && words_in forms q u 0)
          of (yes e) =
              let d : t ≡ u - 1 = omega arith in
              rw (eq-eqb (suc t) u e, eq-eqb t (u - 1) d) (lower_bits j ∙ ap (λ (x : ℕ). words_in forms q x j ⊕ (eqb j 63 && words_in forms q u 0)) (sym d))
          of (no g) = rw (ne_eqb (suc t) u g, ne_eqb t (u - 1) (λ e. g (omega arith))) (sym (⊕_false (words_in forms q t j)))

      by : Dec (t ≡ u) → cond (eqb t u) (bit (word / 2 ^ 1) j) (words_in lowered q t j)
          ≡ cond (eqb t u) (words_in forms q t (suc j)) (words_in forms q t j ⊕ (eqb (suc t) u && eqb j 63 && words_in forms q u 0))
      by (yes e) = rw (eq-eqb t u e) (shifted ∙ ap (λ (x : ℕ). words_in forms q x (suc j)) (sym e))
      by (no g) = rw (ne_eqb t u g) (under (ne_eqb t u g))

  pub moved_turn : (at : ℕ) → at ≡ 4 * q + u - 1
      → Changed (q + 1) (moving_down u) forms₀ (set (set forms at (bit_xor (get_or forms at 0) (get_or forms (4 * q + u) 0 % 2 * 2 ^ 63 % 2 ^ 64))) (4 * q + u) (get_or forms (4 * q + u) 0 / 2 ^ 1))
  unfolding lowered lower word
  moved_turn at is =
      let e : at ≡ 4 * q + (u - 1) = omega arith in
      rw e (changed_turn q _ forms₀ forms _ so (length-set lowered _ _ ∙ length-set forms _ _)
      (λ i h. set_beside lowered q u _ b i h ∙ set_beside forms q (u - 1) lower (omega arith) i h)
      (fun_ext λ t. fun_ext λ j. moved_words t j))

-- Word after word.
pub moved_start : (n v : ℕ) (forms : List ℕ) → Changed n (moved_to v v) forms forms
unfolding moved_to
moved_start n v forms = record { done = λ q h. same (words_in forms q); rest = λ i h. refl; long = refl }
  where
    same : (w : Words) → w ≡ moved_to v v w
    same w = fun_ext λ t. fun_ext λ j. sym (by t j (order v t))
      where
        by : (t j : ℕ) → (v < t) ⊎ (t ≤ v) → cond (ltb v t && leb t v) (w t (suc j)) (w t j) ⊕ (leb v t && ltb t v && eqb j 63 && w (suc t) 0) ≡ w t j
        by t j (inl l) = rw (lt-ltb v t l, lt-leb t v l, le-leb v t (omega arith), le-ltb t v (omega arith)) (⊕_false (w t j))
        by t j (inr l) =
            rw (le-ltb v t l)
            (⊎_elim (λ (h : t < v). rw (lt-leb v t h) (⊕_false (w t j))) (λ (h : v ≤ t). rw (le-leb v t h, le-ltb t v h) (⊕_false (w t j))) (order t v))

one_down : (v m : ℕ) → v ≤ m → (w : Words) (t j : ℕ) → moving_down (m + 1) (moved_to v m w) t j ≡ moved_to v (m + 1) w t j
unfolding moving_down moved_to
one_down v m low w t j = by (order t m)
  where
    W : Words
    W = moved_to v m w

    above : (i : ℕ) → W (m + 1) i ≡ w (m + 1) i
    above i = rw (lt-leb (m + 1) m (omega arith), &&_false (ltb v (m + 1)), le-ltb (m + 1) m (omega arith), &&_false (leb v (m + 1))) (⊕_false (w (m + 1) i))

    R : Bool
    R = cond (ltb v t && leb t (m + 1)) (w t (suc j)) (w t j) ⊕ (leb v t && ltb t (m + 1) && eqb j 63 && w (suc t) 0)

    L : Bool
    L = cond (eqb t (m + 1)) (W t (suc j)) (W t j ⊕ (eqb (suc t) (m + 1) && eqb j 63 && W (m + 1) 0))

    under : t < m → L ≡ R
    under l =
        rw (ne_eqb t (m + 1) (λ e. absurd (omega arith)), ne_eqb (suc t) (m + 1) (λ e. absurd (omega arith)))
        (⊕_false (W t j) ∙ rw (le-leb t m (omega arith), le-leb t (m + 1) (omega arith), lt-ltb t m l, lt-ltb t (m + 1) (omega arith)))

    -- The word below the one that moves.
    at : t ≡ m → L ≡ R
    at e =
        rw (ne_eqb t (m + 1) (λ f. absurd (omega arith)), eq-eqb (suc t) (m + 1) (omega arith), above 0) (ap₂ ◌⊕◌ left right)
      where
        left : W t j ≡ cond (ltb v t && leb t (m + 1)) (w t (suc j)) (w t j)
        left =
            rw (le-leb t m (omega arith), le-leb t (m + 1) (omega arith), le-ltb t m (omega arith), &&_false (leb v t))
            (⊕_false (cond (ltb v t && true) (w t (suc j)) (w t j)))

        next : m + 1 ≡ suc t
        next = omega arith

        right : (true && eqb j 63 && w (m + 1) 0) ≡ (leb v t && ltb t (m + 1) && eqb j 63 && w (suc t) 0)
        right = rw (le-leb v t (omega arith), lt-ltb t (m + 1) (omega arith)) (ap (λ (x : ℕ). eqb j 63 && w x 0) next)

    -- That word.
    first : t ≡ m + 1 → L ≡ R
    first e =
        rw (eq-eqb t (m + 1) e)
        (ap (λ (x : ℕ). W x (suc j)) e ∙ above (suc j)
        ∙ sym (rw (e, lt-ltb v (m + 1) (omega arith), le-leb (m + 1) (m + 1) (omega arith), le-ltb (m + 1) (m + 1) (omega arith), &&_false (leb v (m + 1))) (⊕_false (w (m + 1) (suc j)))))

    over : m + 1 < t → L ≡ R
    over l =
        rw (ne_eqb t (m + 1) (λ e. absurd (omega arith)), ne_eqb (suc t) (m + 1) (λ e. absurd (omega arith)))
        (⊕_false (W t j) ∙ rw (lt-leb t m (omega arith), lt-leb t (m + 1) (omega arith), le-ltb t m (omega arith), le-ltb t (m + 1) (omega arith)))

    by : (t < m) ⊎ (m ≤ t) → L ≡ R
    by (inl l) = under l
    by (inr l) = ⊎_elim (λ (h : t < m + 1). at (omega arith)) (λ (h : m + 1 ≤ t). ⊎_elim (λ (e : m + 1 ≡ t). first (sym e)) (λ (g : m + 1 < t). over g) (eq-or-lt_of_le h)) (order t (m + 1))

pub moved_next : (n v m : ℕ) (forms₀ forms forms' : List ℕ) → v ≤ m → Changed n (moved_to v m) forms₀ forms → Changed n (moving_down (m + 1)) forms forms'
    → Changed n (moved_to v (m + 1)) forms₀ forms'
moved_next n v m forms₀ forms forms' low so next =
    record {
      done = λ q h. next.done q h ∙ ap (moving_down (m + 1)) (so.done q h) ∙ fun_ext (λ t. fun_ext (λ j. one_down v m low (words_in forms₀ q) t j));
      rest = λ i h. next.rest i h ∙ so.rest i h;
      long = next.long ∙ so.long;
    }
