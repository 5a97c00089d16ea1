-- The dangling rows found from the numbers of all rows, 64 rows at a time. Assumes nothing.
use mathlib.Core.Path.{◌≡◌, refl, sym, ap, ap₂, ◌∙◌, fun_ext}
use mathlib.Core.Bool.{Bool, true, false}
use mathlib.Core.Logic.{◌⊎◌, inl, inr, ⊎_elim}
use mathlib.Core.List.{List}
use Prim.Native.Nat.{ℕ, zero, suc, ◌+◌, ◌-◌, ◌*◌, ◌/◌, ◌%◌, ◌^◌, ◌≤◌, ◌<◌}
use native.Mathlib.Nat.{add-zero, add-suc, zero-add}
use native.Mathlib.Numerals.{one-add}
use native.Mathlib.Omega.{arith}
use lib.Count.{ones, ones_step}
use lib.Dec.{eqb}
use lib.ListN.{length, get_or, set, length-set}
use lib.Pow.{pow_mono}
use lib.Seq.{get_or-set_same, get_or-set_other}
use mir.Val.{bool_byte}
use Rattle.std.specs.Prelude.{min}
use Rattle.binary.specs.Bits.{count, tally}
use Rattle.binary.specs.Words
use Rattle.binary.specs.Words.{number_of}
use Rattle.binary.proofs.Bits.{bit, tally_same, tally_first, tally_few}
use Rattle.binary.proofs.NumberBits.{number_few, number_bit}
use Rattle.binary.proofs.WordBits.{order}
use Rattle.bitsets.specs.Bitsets.{in_set}
use Rattle.kept.specs.Kept.{single?, dangling_word, Finds}
use Rattle.kept.proofs.Same.{set_same}

----------------------------------------------------------------------
-- One word

module _ (end : ℕ) (work : List ℕ) where
  pub word_none : 0 ≡ dangling_word end end work
  unfolding dangling_word
  word_none = let e : end - end ≡ 0 = omega arith in rw e

  -- The row before, whose bit is the lowest.
  pub word_more : (j : ℕ) → 0 < j → j ≤ end → 2 * dangling_word j end work + bool_byte (single? work (j - 1)) ≡ dangling_word (j - 1) end work
  unfolding dangling_word
  word_more j some l =
      let e : end - (j - 1) ≡ suc (end - j) = omega arith in
      let first : j - 1 + 0 ≡ j - 1 = omega arith in
      let rest : ◌≡◌ {A = ℕ → Bool} (λ i. single? work (j - 1 + suc i)) (λ i. single? work (j + i)) = fun_ext λ i. let d : j - 1 + suc i ≡ j + i = omega arith in ap (single? work) d in
      rw (e, first, rest) (more (single? work (j - 1)) (2 * number_of (end - j) (λ i. single? work (j + i))))
    where
      more : (b : Bool) (n : ℕ) → n + bool_byte b ≡ count b n
      more true n = omega arith
      more false n = omega arith

  pub word_few : (m j : ℕ) → end ≤ j + m → dangling_word j end work < 2 ^ m
  unfolding dangling_word
  word_few m j l = omega (arith, number_few (end - j) (λ i. single? work (j + i)), pow_mono {i = end - j} {j = m} (omega arith))

-- How many bits of a number are set.
number_ones : (m : ℕ) (f : ℕ → Bool) → ones (number_of m f) ≡ tally m f
unfolding ones
number_ones zero f = refl
number_ones (suc m) f = by (f 0) ∙ ap (count (f 0)) (number_ones m (λ i. f (suc i))) ∙ sym (tally_first m f)
  where
    n : ℕ
    n = number_of m (λ i. f (suc i))

    half : (x b : ℕ) → x % 2 ≡ b → x / 2 ≡ n → ones x ≡ b + ones n
    half x b rest most = ones_step x ∙ ap₂ (λ (y z : ℕ). y + ones z) rest most

    by : (b : Bool) → ones (count b (2 * n)) ≡ count b (ones n)
    by true = half (suc (2 * n)) 1 (omega arith) (omega arith) ∙ one-add (ones n)
    by false = half (2 * n) 0 (omega arith) (omega arith) ∙ zero-add (ones n)

tally_split : (a m : ℕ) (f : ℕ → Bool) → tally (a + m) f ≡ tally a f + tally m (λ i. f (a + i))
tally_split a zero f = rw (add-zero a, add-zero (tally a f))
tally_split a (suc m) f = let rest = tally_split a m f in rw (add-suc a m) (bit (f (a + m)) (λ e. rw e (omega (arith, rest))) (λ e. rw e (omega (arith, rest))))

----------------------------------------------------------------------
-- Word by word

-- The rows of the first k words of the set are found.
pub record Finding (all : ℕ) (work₀ : List ℕ) (k total : ℕ) (work : List ℕ) : Type 0 where
  pub long : length work ≡ length work₀
  pub beside : (j : ℕ) → (j < 8192) ⊎ (8200 ≤ j) → get_or work j 0 ≡ get_or work₀ j 0
  pub found : (i : ℕ) → i < min all (64 * k) → in_set work 1024 i ≡ single? work₀ i
  pub counted : total ≡ tally (min all (64 * k)) (single? work₀)

pub finding_few : (all : ℕ) (work₀ : List ℕ) (k total : ℕ) (work : List ℕ) → Finding all work₀ k total work → total ≤ 64 * k
finding_few all work₀ k total work s = omega (arith, s.counted, tally_few (min all (64 * k)) (single? work₀))

module _ (all : ℕ) (work₀ : List ℕ) (few : all ≤ 512) (room : 9216 ≤ length work₀) where
  pub finding_none : Finding all work₀ 0 0 work₀
  finding_none =
      let none : min all (64 * 0) ≡ 0 = omega arith in
      record { long = refl; beside = λ j h. refl; found = λ i h. absurd (omega arith); counted = rw none }

  module _ (k total : ℕ) (work : List ℕ) (s : Finding all work₀ k total work) where
    single : (i : ℕ) → single? work i ≡ single? work₀ i
    single i = ap (λ (x : ℕ). eqb x 1) (s.beside (8704 + i) (inr (omega arith)))

    module _ (more : k < 8) (from end : ℕ) (begins : from ≡ min all (64 * k)) (ends : end ≡ min all (from + 64)) (word : ℕ) (is : word ≡ dangling_word from end work) where
      abbrev new : List ℕ
      new = set work (8192 + k) word

      others : (j : ℕ) → (j ≡ 8192 + k → ⊥) → get_or new j 0 ≡ get_or work j 0
      others j d = get_or-set_other work (8192 + k) j word 0 d

      end_is : end ≡ min all (64 * (k + 1))
      end_is = omega arith

      found_here : (i : ℕ) → from ≤ i → i < end → in_set new 1024 i ≡ single? work₀ i
      unfolding in_set dangling_word
      found_here i a b =
          let start : from ≡ 64 * k = omega arith in
          let here : i / 64 ≡ k = omega arith in
          let place : i % 64 ≡ i - from = omega arith in
          let row : from + (i - from) ≡ i = omega arith in
          rw (here, place, get_or-set_same work (8192 + k) word 0 (omega (arith, s.long)))
          (ap (λ (x : ℕ). Words.bit x (i - from)) is ∙ number_bit (end - from) (λ j. single? work (from + j)) (i - from) (omega arith) ∙ ap (single? work) row ∙ single i)

      counted_here : total + ones word ≡ tally end (single? work₀)
      unfolding dangling_word
      counted_here =
          let e : from + (end - from) ≡ end = omega arith in
          let split = rw e at (tally_split from (end - from) (single? work₀)) in
          let word_ones = ap ones is ∙ number_ones (end - from) (λ i. single? work (from + i))
          ∙ tally_same (end - from) (λ i. single? work₀ (from + i)) (λ i. single? work (from + i)) (λ i h. single (from + i)) in
          omega (arith, split, word_ones, rw (← begins) at s.counted)

      pub finding_word : Finding all work₀ (k + 1) (total + ones word) new
      finding_word = record {
        long = length-set work (8192 + k) word ∙ s.long;
        beside = λ j h. others j (λ e. ⊎_elim (λ u. omega arith) (λ u. omega arith) h) ∙ s.beside j h;
        found = λ i h. ⊎_elim (λ (a : i < from). set_same work new 1024 i (others (8192 + i / 64) (λ e. omega arith)) ∙ s.found i (omega arith)) (λ (a : from ≤ i). found_here i a (omega arith)) (order i from);
        counted = counted_here ∙ ap (λ (x : ℕ). tally x (single? work₀)) end_is;
      }

    pub finding_end : 8 ≤ k → Finds all work₀ (set work 8200 total)
    finding_end h =
        record {
          long = length-set work 8200 total ∙ s.long;
          below = λ j a. others j (λ e. omega arith) ∙ s.beside j (inl a);
          beyond = λ j a. others j (λ e. omega arith) ∙ s.beside j (inr (omega arith));
          tallied = λ a b. record {
            dangling = λ i l. set_same work new 1024 i (others (8192 + i / 64) (λ e. omega arith)) ∙ s.found i (omega arith) ∙ sym (single_new i);
            total = get_or-set_same work 8200 total 0 (omega (arith, s.long)) ∙ s.counted ∙ ap (λ (x : ℕ). tally x (single? work₀)) done
                ∙ sym (tally_same all (single? work₀) (single? new) (λ i h. single_new i));
          };
          refused = λ f. absurd (f room few);
        }
      where
        new : List ℕ
        new = set work 8200 total

        others : (j : ℕ) → (j ≡ 8200 → ⊥) → get_or new j 0 ≡ get_or work j 0
        others j d = get_or-set_other work 8200 j total 0 d

        single_new : (i : ℕ) → single? new i ≡ single? work₀ i
        single_new i = ap (λ (x : ℕ). eqb x 1) (others (8704 + i) (λ e. omega arith)) ∙ single i

        done : min all (64 * k) ≡ all
        done = omega arith
