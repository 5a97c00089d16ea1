-- The bits of a word: with one bit taken out, with a guess replaced, and the highest bit. Assumes nothing.
use mathlib.Core.Path.{◌≡◌, sym, ap, ap₂, ◌∙◌, fun_ext, subst}
use mathlib.Core.Bool.{true, false, ◌&&◌}
use mathlib.Core.Logic.{⊎_elim}
use Prim.Native.Nat.{ℕ, suc, ◌+◌, ◌-◌, ◌*◌, ◌/◌, ◌%◌, ◌^◌, ◌≤◌, ◌<◌}
use native.Mathlib.Nat.{le_trans, lt_of_le_of_lt, mod-lt, mod-eq_of_lt, div-mul-le_self, div-one}
use native.Mathlib.Omega.{arith}
use borrow.Author.Tests.{eq-eqb, ne_eqb}
use lib.Count.{count_leading_zeros, leading_top}
use lib.Dec.{eqb}
use lib.Pow.{pow_pos, high, low, shr_le, split}
use lib.Bits.{bit_or, bit_xor, or_shifted}
use Rattle.binary.specs.Words.{bit}
use Rattle.binary.proofs.Bits.{⊕_false, &&_false, &&_true, eqb_sym}
use Rattle.binary.proofs.WordBits.{order, parity, bit_zero, bit_pow, bit-bit_xor, bit_past, bit_shr, bit_mod, one_shl, top_set}
use Rattle.machine.specs.Machine.{Form, without, replace}
use Rattle.forms.specs.Sides.{NewestBit}
use Rattle.machine.proofs.TakingUp.{without_below, without_above}

----------------------------------------------------------------------
-- A bit taken out

-- The word that the code computes.
unfoldable pub closed_up : ℕ → ℕ → ℕ
closed_up f k = bit_or (f / 2 ^ 1 / 2 ^ k * 2 ^ k % 2 ^ 64) (f % (1 * 2 ^ k % 2 ^ 64))

module _ (f k : ℕ) (word : f < 2 ^ 64) (within : k < 64) where
  lows : f % 2 ^ k < 2 ^ k
  lows = mod-lt f (pow_pos k)

  -- Its parts: the bits past k, moved down, and those below it.
  closed_parts : closed_up f k ≡ f / 2 ^ 1 / 2 ^ k * 2 ^ k + f % 2 ^ k
  unfolding closed_up
  closed_parts =
      let fits : f / 2 ^ 1 / 2 ^ k * 2 ^ k < 2 ^ 64 = lt_of_le_of_lt (le_trans (div-mul-le_self (f / 2 ^ 1) (2 ^ k)) (shr_le f 1)) word in
      ap₂ bit_or (mod-eq_of_lt fits) (ap (λ (x : ℕ). f % x) (one_shl k within)) ∙ or_shifted (f / 2 ^ 1 / 2 ^ k) k (f % 2 ^ k) lows

  pub closed_bits : (j : ℕ) → bit (closed_up f k) j ≡ without k (bit f) j
  closed_bits j = ap (λ (x : ℕ). bit x j) closed_parts ∙ ⊎_elim below above (order j k)
    where
      parts : ℕ
      parts = f / 2 ^ 1 / 2 ^ k * 2 ^ k + f % 2 ^ k

      below : j < k → bit parts j ≡ without k (bit f) j
      below l =
          sym (bit_mod parts k j l) ∙ ap (λ (x : ℕ). bit x j) (low (f / 2 ^ 1 / 2 ^ k) k lows) ∙ bit_mod f k j l ∙ sym (without_below k j (bit f) l)

      above : k ≤ j → bit parts j ≡ without k (bit f) j
      above l =
          let e : k + (j - k) ≡ j = omega arith in
          let d : 1 + (k + (j - k)) ≡ suc j = omega arith in
          ap (bit parts) (sym e) ∙ sym (bit_shr parts k (j - k)) ∙ ap (λ (x : ℕ). bit x (j - k)) (high (f / 2 ^ 1 / 2 ^ k) k lows)
          ∙ bit_shr (f / 2 ^ 1) k (j - k) ∙ bit_shr f 1 (k + (j - k)) ∙ ap (bit f) d ∙ sym (without_above k j (bit f) l)

----------------------------------------------------------------------
-- A bit tested

pub odd_bit : (f k : ℕ) → f / 2 ^ k % 2 ≡ 1 → bit f k ≡ true
unfolding bit
odd_bit f k t = eq-eqb (f / 2 ^ k % 2) 1 t

pub even_bit : (f k : ℕ) → (f / 2 ^ k % 2 ≡ 1 → ⊥) → bit f k ≡ false
unfolding bit
even_bit f k t = ne_eqb (f / 2 ^ k % 2) 1 t

----------------------------------------------------------------------
-- A guess replaced in a word

module _ (f k side : ℕ) where
  -- With guess k the side is added, and without it nothing is; then bit k is taken out.
  pub replaced_with : (r : ℕ) → f / 2 ^ k % 2 ≡ 1 → ((j : ℕ) → bit r j ≡ without k (bit (bit_xor f side)) j)
      → (j : ℕ) → bit r j ≡ replace k (bit side) (bit f) j
  replaced_with r t h j =
      h j ∙ ap (λ (g : Form). without k g j) (fun_ext λ i. bit-bit_xor f side i ∙ rw (odd_bit f k t))

  replaced_none : bit f k ≡ false → (j : ℕ) → without k (bit f) j ≡ replace k (bit side) (bit f) j
  replaced_none t j = ap (λ (g : Form). without k g j) (fun_ext λ i. sym (⊕_false (bit f i)) ∙ rw t)

  pub replaced_without : (r : ℕ) → (f / 2 ^ k % 2 ≡ 1 → ⊥) → ((j : ℕ) → bit r j ≡ without k (bit f) j)
      → (j : ℕ) → bit r j ≡ replace k (bit side) (bit f) j
  replaced_without r t h j = h j ∙ replaced_none (even_bit f k t) j

  -- A word with neither bit k nor a later one.
  pub replaced_low : f / 2 ^ k ≡ 0 → (j : ℕ) → bit f j ≡ replace k (bit side) (bit f) j
  replaced_low t j = closed ∙ replaced_none (none k (omega arith)) j
    where
      small : f < 2 ^ k
      small = omega (arith, rw t at (split f k), mod-lt f (pow_pos k))

      none : (i : ℕ) → k ≤ i → bit f i ≡ false
      none i l = bit_past f k i small l

      closed : bit f j ≡ without k (bit f) j
      closed =
          ⊎_elim (λ (l : j < k). sym (without_below k j (bit f) l))
          (λ (l : k ≤ j). none j l ∙ sym (none (suc j) (omega arith)) ∙ sym (without_above k j (bit f) l)) (order j k)

----------------------------------------------------------------------
-- A word's lowest bit at another's top

pub carried : (x j : ℕ) → bit (x % 2 * 2 ^ 63 % 2 ^ 64) j ≡ (eqb j 63 && bit x 0)
unfolding bit
carried x j =
    ⊎_elim (λ (e : x % 2 ≡ 0). rw e (bit_zero j ∙ sym (ap (eqb j 63 &&◌) (ap (λ (y : ℕ). eqb (y % 2) 1) (div-one x) ∙ ap (λ (y : ℕ). eqb y 1) e) ∙ &&_false (eqb j 63))))
    (λ (e : x % 2 ≡ 1). rw e (ap (λ (y : ℕ). bit y j) (one_shl 63 (omega arith)) ∙ bit_pow 63 j ∙ eqb_sym 63 j
    ∙ sym (&&_true (eqb j 63) (ap (λ (y : ℕ). eqb (y % 2) 1) (div-one x) ∙ ap (λ (y : ℕ). eqb y 1) e)))) (parity x)

----------------------------------------------------------------------
-- The highest bit

-- A word's leading zeros, and its newest guess.
module _ (word : ℕ) (more : 0 < word) (fits : word < 2 ^ 64) where
  pub zeros_few : count_leading_zeros 64 word ≤ 63
  zeros_few = omega (arith, (leading_top 64 word more fits).1)

  pub newest_top : NewestBit word (63 - count_leading_zeros 64 word)
  newest_top =
      let t = leading_top 64 word more fits in
      let e : t.0 ≡ 63 - count_leading_zeros 64 word = omega (arith, t.1) in
      subst (NewestBit word) e (record {
        within = omega (arith, t.1);
        has = top_set word t.0 t.2 t.3;
        below = t.3;
      })
