-- The bits of a word: of the machine's operations, of 0, 1 and the powers of 2, and past a word's end. Assumes nothing.
use mathlib.Core.Path.{◌≡◌, refl, sym, ap, ap₂, ◌∙◌}
use mathlib.Core.Bool.{Bool, true, false, ◌&&◌, ◌||◌}
use mathlib.Core.Logic.{◌⊎◌, inl, inr, ⊎_elim}
use Prim.Native.Nat.{ℕ, zero, suc, ◌+◌, ◌-◌, ◌*◌, ◌/◌, ◌%◌, ◌^◌, ◌≤◌, ◌<◌}
use native.Mathlib.Nat.{eq-zero-or-pos, lt_of_lt_of_le, div-eq_of_lt, div-eq_of_lt-le, div_self, zero-div, mod_self, one-mul, pow-succ'}
use native.Mathlib.Decide.{dec_lt, ℕ_discrete}
use native.Mathlib.Omega.{arith}
use borrow.Author.Tests.{eq-eqb, ne_eqb, eqb-true}
use lib.Count.{leading_top}
use lib.Dec.{eqb, lit<, eqb-suc-zero}
use lib.Pow.{pow_pos, pow-lt, pow_mono, shr-shr, field, mod-mod-pow, shl_exact}
use lib.Bits.{bit_and, bit_or, bit_xor, and_shr, and_mod, or_shr, or_mod, xor_shr, xor_mod}
use Rattle.binary.specs.Bits.{◌⊕◌}
use Rattle.binary.specs.Words.{bit}
use Rattle.binary.proofs.Bits.{iff_eq, never}

pub order : (a b : ℕ) → (a < b) ⊎ (b ≤ a)
order a b = go (dec_lt a b)
  where
    go : Dec (a < b) → (a < b) ⊎ (b ≤ a)
    go (yes p) = inl p
    go (no f) = inr (omega arith)

----------------------------------------------------------------------
-- Bits of the machine's operations

pub parity : (n : ℕ) → (n % 2 ≡ 0) ⊎ (n % 2 ≡ 1)
parity n = ⊎_elim (λ e. inl e) (λ (p : 0 < n % 2). inr (omega arith)) (eq-zero-or-pos (n % 2))

-- An operation f of words goes bit by bit, as g, if it commutes with a shift and a remainder, and is g on the digits 0 and 1.
module _ (f : ℕ → ℕ → ℕ) (g : Bool → Bool → Bool) (shift : (a b k : ℕ) → f a b / 2 ^ k ≡ f (a / 2 ^ k) (b / 2 ^ k))
    (rest : (a b k : ℕ) → f a b % 2 ^ k ≡ f (a % 2 ^ k) (b % 2 ^ k))
    (n00 : eqb (f 0 0) 1 ≡ g false false) (n01 : eqb (f 0 1) 1 ≡ g false true) (n10 : eqb (f 1 0) 1 ≡ g true false) (n11 : eqb (f 1 1) 1 ≡ g true true) where
  digit : (p q : ℕ) → eqb (f p q % 2) 1 ≡ g (eqb (p % 2) 1) (eqb (q % 2) 1)
  digit p q = rw (rest p q 1) (go (parity p) (parity q))
    where
      go : (p % 2 ≡ 0) ⊎ (p % 2 ≡ 1) → (q % 2 ≡ 0) ⊎ (q % 2 ≡ 1) → eqb (f (p % 2) (q % 2)) 1 ≡ g (eqb (p % 2) 1) (eqb (q % 2) 1)
      go (inl d) (inl e) = rw (d, e) n00
      go (inl d) (inr e) = rw (d, e) n01
      go (inr d) (inl e) = rw (d, e) n10
      go (inr d) (inr e) = rw (d, e) n11

  bitwise : (a b k : ℕ) → bit (f a b) k ≡ g (bit a k) (bit b k)
  unfolding bit
  bitwise a b k = ap (λ (x : ℕ). eqb (x % 2) 1) (shift a b k) ∙ digit (a / 2 ^ k) (b / 2 ^ k)

pub bit-bit_xor : (a b k : ℕ) → bit (bit_xor a b) k ≡ bit a k ⊕ bit b k
bit-bit_xor = bitwise bit_xor ◌⊕◌ xor_shr xor_mod refl refl refl refl

pub bit-bit_or : (a b k : ℕ) → bit (bit_or a b) k ≡ (bit a k || bit b k)
bit-bit_or = bitwise bit_or ◌||◌ or_shr or_mod refl refl refl refl

pub bit-bit_and : (a b k : ℕ) → bit (bit_and a b) k ≡ (bit a k && bit b k)
bit-bit_and = bitwise bit_and ◌&&◌ and_shr and_mod refl refl refl refl

pub bit_zero : (k : ℕ) → bit 0 k ≡ false
unfolding bit
bit_zero k = ap (λ (x : ℕ). eqb (x % 2) 1) (zero-div (2 ^ k))

-- A bit below the j lowest.
pub bit_mod : (n j k : ℕ) → k < j → bit (n % 2 ^ j) k ≡ bit n k
unfolding bit
bit_mod n j k h =
    let e : j - k + k ≡ j = omega arith in
    let d : j - k - 1 + 1 ≡ j - k = omega arith in
    ap (λ (x : ℕ). eqb (x % 2) 1) (ap (λ (x : ℕ). n % 2 ^ x / 2 ^ k) (sym e) ∙ field n (j - k) k)
    ∙ ap (λ (x : ℕ). eqb x 1) (ap (λ (x : ℕ). n / 2 ^ k % 2 ^ x % 2) (sym d) ∙ mod-mod-pow (n / 2 ^ k) (j - k - 1) 1)

pub bit_past : (n j k : ℕ) → n < 2 ^ j → j ≤ k → bit n k ≡ false
unfolding bit
bit_past n j k h l = ap (λ (x : ℕ). eqb (x % 2) 1) (div-eq_of_lt (lt_of_lt_of_le h (pow_mono l)))

pub bit_one : (k : ℕ) → bit 1 k ≡ eqb k 0
unfolding bit
bit_one zero = refl
bit_one (suc k) = bit_past 1 1 (suc k) (lit< tt) (omega arith) ∙ sym (eqb-suc-zero k)

pub bit_shr : (n j k : ℕ) → bit (n / 2 ^ j) k ≡ bit n (j + k)
unfolding bit
bit_shr n j k = ap (λ (x : ℕ). eqb (x % 2) 1) (shr-shr n j k)

-- The word with bit g alone.
pub bit_pow : (g k : ℕ) → bit (2 ^ g) k ≡ eqb g k
unfolding bit
bit_pow g k = go (ℕ_discrete g k)
  where
    above : g < k → bit (2 ^ g) k ≡ false
    above h = ap (λ (x : ℕ). eqb (x % 2) 1) (div-eq_of_lt (pow-lt h))

    under : k < g → bit (2 ^ g) k ≡ false
    under h = sym (bit_mod (2 ^ g) g k h) ∙ ap (λ (x : ℕ). bit x k) (mod_self (2 ^ g)) ∙ bit_zero k

    go : Dec (g ≡ k) → bit (2 ^ g) k ≡ eqb g k
    go (yes e) = ap (λ (x : ℕ). bit (2 ^ g) x) (sym e) ∙ ap (λ (x : ℕ). eqb (x % 2) 1) (div_self (pow_pos g)) ∙ sym (eq-eqb g k e)
    go (no f) = ⊎_elim under (λ (l : g ≤ k). above (omega arith)) (order k g) ∙ sym (ne_eqb g k f)

-- The code's `1 << k`.
pub one_shl : (k : ℕ) → k < 64 → 1 * 2 ^ k % 2 ^ 64 ≡ 2 ^ k
one_shl k h = shl_exact 1 k 64 (lit< tt) (omega arith) ∙ one-mul (2 ^ k)

-- The code's `x | (1 << g)` and `x ^ (1 << g)`.
pub bit_set : (x g k : ℕ) → g < 64 → bit (bit_or x (1 * 2 ^ g % 2 ^ 64)) k ≡ (bit x k || eqb g k)
bit_set x g k h = rw (one_shl g h) (bit-bit_or x (2 ^ g) k ∙ ap (λ (b : Bool). bit x k || b) (bit_pow g k))

pub bit_flipped : (x g k : ℕ) → g < 64 → bit (bit_xor x (1 * 2 ^ g % 2 ^ 64)) k ≡ bit x k ⊕ eqb g k
bit_flipped x g k h = rw (one_shl g h) (bit-bit_xor x (2 ^ g) k ∙ ap (λ (b : Bool). bit x k ⊕ b) (bit_pow g k))

-- Numbers whose bits lie in one word are told by their places in it.
pub same_digit : (q c : ℕ) → c / 64 ≡ q / 64 → eqb (q % 64) (c % 64) ≡ eqb q c
same_digit q c e =
    iff_eq (eqb (q % 64) (c % 64)) (eqb q c)
    (λ t. let d : q % 64 ≡ c % 64 = eqb-true (q % 64) (c % 64) t in eq-eqb q c (omega arith))
    (λ t. let d : q ≡ c = eqb-true q c t in eq-eqb (q % 64) (c % 64) (omega arith))

-- Any two by word and place.
pub both_digits : (q c : ℕ) → (eqb (q / 64) (c / 64) && eqb (q % 64) (c % 64)) ≡ eqb q c
both_digits q c = by (ℕ_discrete (q / 64) (c / 64))
  where
    by : Dec (q / 64 ≡ c / 64) → (eqb (q / 64) (c / 64) && eqb (q % 64) (c % 64)) ≡ eqb q c
    by (yes e) = rw (eq-eqb (q / 64) (c / 64) e) (same_digit q c (sym e))
    by (no f) = rw (ne_eqb (q / 64) (c / 64) f) (sym (ne_eqb q c (λ e. f (ap (λ (x : ℕ). x / 64) e))))

-- The word and the place of bit j of word v.
pub digits : {A : Type 0} (v j : ℕ) → j < 64 → (f : ℕ → ℕ → A) → f ((64 * v + j) / 64) ((64 * v + j) % 64) ≡ f v j
digits v j l f =
    let a : (64 * v + j) / 64 ≡ v = omega arith in let b : (64 * v + j) % 64 ≡ j = omega arith in ap₂ f a b

----------------------------------------------------------------------
-- The highest bit

pub top_set : (n k : ℕ) → 2 ^ k ≤ n → n < 2 ^ suc k → bit n k ≡ true
unfolding bit
top_set n k l h =
    let e : n / 2 ^ k ≡ 1 = div-eq_of_lt-le (2 ^ k) (rw one-mul l) (rw (← pow-succ' 2 k) h) in
    ap (λ (x : ℕ). eqb (x % 2) 1) e

-- A word without bits is 0.
pub bits_none : (word : ℕ) → word < 2 ^ 64 → ((k : ℕ) → bit word k ≡ false) → word ≡ 0
bits_none word fits none =
    ⊎_elim (λ (e : word ≡ 0). e)
    (λ (p : 0 < word). let t = leading_top 64 word p fits in never (top_set word t.0 t.2 t.3) (none t.0)) (eq-zero-or-pos word)
