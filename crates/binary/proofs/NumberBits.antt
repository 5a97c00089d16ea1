-- Numbers told by their bits. Assumes nothing.
use mathlib.Core.Path.{◌≡◌, refl, sym, ap, ◌∙◌}
use mathlib.Core.Bool.{Bool, true, false}
use mathlib.Core.Logic.{◌⊎◌, inl, inr}
use Prim.Native.Nat.{ℕ, zero, suc, ◌+◌, ◌*◌, ◌/◌, ◌%◌, ◌^◌, ◌<◌}
use native.Mathlib.Nat.{pow-succ'}
use native.Mathlib.Numerals.{one-add}
use native.Mathlib.Omega.{arith}
use lib.Count.{ones, ones_step}
use lib.Dec.{eqb}
use Rattle.binary.specs.Bits.{◌⊕◌, count}
use Rattle.binary.specs.Words.{bit, number_of}
use Rattle.binary.proofs.Bits.{never}
use Rattle.binary.proofs.WordBits.{parity, bit_shr}

-- The first bit, and those after it.
pub bit_first : (n : ℕ) → bit n 0 ≡ eqb (n % 2) 1
unfolding bit
bit_first n = let e : n / 1 ≡ n = omega arith in ap (λ (x : ℕ). eqb (x % 2) 1) e

pub bit_next : (n k : ℕ) → bit n (suc k) ≡ bit (n / 2) k
bit_next n k = ap (bit n) (sym (one-add k)) ∙ sym (bit_shr n 1 k)

pub number_few : (m : ℕ) (f : ℕ → Bool) → number_of m f < 2 ^ m
number_few zero f = omega arith
number_few (suc m) f = rw (pow-succ' 2 m) (by (f 0) (number_few m (λ i. f (suc i))))
  where
    by : (b : Bool) → number_of m (λ i. f (suc i)) < 2 ^ m → count b (2 * number_of m (λ i. f (suc i))) < 2 * 2 ^ m
    by true l = omega arith
    by false l = omega arith

count_half : (b : Bool) (n : ℕ) → count b (2 * n) / 2 ≡ n
count_half true n = omega arith
count_half false n = omega arith

count_rest : (b : Bool) (n : ℕ) → eqb (count b (2 * n) % 2) 1 ≡ b
count_rest true n = let e : suc (2 * n) % 2 ≡ 1 = omega arith in ap (λ (x : ℕ). eqb x 1) e
count_rest false n = let e : 2 * n % 2 ≡ 0 = omega arith in ap (λ (x : ℕ). eqb x 1) e

pub number_bit : (m : ℕ) (f : ℕ → Bool) (k : ℕ) → k < m → bit (number_of m f) k ≡ f k
number_bit zero f k l = absurd (omega arith)
number_bit (suc m) f zero l = bit_first (number_of (suc m) f) ∙ count_rest (f 0) (number_of m (λ i. f (suc i)))
number_bit (suc m) f (suc k) l =
    bit_next (number_of (suc m) f) k ∙ ap (λ (x : ℕ). bit x k) (count_half (f 0) (number_of m (λ i. f (suc i))))
    ∙ number_bit m (λ i. f (suc i)) k (omega arith)

-- Two numbers of m bits that have the same ones are equal.
pub same_bits : (m a b : ℕ) → a < 2 ^ m → b < 2 ^ m → ((k : ℕ) → k < m → bit a k ≡ bit b k) → a ≡ b
same_bits zero a b i j e = omega arith
same_bits (suc m) a b i j e =
    let i' : a < 2 * 2 ^ m = rw pow-succ' at i in
    let j' : b < 2 * 2 ^ m = rw pow-succ' at j in
    let half : a / 2 ≡ b / 2 =
    same_bits m (a / 2) (b / 2) (omega arith) (omega arith) (λ k l. sym (bit_next a k) ∙ e (suc k) (omega arith) ∙ bit_next b k) in
    let first : eqb (a % 2) 1 ≡ eqb (b % 2) 1 = sym (bit_first a) ∙ e 0 (omega arith) ∙ bit_first b in
    by (parity a) (parity b) first half
  where
    by : (a % 2 ≡ 0) ⊎ (a % 2 ≡ 1) → (b % 2 ≡ 0) ⊎ (b % 2 ≡ 1) → eqb (a % 2) 1 ≡ eqb (b % 2) 1 → a / 2 ≡ b / 2 → a ≡ b
    by (inl x) (inl y) f h = omega arith
    by (inl x) (inr y) f h = never (f ∙ ap (λ (t : ℕ). eqb t 1) y) (ap (λ (t : ℕ). eqb t 1) x)
    by (inr x) (inl y) f h = never (ap (λ (t : ℕ). eqb t 1) x) (f ∙ ap (λ (t : ℕ). eqb t 1) y)
    by (inr x) (inr y) f h = omega arith

----------------------------------------------------------------------
-- How many bits are set

-- Twice a number and one more: the first bit is set, the others are the number's.
pub odd_first : (c : ℕ) → bit (2 * c + 1) 0 ≡ true
odd_first c = let e : (2 * c + 1) % 2 ≡ 1 = omega arith in bit_first (2 * c + 1) ∙ ap (λ (x : ℕ). eqb x 1) e

pub odd_next : (c k : ℕ) → bit (2 * c + 1) (suc k) ≡ bit c k
odd_next c k = let e : (2 * c + 1) / 2 ≡ c = omega arith in bit_next (2 * c + 1) k ∙ ap (λ (x : ℕ). bit x k) e

odd_sum : (a b : ℕ) → eqb ((a + b) % 2) 1 ≡ eqb (a % 2) 1 ⊕ eqb (b % 2) 1
odd_sum a b = go (parity a) (parity b)
  where
    go : (a % 2 ≡ 0) ⊎ (a % 2 ≡ 1) → (b % 2 ≡ 0) ⊎ (b % 2 ≡ 1) → eqb ((a + b) % 2) 1 ≡ eqb (a % 2) 1 ⊕ eqb (b % 2) 1
    go (inl d) (inl e) = let s : (a + b) % 2 ≡ 0 = omega arith in rw (s, d, e)
    go (inl d) (inr e) = let s : (a + b) % 2 ≡ 1 = omega arith in rw (s, d, e)
    go (inr d) (inl e) = let s : (a + b) % 2 ≡ 1 = omega arith in rw (s, d, e)
    go (inr d) (inr e) = let s : (a + b) % 2 ≡ 0 = omega arith in rw (s, d, e)

-- An odd number of bits is set where an odd number of the first and of the rest is.
pub ones_odd : (n : ℕ) → eqb (ones n % 2) 1 ≡ bit n 0 ⊕ eqb (ones (n / 2) % 2) 1
ones_odd n =
    ap (λ (x : ℕ). eqb (x % 2) 1) (ones_step n) ∙ odd_sum (n % 2) (ones (n / 2))
    ∙ ap (λ (b : Bool). b ⊕ eqb (ones (n / 2) % 2) 1) (let e : n % 2 % 2 ≡ n % 2 = omega arith in ap (λ (x : ℕ). eqb x 1) e ∙ sym (bit_first n))

pub ones_none : eqb (ones 0 % 2) 1 ≡ false
unfolding ones
ones_none = refl
