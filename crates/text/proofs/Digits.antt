-- A number's digits. Assumes nothing.
use mathlib.Core.Path.{◌≡◌, refl}
use mathlib.Core.Bool.{Bool, true, false, cond}
use mathlib.Core.Logic.{⊎_elim}
use Prim.Native.Nat.{ℕ, zero, suc, ◌-◌, ◌*◌, ◌/◌, ◌≤◌, ◌<◌, ◌^◌}
use native.Mathlib.Nat.{eq-zero-or-pos, pow-le-pow_right, pow-suc}
use native.Mathlib.Numerals.{unary_clauses}
use native.Mathlib.Omega.{arith}
use borrow.Author.Tests.{ltb-true, ltb-false}
use lib.Dec.{ltb}
use lib.ListN.{length, length-append}
use Rattle.io.specs.Digits.{last_digits, IsDigitCount}
use Rattle.text.specs.Text.{places, decimal}

-- A number below the m-th power of ten has at most m.
pub digits_most : (m n k : ℕ) → 1 ≤ m → IsDigitCount 10 1 n k → n < 10 ^ m → k ≤ m
digits_most m n k l f h = ⊎_elim (λ e. omega arith) (λ p. more p) (eq-zero-or-pos (k - m))
  where
    more : 0 < k - m → k ≤ m
    more p =
        let a : 10 ^ (k - 1) ≤ n = f.2 (omega arith) in
        let b : 10 ^ m ≤ 10 ^ (k - 1) = pow-le-pow_right {n = 10} (omega arith) {i = m} {j = k - 1} (omega arith) in
        omega arith

-- There is one fewest number of digits.
pub fewest_one : (n j k : ℕ) → IsDigitCount 10 1 n j → IsDigitCount 10 1 n k → j ≡ k
fewest_one n j k f g =
    omega (arith, digits_most k n j g.0 f g.1, digits_most j n k f.0 g f.1)

-- A digit more.
fewest_more : (n k : ℕ) → 10 ≤ n → IsDigitCount 10 1 (n / 10) k → IsDigitCount 10 1 n (suc k)
fewest_more n zero h f = absurd (omega (arith, f.0))
fewest_more n (suc j) h f =
    let e : 10 ^ suc (suc j) ≡ 10 ^ suc j * 10 = pow-suc 10 (suc j) in
    let d : 10 ^ suc j ≡ 10 ^ j * 10 = pow-suc 10 j in (
      omega arith,
      omega (arith, f.1),
      λ l. ⊎_elim (λ (z : j ≡ 0). rw z (omega arith)) (λ (p : 0 < j). let a : 10 ^ j ≤ n / 10 = simp unary_clauses at (f.2 (omega arith)) in simp unary_clauses (omega arith)) (eq-zero-or-pos j),
    )

one_or_more : (n k : ℕ) (b : Bool) → ltb n 10 ≡ b → (10 ≤ n → IsDigitCount 10 1 n k) → IsDigitCount 10 1 n (cond b 1 k)
one_or_more n k true e more =
    let l : n < 10 = ltb-true n 10 e in (omega arith, omega arith, λ (h : 1 < 1). absurd (omega arith))
one_or_more n k false e more = more (ltb-false n 10 e)

pub places_fewest : (most n : ℕ) → n < 10 ^ suc most → IsDigitCount 10 1 n (places most n)
unfolding places
places_fewest zero n h = (omega arith, h, λ l. absurd (omega arith))
places_fewest (suc m) n h =
    let e : 10 ^ suc (suc m) ≡ 10 ^ suc m * 10 = pow-suc 10 (suc m) in
    one_or_more n (suc (places m (n / 10))) (ltb n 10) refl (λ l. fewest_more n (places m (n / 10)) l (places_fewest m (n / 10) (omega arith)))

length_digits : (k n : ℕ) → length (last_digits 10 k n) ≡ k
length_digits zero n = refl
length_digits (suc k) n = simp length-append (omega (arith, length_digits k (n / 10)))

-- The fewest digits that hold a number below 2 ^ 64 are the number in decimal.
pub decimal_fewest : (n k : ℕ) → n < 2 ^ 64 → IsDigitCount 10 1 n k → last_digits 10 k n ≡ decimal n
unfolding decimal
decimal_fewest n k h f = rw (fewest_one n k (places 19 n) f (places_fewest 19 n (omega arith))) refl

pub decimal_most : (m n : ℕ) → 1 ≤ m → n < 2 ^ 64 → n < 10 ^ m → length (decimal n) ≤ m
unfolding decimal
decimal_most m n l w h =
    rw length_digits (digits_most m n (places 19 n) l (places_fewest 19 n (omega arith)) h)

either_most : (b : Bool) (k m : ℕ) → k ≤ suc m → cond b 1 (suc k) ≤ suc (suc m)
either_most true k m h = omega arith
either_most false k m h = omega arith

places_most : (most n : ℕ) → places most n ≤ suc most
unfolding places
places_most zero n = omega arith
places_most (suc m) n = either_most (ltb n 10) (places m (n / 10)) m (places_most m (n / 10))

-- No number has more than 20 digits.
pub decimal_long : (n : ℕ) → length (decimal n) ≤ 20
unfolding decimal
decimal_long n = rw length_digits (places_most 19 n)
