-- The number that the planes from p on make: each plane more doubles it and adds its bit. Assumes nothing.
use mathlib.Core.Path.{◌≡◌, refl, sym, ap, ap₂, ◌∙◌}
use mathlib.Core.Bool.{Bool, false, cond}
use mathlib.Core.List.{List}
use Prim.Native.Nat.{ℕ, zero, suc, ◌+◌, ◌-◌, ◌*◌, ◌^◌, ◌≤◌, ◌<◌}
use native.Mathlib.Nat.{pow-succ'}
use native.Mathlib.Omega.{arith}
use lib.Pow.{pow_mono}
use Rattle.binary.proofs.Bits.{bit}
use Rattle.binary.specs.Bits.{weigh}
use Rattle.columns.specs.Planes.{planes, number}
use Rattle.columns.proofs.Numbers.{number_at_lem}
use Rattle.binary.proofs.Weights.{weigh_same, weigh_none, bits_few}

-- The lowest bit apart.
weigh_low : (n : ℕ) (t : ℕ → Bool) → weigh (λ p. 2 ^ p) (suc n) t ≡ 2 * weigh (λ p. 2 ^ p) n (λ p. t (suc p)) + cond (t 0) 1 0
weigh_low zero t = omega arith
weigh_low (suc n) t =
    let rest = weigh_low n t in
    let d = pow-succ' 2 n in
    bit (t (suc n)) (λ e. rw e (omega (arith, rest, d))) (λ e. rw e (omega (arith, rest, d)))

-- Of ten planes, those from p on.
unfoldable pub upper : (ℕ → Bool) → ℕ → ℕ
upper t p = weigh (λ q. 2 ^ q) (10 - p) (λ q. t (p + q))

pub upper_none : (t : ℕ → Bool) → upper t 10 ≡ 0
unfolding upper
upper_none t = refl

pub upper_zero : (t : ℕ → Bool) (p : ℕ) → ((q : ℕ) → p ≤ q → q < 10 → t q ≡ false) → upper t p ≡ 0
unfolding upper
upper_zero t p h = weigh_none (λ q. 2 ^ q) (10 - p) (λ q. t (p + q)) (λ q l. h (p + q) (omega arith) (omega arith))

upper_all : (t : ℕ → Bool) → upper t 0 ≡ weigh (λ q. 2 ^ q) 10 t
unfolding upper
upper_all t = refl

pub upper_more : (t : ℕ → Bool) (p : ℕ) → p < 10 → upper t p ≡ 2 * upper t (p + 1) + cond (t p) 1 0
unfolding upper
upper_more t p h =
    let d : 10 - p ≡ suc (10 - (p + 1)) = omega arith in
    let first : p + 0 ≡ p = omega arith in
    ap (λ (n : ℕ). weigh (λ q. 2 ^ q) n (λ q. t (p + q))) d
    ∙ weigh_low (10 - (p + 1)) (λ q. t (p + q))
    ∙ ap₂ (λ (x y : ℕ). 2 * x + y)
    (weigh_same (λ q. 2 ^ q) (10 - (p + 1)) (λ q. t (p + 1 + q)) (λ q. t (p + suc q)) (λ q l. let e : p + suc q ≡ p + 1 + q = omega arith in ap t e))
    (ap (λ (x : ℕ). cond (t x) 1 0) first)

pub upper_few : (t : ℕ → Bool) (p : ℕ) → upper t p < 1024
unfolding upper
upper_few t p = omega (arith, bits_few (10 - p) (λ q. t (p + q)), pow_mono {i = 10 - p} {j = 10} (omega arith))

-- The number of a word's column.
pub number_upper : (m : List ℕ) (k b : ℕ) → b < 64 → number m (64 * k + b) ≡ upper (planes m (8192 + 16 * k) b) 0
number_upper m k b h = number_at_lem m k b h ∙ sym (upper_all (planes m (8192 + 16 * k) b))
