-- Laws of sums of weights, and of tallies, which are such sums. Assumes nothing.
use mathlib.Core.Path.{◌≡◌, refl, sym, ap, ap₂}
use mathlib.Core.Bool.{Bool, true, false, cond}
use mathlib.Core.Logic.{⊎_elim}
use Prim.Native.Nat.{ℕ, zero, suc, ◌+◌, ◌^◌, ◌<◌}
use native.Mathlib.Nat.{not-suc-le-zero, le_of_suc-le-suc, eq-or-lt_of_le, pow-succ'}
use native.Mathlib.Omega.{arith}
use lib.Dec.{eqb}
use Rattle.binary.specs.Bits.{count, tally, weigh}
use Rattle.binary.proofs.Bits.{bit, eqb_differ}

pub weigh_same : (f : ℕ → ℕ) (n : ℕ) (t t' : ℕ → Bool) → ((p : ℕ) → p < n → t' p ≡ t p) → weigh f n t' ≡ weigh f n t
weigh_same f zero t t' h = refl
weigh_same f (suc n) t t' h =
    ap₂ ◌+◌ (ap (λ (b : Bool). cond b (f n) 0) (h n (omega arith))) (weigh_same f n t t' (λ p l. h p (omega arith)))

pub weigh_none : (f : ℕ → ℕ) (n : ℕ) (t : ℕ → Bool) → ((p : ℕ) → p < n → t p ≡ false) → weigh f n t ≡ 0
weigh_none f zero t h = refl
weigh_none f (suc n) t h = ap₂ ◌+◌ (ap (λ (b : Bool). cond b (f n) 0) (h n (omega arith))) (weigh_none f n t (λ p l. h p (omega arith)))

-- Two tests that differ at p alone.
pub weigh_change : (f : ℕ → ℕ) (n p : ℕ) (t t' : ℕ → Bool) → p < n → ((q : ℕ) → (q ≡ p → ⊥) → q < n → t' q ≡ t q)
    → weigh f n t' + cond (t p) (f p) 0 ≡ weigh f n t + cond (t' p) (f p) 0
weigh_change f zero p t t' l h = absurd (not-suc-le-zero l)
weigh_change f (suc n) p t t' l h =
    ⊎_elim
    (λ (e : p ≡ n). let rest = weigh_same f n t t' (λ q i. h q (λ j. absurd (omega arith)) (omega arith)) in
    rw e (omega (arith, rest)))
    (λ (e : p < n). let rest = weigh_change f n p t t' e (λ q d i. h q d (omega arith)) in
    let same = ap (λ (b : Bool). cond b (f n) 0) (h n (λ j. absurd (omega arith)) (omega arith)) in
    omega (arith, rest, same))
    (eq-or-lt_of_le (le_of_suc-le-suc l))

pub count_plus : (b : Bool) (k : ℕ) → count b k ≡ k + cond b 1 0
count_plus true k = omega arith
count_plus false k = omega arith

-- A tally is a sum of weights 1.
tally_weigh : (n : ℕ) (f : ℕ → Bool) → tally n f ≡ weigh (λ p. 1) n f
tally_weigh zero f = refl
tally_weigh (suc n) f = let rest = tally_weigh n f in rw (count_plus (f n) (tally n f)) (omega (arith, rest))

pub tally_change : (n p : ℕ) (f f' : ℕ → Bool) → p < n → ((q : ℕ) → (q ≡ p → ⊥) → q < n → f' q ≡ f q) → tally n f' + cond (f p) 1 0 ≡ tally n f + cond (f' p) 1 0
tally_change n p f f' l h = rw (tally_weigh n f, tally_weigh n f') (weigh_change (λ q. 1) n p f f' l h)

-- One more passes.
pub tally_up : (n p : ℕ) (f f' : ℕ → Bool) → p < n → f p ≡ false → f' p ≡ true → ((q : ℕ) → eqb p q ≡ false → f' q ≡ f q) → tally n f' ≡ suc (tally n f)
tally_up n p f f' l a b h = let z = rw (a, b) at (tally_change n p f f' l (λ q d k. h q (eqb_differ p q (λ j. d (sym j))))) in omega (arith, z)

-- A number of so many bits.
pub bits_few : (n : ℕ) (t : ℕ → Bool) → weigh (λ p. 2 ^ p) n t < 2 ^ n
bits_few zero t = omega arith
bits_few (suc n) t =
    let rest = bits_few n t in
    let d = pow-succ' 2 n in
    bit (t n) (λ e. rw e (omega (arith, rest, d))) (λ e. rw e (omega (arith, rest, d)))
