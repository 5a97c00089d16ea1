-- Laws of bits and of finite tests. Assumes nothing.
use mathlib.Core.Path.{◌≡◌, refl, sym, ap, ap₂, ◌∙◌, subst}
use mathlib.Core.Bool.{Bool, true, false, not, ◌&&◌, ◌||◌, true≢false, beq}
use mathlib.Core.Logic.{⊎_elim}
use lib.Dec.{T, eqb, eqb→eq, eqb-suc-suc}
use Prim.Native.Nat.{ℕ, zero, suc, ◌≤◌, ◌<◌}
use native.Mathlib.Nat.{not-suc-le-zero, le_of_suc-le-suc, eq-or-lt_of_le}
use native.Mathlib.Omega.{arith}
use Rattle.binary.specs.Bits.{◌⊕◌, below, count, tally}

----------------------------------------------------------------------
-- Sums

pub ⊕_false : (a : Bool) → a ⊕ false ≡ a
⊕_false true = refl
⊕_false false = refl

pub ⊕_self : (a : Bool) → a ⊕ a ≡ false
⊕_self true = refl
⊕_self false = refl

pub ⊕_comm : (a b : Bool) → a ⊕ b ≡ b ⊕ a
⊕_comm true true = refl
⊕_comm true false = refl
⊕_comm false true = refl
⊕_comm false false = refl

pub ⊕_assoc : (a b c : Bool) → a ⊕ b ⊕ c ≡ a ⊕ (b ⊕ c)
⊕_assoc true true true = refl
⊕_assoc true true false = refl
⊕_assoc true false c = refl
⊕_assoc false b c = refl

pub ⊕_left_comm : (a b c : Bool) → a ⊕ (b ⊕ c) ≡ b ⊕ (a ⊕ c)
⊕_left_comm a b c = sym (⊕_assoc a b c) ∙ ap (◌⊕ c) (⊕_comm a b) ∙ ⊕_assoc b a c

pub ⊕_cancel : (a b : Bool) → a ⊕ (a ⊕ b) ≡ b
⊕_cancel a b = sym (⊕_assoc a a b) ∙ ap (◌⊕ b) (⊕_self a)

pub ruleset xors = (⊕_false, ⊕_self, ⊕_comm, ⊕_assoc, ⊕_left_comm, ⊕_cancel)

-- Two bits whose sum is 0 are equal.
pub ⊕_eq : (a b : Bool) → a ⊕ b ≡ false → a ≡ b
⊕_eq a b e = sym (⊕_cancel b a) ∙ rw (⊕_comm b a, e, ⊕_false)

-- One of two bits whose sum is 1 is 1.
pub ⊕_out {ℓ} : {C : Type ℓ} (a b : Bool) → a ⊕ b ≡ true → (a ≡ true → C) → (b ≡ true → C) → C
⊕_out true b t f g = f refl
⊕_out false b t f g = g t

pub ⊕_move : (a b c : Bool) → a ⊕ b ≡ c → a ≡ c ⊕ b
⊕_move a b c e = rw (← e) (simp xors)

pub ⊕_shuffle : (a b c d : Bool) → (a ⊕ b) ⊕ (c ⊕ d) ≡ (a ⊕ c) ⊕ (b ⊕ d)
⊕_shuffle a b c d = simp xors

----------------------------------------------------------------------
-- Cases

-- A bit is 0 or 1: cases on a computed bit that keep the equation.
pub bit {ℓ} : {C : Type ℓ} (b : Bool) → (b ≡ true → C) → (b ≡ false → C) → C
bit true f g = f refl
bit false f g = g refl

pub never {ℓ} : {C : Type ℓ} {b : Bool} → b ≡ true → b ≡ false → C
never p q = absurd (true≢false (sym p ∙ q))

-- Two tests that pass together are equal.
pub iff_eq : (a b : Bool) → (a ≡ true → b ≡ true) → (b ≡ true → a ≡ true) → a ≡ b
iff_eq true b f g = sym (f refl)
iff_eq false true f g = g refl
iff_eq false false f g = refl

----------------------------------------------------------------------
-- And, or, not

pub &&_false : (a : Bool) → (a && false) ≡ false
&&_false true = refl
&&_false false = refl

pub &&_true : (a : Bool) {b : Bool} → b ≡ true → (a && b) ≡ a
&&_true true e = e
&&_true false e = refl

pub &&_⊕ : (a b c : Bool) → ((a ⊕ b) && c) ≡ (a && c) ⊕ (b && c)
&&_⊕ true true true = refl
&&_⊕ true true false = refl
&&_⊕ true false true = refl
&&_⊕ true false false = refl
&&_⊕ false b c = refl

pub and_out : (a b : Bool) → (a && b) ≡ true → (a ≡ true) × (b ≡ true)
and_out true b e = (refl, e)
and_out false b e = never e refl

pub and_in : {a b : Bool} → a ≡ true → b ≡ true → (a && b) ≡ true
and_in p q = rw (p, q)

pub or_false : (a b : Bool) → (a || b) ≡ false → (a ≡ false) × (b ≡ false)
or_false true b e = never refl e
or_false false b e = (refl, e)

pub or_out {ℓ} : {C : Type ℓ} (a b : Bool) → (a || b) ≡ true → (a ≡ true → C) → (b ≡ true → C) → C
or_out true b t f g = f refl
or_out false b t f g = g t

pub or_right : (a : Bool) {b : Bool} → b ≡ true → (a || b) ≡ true
or_right true e = refl
or_right false e = e

pub or_left : {a : Bool} (b : Bool) → a ≡ true → (a || b) ≡ true
or_left b e = rw e

pub not_out : (b : Bool) → not b ≡ true → b ≡ false
not_out true e = sym e
not_out false e = refl

pub not_in : {b : Bool} → b ≡ false → not b ≡ true
not_in e = rw e

pub imp_in : (a b : Bool) → (a ≡ true → b ≡ true) → (not a || b) ≡ true
imp_in true b f = f refl
imp_in false b f = refl

pub imp_out : (a b : Bool) → (not a || b) ≡ true → a ≡ true → b ≡ true
imp_out true b t e = t
imp_out false b t e = never e refl

pub beq_out : (a b : Bool) → beq a b ≡ true → a ≡ b
beq_out true true e = refl
beq_out true false e = never refl (sym e)
beq_out false true e = never refl (sym e)
beq_out false false e = refl

pub beq_in : {a b : Bool} → a ≡ b → beq a b ≡ true
beq_in {a} {b} e = rw e (same b)
  where
    same : (c : Bool) → beq c c ≡ true
    same true = refl
    same false = refl

----------------------------------------------------------------------
-- Numbers told apart

pub eqb_eq : (p q : ℕ) → eqb p q ≡ true → p ≡ q
eqb_eq p q e = eqb→eq p q (subst T (sym e) tt)

pub eq_eqb : (p : ℕ) → eqb p p ≡ true
eq_eqb zero = refl
eq_eqb (suc p) = eqb-suc-suc p p ∙ eq_eqb p

pub eqb_sym : (p q : ℕ) → eqb p q ≡ eqb q p
eqb_sym p q =
    iff_eq (eqb p q) (eqb q p) (λ e. rw (eqb_eq p q e) (eq_eqb q)) (λ e. rw (eqb_eq q p e) (eq_eqb p))

pub eqb_differ : (p q : ℕ) → (p ≡ q → ⊥) → eqb p q ≡ false
eqb_differ p q h = bit (eqb p q) (λ e. absurd (h (eqb_eq p q e))) (λ e. e)

----------------------------------------------------------------------
-- Tests of the numbers below n

pub below_out : (n : ℕ) (f : ℕ → Bool) → below n f ≡ true → (q : ℕ) → q < n → f q ≡ true
below_out zero f t q h = absurd (not-suc-le-zero h)
below_out (suc n) f t q h =
    ⊎_elim (λ e. rw e (and_out (f n) (below n f) t).0) (λ l. below_out n f (and_out (f n) (below n f) t).1 q l) (eq-or-lt_of_le (le_of_suc-le-suc h))

pub below_in : (n : ℕ) (f : ℕ → Bool) → ((q : ℕ) → q < n → f q ≡ true) → below n f ≡ true
below_in zero f h = refl
below_in (suc n) f h = and_in (h n (omega arith)) (below_in n f (λ q l. h q (omega arith)))

-- Strong induction.
pub strong : (P : ℕ → Type 0) → ((q : ℕ) → ((p : ℕ) → p < q → P p) → P q) → (q : ℕ) → P q
strong P f q = under (suc q) q (omega arith)
  where
    under : (m : ℕ) (p : ℕ) → p < m → P p
    under zero p h = absurd (not-suc-le-zero h)
    under (suc m) p h = f p (λ r l. under m r (omega arith))

pub tally_same : (n : ℕ) (f f' : ℕ → Bool) → ((q : ℕ) → q < n → f' q ≡ f q) → tally n f' ≡ tally n f
tally_same zero f f' h = refl
tally_same (suc n) f f' h = ap₂ count (h n (omega arith)) (tally_same n f f' (λ q l. h q (omega arith)))

pub tally_none : (n : ℕ) (f : ℕ → Bool) → ((q : ℕ) → f q ≡ false) → tally n f ≡ 0
tally_none zero f h = refl
tally_none (suc n) f h = ap₂ count (h n) (tally_none n f h)

-- The first counted first.
pub tally_first : (n : ℕ) (f : ℕ → Bool) → tally (suc n) f ≡ count (f 0) (tally n (λ q. f (suc q)))
tally_first zero f = refl
tally_first (suc n) f = ap (count (f (suc n))) (tally_first n f) ∙ swap (f (suc n)) (f 0)
  where
    swap : (x y : Bool) → count x (count y (tally n (λ q. f (suc q)))) ≡ count y (count x (tally n (λ q. f (suc q))))
    swap true true = refl
    swap true false = refl
    swap false y = refl

pub tally_few : (n : ℕ) (f : ℕ → Bool) → tally n f ≤ n
tally_few zero f = omega arith
tally_few (suc n) f = let rest = tally_few n f in bit (f n) (λ e. rw e (omega arith)) (λ e. rw e (omega arith))

-- None passes the test exactly where none is counted.
pub none_counted : (n : ℕ) (f : ℕ → Bool) → tally n f ≡ 0 → below n (λ q. not (f q)) ≡ true
none_counted zero f e = refl
none_counted (suc n) f e =
    bit (f n) (λ i. let z : suc (tally n f) ≡ 0 = subst (λ (b : Bool). count b (tally n f) ≡ 0) i e in absurd (omega arith))
    (λ i. rw i (none_counted n f (subst (λ (b : Bool). count b (tally n f) ≡ 0) i e)))

pub counted_none : (n : ℕ) (f : ℕ → Bool) → below n (λ q. not (f q)) ≡ true → tally n f ≡ 0
counted_none zero f e = refl
counted_none (suc n) f e =
    let z = and_out (not (f n)) (below n (λ q. not (f q))) e in
    ap (λ (b : Bool). count b (tally n f)) (not_out (f n) z.0) ∙ counted_none n f z.1
