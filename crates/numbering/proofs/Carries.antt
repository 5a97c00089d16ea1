-- A carry through the planes of 64 numbers. Assumes nothing.
use mathlib.Core.Path.{◌≡◌, refl, ap, ◌∙◌}
use mathlib.Core.Bool.{Bool, true, false, cond, ◌&&◌}
use mathlib.Core.Logic.{◌⊎◌, inl, inr, ⊎_elim}
use mathlib.Core.List.{List}
use Prim.Native.Nat.{ℕ, ◌+◌, ◌*◌, ◌^◌, ◌≤◌, ◌<◌}
use native.Mathlib.Nat.{pow-succ'}
use native.Mathlib.Numerals.{add-one}
use native.Mathlib.Omega.{arith}
use lib.Bits.{bit_and, bit_xor}
use lib.ListN.{length, length-set, get_or, set}
use lib.Seq.{get_or-set_same, get_or-set_other}
use Rattle.binary.specs.Bits.{◌⊕◌}
use Rattle.binary.specs.Words.{bit}
use Rattle.binary.proofs.Bits.{below_out}
use Rattle.binary.proofs.WordBits.{bit-bit_xor, bit-bit_and, bit_zero}
use Rattle.columns.specs.Planes.{planes, number_at, Carried, number}
use Rattle.binary.proofs.Weights.{weigh_change}
use Rattle.columns.proofs.Numbers.{number_at_lem}
use Rattle.numbering.specs.Numbering.{Rippled, Counted}

carried_none : (d : Bool) (x y : ℕ) → Carried d x x y y
carried_none false x y = refl
carried_none true x y = refl

pub rippled_none : (at from first other : ℕ) (m : List ℕ) → Rippled at from from first other m m first
rippled_none at from first other m =
    record { long = refl; sums = λ e b h. carried_none (bit other b) _ _; kept = λ k h. refl }

-- One plane more: its bit t and the carry c become their sum, and the carry goes on where both are 1, or, downwards, where c alone is.
carried_more : (t c d : Bool) (x y into a b b' : ℕ) → y ≡ 2 * x → Carried d into (cond c x 0) a b
    → b' + cond t x 0 ≡ b + cond (t ⊕ c) x 0 → Carried d into (cond (c && (t ⊕ d)) y 0) a b'
carried_more true true true x y into a b b' e s h = omega (arith, e, s, h)
carried_more true true false x y into a b b' e s h = omega (arith, e, s, h)
carried_more true false true x y into a b b' e s h = omega (arith, e, s, h)
carried_more true false false x y into a b b' e s h = omega (arith, e, s, h)
carried_more false true true x y into a b b' e s h = omega (arith, e, s, h)
carried_more false true false x y into a b b' e s h = omega (arith, e, s, h)
carried_more false false true x y into a b b' e s h = omega (arith, e, s, h)
carried_more false false false x y into a b b' e s h = omega (arith, e, s, h)

-- Plane p becomes its sum with the carry.
plane_changed : (at p carry : ℕ) (m : List ℕ) → at + p < length m → (e b : ℕ) → p < e
    → number_at (set m (at + p) (bit_xor (get_or m (at + p) 0) carry)) at b e + cond (bit (get_or m (at + p) 0) b) (2 ^ p) 0
    ≡ number_at m at b e + cond (bit (get_or m (at + p) 0) b ⊕ bit carry b) (2 ^ p) 0
unfolding planes
plane_changed at p carry m room e b h =
    weigh_change (λ q. 2 ^ q) e p (planes m at b) (planes (set m (at + p) v) at b) h
    (λ q n l. ap (λ (x : ℕ). bit x b) (get_or-set_other m (at + p) (at + q) v 0 (λ e. n (omega arith))))
    ∙ ap (λ (x : Bool). number_at m at b e + cond x (2 ^ p) 0)
    (ap (λ (x : ℕ). bit x b) (get_or-set_same m (at + p) v 0 room) ∙ bit-bit_xor (get_or m (at + p) 0) carry b)
  where
    v : ℕ
    v = bit_xor (get_or m (at + p) 0) carry

pub rippled_more : (at from p first other : ℕ) (m₀ m : List ℕ) (carry : ℕ) → Rippled at from p first other m₀ m carry → from ≤ p → at + p < length m
    → Rippled at from (p + 1) first other m₀ (set m (at + p) (bit_xor (get_or m (at + p) 0) carry)) (bit_and carry (bit_xor (get_or m (at + p) 0) other))
rippled_more at from p first other m₀ m carry s low room =
    record {
      long = length-set m (at + p) v ∙ s.long;
      sums = λ e b h. rw (bit-bit_and carry (bit_xor old other) b, bit-bit_xor old other b)
          (carried_more (bit old b) (bit carry b) (bit other b) (2 ^ p) (2 ^ (p + 1)) _ _ _ _ (rw add-one (pow-succ' 2 p)) (s.sums e b (omega arith))
          (plane_changed at p carry m room e b (omega arith)));
      kept = λ k h. get_or-set_other m (at + p) k v 0 (λ e. ⊎_elim (λ (l : k < at + from). omega arith) (λ (l : at + (p + 1) ≤ k). omega arith) h)
          ∙ s.kept k (⊎_elim (λ l. inl l) (λ (l : at + (p + 1) ≤ k). inr (omega arith)) h);
    }
  where
    old : ℕ
    old = get_or m (at + p) 0

    v : ℕ
    v = bit_xor (get_or m (at + p) 0) carry

carried_then : (d : Bool) (into between out a b c : ℕ) → Carried d into between a b → Carried d between out b c → Carried d into out a c
carried_then false into between out a b c s t = omega (arith, s, t)
carried_then true into between out a b c s t = omega (arith, s, t)

----------------------------------------------------------------------
-- The numbers of the columns of a word

-- No column of the word is to be counted.
pub counted_nothing : (k weight bits : ℕ) (down : ℕ → Bool) (m : List ℕ) → bits ≡ 0 → Counted k weight bits down m m
counted_nothing k weight bits down m z =
    record {
      long = refl;
      sums = λ b h. (false, rw (z, bit_zero b) (carried_none (down b) 0 (number m (64 * k + b))));
      kept = λ j h. refl;
    }

-- The bits of 2 ^ 64 - 1.
all_ones : (b : ℕ) → b < 64 → bit 18446744073709551615 b ≡ true
unfolding bit
all_ones b h = below_out 64 (bit 18446744073709551615) refl b h

-- The other word has every column.
pub counted_down : (k weight bits : ℕ) (m m' : List ℕ) → Counted k weight bits (bit 18446744073709551615) m m' → Counted k weight bits (λ b. true) m m'
counted_down k weight bits m m' v = record { long = v.long; sums = λ b h. rw (all_ones b h) at (v.sums b h); kept = v.kept }

-- From plane `from` on.
module _ (k from bits other : ℕ) (m m' : List ℕ) (carry : ℕ) (s : Rippled (8192 + 16 * k) from 4 bits other m m' carry) where
  counted : (m'' : List ℕ) (r : ℕ → Bool) → length m'' ≡ length m
      → ((b : ℕ) → Carried (bit other b) (cond (bit bits b) (2 ^ from) 0) (cond (r b) 1024 0) (number_at m (8192 + 16 * k) b 10) (number_at m'' (8192 + 16 * k) b 10))
      → ((j : ℕ) → (j < 8192 + 16 * k) ⊎ (8192 + 16 * k + 16 ≤ j) → get_or m'' j 0 ≡ get_or m j 0) → Counted k (2 ^ from) bits (bit other) m m''
  counted m'' r long sums kept =
      record { long = long; sums = λ b h. (r b, rw (number_at_lem m k b h, number_at_lem m'' k b h) (sums b)); kept = kept }

  outside : (j : ℕ) → (j < 8192 + 16 * k) ⊎ (8192 + 16 * k + 16 ≤ j) → get_or m' j 0 ≡ get_or m j 0
  outside j h = s.kept j (⊎_elim (λ (l : j < 8192 + 16 * k). inl (omega arith)) (λ (l : 8192 + 16 * k + 16 ≤ j). inr (omega arith)) h)

  -- Nothing goes on to the fifth plane.
  pub counted_low : carry ≡ 0 → Counted k (2 ^ from) bits (bit other) m m'
  counted_low z =
      counted m' (λ b. false) s.long (λ b. rw (z, bit_zero b) at (s.sums 10 b (omega arith))) outside

  pub counted_high : (m'' : List ℕ) (r : ℕ) → Rippled (8192 + 16 * k) 4 10 carry other m' m'' r → Counted k (2 ^ from) bits (bit other) m m''
  counted_high m'' r t =
      counted m'' (bit r) (t.long ∙ s.long)
      (λ b. carried_then (bit other b) _ (cond (bit carry b) 16 0) _ _ (number_at m' (8192 + 16 * k) b 10) _ (s.sums 10 b (omega arith)) (t.sums 10 b (omega arith)))
      (λ j h. t.kept j (⊎_elim (λ (l : j < 8192 + 16 * k). inl (omega arith)) (λ (l : 8192 + 16 * k + 16 ≤ j). inr (omega arith)) h) ∙ outside j h)
