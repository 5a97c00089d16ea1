-- The columns with a bit in a high plane, collected plane by plane. Assumes nothing.
use mathlib.Core.Path.{◌≡◌, sym, ap, ◌∙◌}
use mathlib.Core.Bool.{true, false, ◌||◌}
use mathlib.Core.Logic.{⊎_elim}
use mathlib.Core.List.{List}
use Prim.Native.Nat.{ℕ, ◌+◌, ◌≤◌, ◌<◌}
use native.Mathlib.Omega.{arith}
use lib.Bits.{bit_and, bit_or}
use lib.ListN.{get_or}
use Rattle.binary.specs.Words.{bit}
use Rattle.binary.proofs.Bits as laws
use Rattle.binary.proofs.WordBits.{order, bit-bit_or, bit-bit_and, bit_zero}
use Rattle.columns.specs.Planes.{planes}
use Rattle.choosing.specs.Choosing.{Tall}

pub tall_start : (m : List ℕ) (at : ℕ) → Tall at 4 m 0
tall_start m at b p low high e = absurd (omega arith)

pub tall_more : (m : List ℕ) (at e r : ℕ) → Tall at e m r → Tall at (e + 1) m (bit_or r (get_or m (at + e) 0))
unfolding planes
tall_more m at e r t b p low high none =
    ⊎_elim
    (λ (h : p < e). t b p low h (laws.bit (bit r b) (λ i. laws.never (laws.or_left (bit (get_or m (at + e) 0) b) i) neither) (λ i. i)))
    (λ (h : e ≤ p). let d : p ≡ e = omega arith in
    rw d (laws.bit (bit (get_or m (at + e) 0) b) (λ i. laws.never (laws.or_right (bit r b) i) neither) (λ i. i)))
    (order p e)
  where
    neither : (bit r b || bit (get_or m (at + e) 0) b) ≡ false
    neither = sym (bit-bit_or r (get_or m (at + e) 0) b) ∙ none

-- A word with no tall column.
pub none_tall : (m : List ℕ) (at word r : ℕ) → Tall at 10 m r → bit_and word r ≡ 0
    → (b : ℕ) → bit word b ≡ true → (p : ℕ) → 4 ≤ p → p < 10 → planes m at b p ≡ false
none_tall m at word r t none b has p low high =
    t b p low high (laws.bit (bit r b) (λ i. laws.never (laws.and_in has i) (sym (bit-bit_and word r b) ∙ ap (λ (x : ℕ). bit x b) none ∙ bit_zero b)) (λ i. i))
