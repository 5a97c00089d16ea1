-- The columns of a word, narrowed plane by plane to the shortest ones. Assumes nothing.
use mathlib.Core.Path.{◌≡◌, refl, sym, ap, ◌∙◌}
use mathlib.Core.Bool.{Bool, true, false, ◌&&◌, cond}
use mathlib.Core.List.{List}
use Prim.Native.Nat.{ℕ, ◌+◌, ◌*◌, ◌^◌, ◌≤◌, ◌<◌}
use native.Mathlib.Nat.{lt_of_le_of_lt}
use native.Mathlib.Decide.{ℕ_discrete}
use native.Mathlib.Omega.{arith}
use lib.Bits.{bit_and, bit_xor, and_le_l, xor_lt}
use lib.Count.{count_trailing_zeros}
use lib.ListN.{get_or}
use Rattle.binary.specs.Bits.{◌⊕◌}
use Rattle.binary.specs.Words.{bit}
use Rattle.binary.proofs.Bits as laws
use Rattle.binary.proofs.WordBits.{bit-bit_xor, bit-bit_and, bit_zero}
use Rattle.bitsets.proofs.Lowest.{zeros_below, one_after, zeros_few}
use Rattle.columns.specs.Planes.{planes}
use Rattle.choosing.specs.Choosing.{Least}
use Rattle.choosing.proofs.Planes.{upper, upper_none, upper_zero, upper_more, upper_few, number_upper}

-- Of the columns of a word, `mask` has those whose planes from p on make the least number, `rows`.
pub record Narrowed (m : List ℕ) (at word mask rows p : ℕ) : Type 0 where
  pub some : 1 ≤ mask
  pub fits : mask < 2 ^ 64
  pub each : (b : ℕ) → bit mask b ≡ true → (bit word b ≡ true) × (upper (planes m at b) p ≡ rows)
  pub all : (b : ℕ) → bit word b ≡ true → upper (planes m at b) p ≡ rows → bit mask b ≡ true
  pub least : (b : ℕ) → bit word b ≡ true → rows ≤ upper (planes m at b) p

pub narrowed_start : (m : List ℕ) (at word : ℕ) → 1 ≤ word → word < 2 ^ 64 → Narrowed m at word word 0 10
narrowed_start m at word some fits =
    record {
      some = some;
      fits = fits;
      each = λ b h. (h, upper_none (planes m at b));
      all = λ b h e. h;
      least = λ b h. omega arith;
    }

-- The planes from 4 on are 0.
pub narrowed_low : (m : List ℕ) (at word : ℕ) → 1 ≤ word → word < 2 ^ 64
    → ((b : ℕ) → bit word b ≡ true → (p : ℕ) → 4 ≤ p → p < 10 → planes m at b p ≡ false) → Narrowed m at word word 0 4
narrowed_low m at word some fits low =
    record {
      some = some;
      fits = fits;
      each = λ b h. (h, upper_zero (planes m at b) 4 (low b h));
      all = λ b h e. h;
      least = λ b h. omega arith;
    }

-- One plane more, the one below.
module _ (m : List ℕ) (at word mask rows p q : ℕ) (next : q + 1 ≡ p) (few : q < 10) (s : Narrowed m at word mask rows p) where
  -- Of the columns narrowed to, those without the plane's bit.
  abbrev short : ℕ
  short = bit_xor mask (bit_and mask (get_or m (at + q) 0))

  short_bit : (b : ℕ) → bit short b ≡ bit mask b ⊕ (bit mask b && planes m at b q)
  unfolding planes
  short_bit b =
      bit-bit_xor mask (bit_and mask (get_or m (at + q) 0)) b ∙ ap (λ (x : Bool). bit mask b ⊕ x) (bit-bit_and mask (get_or m (at + q) 0) b)

  less : (x y : Bool) → x ⊕ (x && y) ≡ true → (x ≡ true) × (y ≡ false)
  less true true e = laws.never refl (sym e)
  less true false e = (refl, refl)
  less false y e = laws.never refl (sym e)

  from_short : (b : ℕ) → bit short b ≡ true → (bit mask b ≡ true) × (planes m at b q ≡ false)
  from_short b e = less (bit mask b) (planes m at b q) (sym (short_bit b) ∙ e)

  to_short : (b : ℕ) → bit mask b ≡ true → planes m at b q ≡ false → bit short b ≡ true
  to_short b d e = short_bit b ∙ rw (d, e)

  more : (b : ℕ) → upper (planes m at b) q ≡ 2 * upper (planes m at b) p + cond (planes m at b q) 1 0
  more b = upper_more (planes m at b) q few ∙ ap (λ (x : ℕ). 2 * upper (planes m at b) x + cond (planes m at b q) 1 0) next

  with_bit : (b : ℕ) → planes m at b q ≡ true → upper (planes m at b) q ≡ 2 * upper (planes m at b) p + 1
  with_bit b e = more b ∙ rw e

  without_bit : (b : ℕ) → planes m at b q ≡ false → upper (planes m at b) q ≡ 2 * upper (planes m at b) p
  without_bit b e = more b ∙ rw e (omega arith)

  -- Every column narrowed to has the bit.
  pub narrowed_all : short ≡ 0 → Narrowed m at word mask (2 * rows + 1) q
  narrowed_all none =
      record {
        some = s.some;
        fits = s.fits;
        each = λ b e. ((s.each b e).0, omega (arith, with_bit b (has b e), (s.each b e).1));
        all = λ b d e. laws.bit (planes m at b q) (λ i. s.all b d (omega (arith, with_bit b i, e))) (λ i. absurd (omega (arith, without_bit b i, e)));
        least = λ b d. at_least b d (ℕ_discrete (upper (planes m at b) p) rows);
      }
    where
      has : (b : ℕ) → bit mask b ≡ true → planes m at b q ≡ true
      has b e = laws.bit (planes m at b q) (λ i. i) (λ i. laws.never (to_short b e i) (ap (λ (x : ℕ). bit x b) none ∙ bit_zero b))

      at_least : (b : ℕ) → bit word b ≡ true → Dec (upper (planes m at b) p ≡ rows) → 2 * rows + 1 ≤ upper (planes m at b) q
      at_least b d (yes e) = omega (arith, with_bit b (has b (s.all b d e)), e)
      at_least b d (no e) = omega (arith, more b, s.least b d, e)

  -- The columns without the bit are the shorter ones.
  pub narrowed_short : (short ≡ 0 → ⊥) → Narrowed m at word short (2 * rows) q
  narrowed_short some =
      record {
        some = omega arith;
        fits = xor_lt 64 mask (bit_and mask (get_or m (at + q) 0)) s.fits (lt_of_le_of_lt (and_le_l mask (get_or m (at + q) 0)) s.fits);
        each = λ b e. let d = from_short b e in ((s.each b d.0).0, omega (arith, without_bit b d.1, (s.each b d.0).1));
        all = λ b d e. laws.bit (planes m at b q) (λ i. absurd (omega (arith, with_bit b i, e))) (λ i. to_short b (s.all b d (omega (arith, without_bit b i, e))) i);
        least = λ b d. omega (arith, more b, s.least b d);
      }

module _ (m : List ℕ) (at word mask rows p : ℕ) (s : Narrowed m at word mask rows p) where
  pub few_zeros : count_trailing_zeros 64 mask < 64
  few_zeros = zeros_few 64 mask s.some s.fits

  one : bit mask (count_trailing_zeros 64 mask) ≡ true
  one = one_after 64 mask few_zeros

  pub few_rows : rows < 1024
  few_rows = omega (arith, upper_few (planes m at (count_trailing_zeros 64 mask)) p, (s.each (count_trailing_zeros 64 mask) one).1)

-- All planes have been looked at.
pub narrowed_end : (m : List ℕ) (k word mask rows : ℕ) → Narrowed m (8192 + 16 * k) word mask rows 0
    → Least k word m (record { column = 64 * k + count_trailing_zeros 64 mask; rows = rows })
narrowed_end m k word mask rows s =
    record {
      place = count_trailing_zeros 64 mask;
      within = few;
      column = refl;
      has_it = first.0;
      counted = number_upper m k (count_trailing_zeros 64 mask) few ∙ first.1;
      least = λ b h e. omega (arith, number_upper m k b h, s.least b e);
      lowest = λ b h e. let longer : upper (planes m (8192 + 16 * k) b) 0 ≡ rows → ⊥ = λ d. laws.never (s.all b e d) (zeros_below 64 mask b h) in
          omega (arith, number_upper m k b (omega (arith, few)), s.least b e, longer);
    }
  where
    few : count_trailing_zeros 64 mask < 64
    few = few_zeros m (8192 + 16 * k) word mask rows 0 s

    first : (bit word (count_trailing_zeros 64 mask) ≡ true) × (upper (planes m (8192 + 16 * k) (count_trailing_zeros 64 mask)) 0 ≡ rows)
    first = s.each (count_trailing_zeros 64 mask) (one m (8192 + 16 * k) word mask rows 0 s)
