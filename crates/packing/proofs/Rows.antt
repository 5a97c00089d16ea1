-- Rows of w words: a bit set in a row, and rows that stay. Assumes nothing.
use mathlib.Core.Path.{◌≡◌, refl, sym, ap, ap₂, ◌∙◌}
use mathlib.Core.Bool.{Bool, true, false, ◌||◌}
use mathlib.Core.Logic.{◌⊎◌, inl, inr, ⊎_elim}
use mathlib.Core.List.{List}
use Prim.Native.Nat.{ℕ, suc, ◌+◌, ◌*◌, ◌/◌, ◌%◌, ◌^◌, ◌≤◌, ◌<◌}
use native.Mathlib.Nat.{suc-mul, mul-le-mul, mul-le-mul_right}
use native.Mathlib.Decide.{ℕ_discrete}
use native.Mathlib.Omega.{arith}
use borrow.Author.Tests.{ne_eqb}
use lib.Dec.{eqb}
use lib.Bits.{bit_or}
use lib.ListN.{length, get_or, set}
use lib.Seq.{get_or-set_same, get_or-set_other}
use Rattle.binary.specs.Words.{bit}
use Rattle.binary.proofs.WordBits.{order, bit_set, same_digit}
use Rattle.packing.specs.Packed.{cell}
use Rattle.packing.specs.Packing.{BitsSet}

----------------------------------------------------------------------
-- Rows of w words

pub few_words : (i w : ℕ) → i ≤ 512 → w ≤ 16 → i * w ≤ 8192
few_words i w a b = mul-le-mul {n₁ = i} {m₁ = w} {n₂ = 512} {m₂ = 16} a b

pub apart : (w i j : ℕ) → i < j → i * w + w ≤ j * w
apart w i j h = omega (arith, suc-mul i w, mul-le-mul_right {m = suc i} {n = j} w h)

-- A word of another row lies before row i, or behind it.
pub beside : (w i j c : ℕ) → (j ≡ i → ⊥) → c < 64 * w → (j * w + c / 64 < i * w) ⊎ (i * w + w ≤ j * w + c / 64)
beside w i j c n h =
    ⊎_elim (λ (p : j < i). inl (omega (arith, apart w j i p))) (λ (p : i ≤ j). inr (omega (arith, apart w i j (omega arith)))) (order j i)

-- Words that changed in row i alone.
pub other_cells : (w i : ℕ) (m m' : List ℕ) → ((k : ℕ) → (k < i * w) ⊎ (i * w + w ≤ k) → get_or m' k 0 ≡ get_or m k 0)
    → (j c : ℕ) → (j ≡ i → ⊥) → c < 64 * w → cell m' w j c ≡ cell m w j c
unfolding cell
other_cells w i m m' kept j c n h = ap (λ (x : ℕ). bit x (c % 64)) (kept (j * w + c / 64) (beside w i j c n h))

----------------------------------------------------------------------
-- A bit set in a row

or_none : (b : Bool) → b ≡ (b || false)
or_none true = refl
or_none false = refl

pub bit_set_row : (w i q : ℕ) (m : List ℕ) → q / 64 < w → i * w + w ≤ length m
    → BitsSet w i (eqb q) m (set m (i * w + q / 64) (bit_or (get_or m (i * w + q / 64) 0) (1 * 2 ^ (q % 64) % 2 ^ 64)))
unfolding cell
bit_set_row w i q m h l =
    record {
      cells = λ c b. go c b (ℕ_discrete (c / 64) (q / 64));
      kept = λ k s. get_or-set_other m at k v 0 (λ e. ⊎_elim (λ (p : k < i * w). omega arith) (λ (p : i * w + w ≤ k). omega arith) s);
    }
  where
    at : ℕ
    at = i * w + q / 64

    v : ℕ
    v = bit_or (get_or m (i * w + q / 64) 0) (1 * 2 ^ (q % 64) % 2 ^ 64)

    go : (c : ℕ) → c < 64 * w → Dec (c / 64 ≡ q / 64) → cell (set m at v) w i c ≡ (cell m w i c || eqb q c)
    go c b (yes e) =
        ap (λ (x : ℕ). bit (get_or (set m at v) (i * w + x) 0) (c % 64)) e
        ∙ ap (λ (x : ℕ). bit x (c % 64)) (get_or-set_same m at v 0 (omega arith))
        ∙ bit_set (get_or m at 0) (q % 64) (c % 64) (omega arith)
        ∙ ap₂ ◌||◌ (ap (λ (x : ℕ). bit (get_or m (i * w + x) 0) (c % 64)) (sym e)) (same_digit q c e)
    go c b (no f) =
        ap (λ (x : ℕ). bit x (c % 64)) (get_or-set_other m at (i * w + c / 64) v 0 (λ e. f (omega arith)))
        ∙ or_none (cell m w i c) ∙ ap (λ (x : Bool). cell m w i c || x) (sym (ne_eqb q c (λ e. f (ap (λ (x : ℕ). x / 64) (sym e)))))

-- A bit that the row does not reach.
pub bit_past_row : (w i q : ℕ) (m : List ℕ) → w ≤ q / 64 → BitsSet w i (eqb q) m m
bit_past_row w i q m h =
    record {
      cells = λ c b. or_none (cell m w i c) ∙ ap (λ (x : Bool). cell m w i c || x) (sym (ne_eqb q c (λ e. omega arith)));
      kept = λ k s. refl;
    }
