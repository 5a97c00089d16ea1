-- The lowest number of a set, looked for word by word. Assumes nothing.
use mathlib.Core.Path.{◌≡◌, sym, ap, ap₂, ◌∙◌}
use mathlib.Core.Bool.{true, false}
use mathlib.Core.Logic.{⊎_elim}
use mathlib.Core.List.{List}
use Prim.Native.Nat.{ℕ, ◌+◌, ◌-◌, ◌*◌, ◌/◌, ◌%◌, ◌^◌, ◌≤◌, ◌<◌}
use native.Mathlib.Nat.{lt_of_le_of_lt}
use native.Mathlib.Omega.{arith}
use lib.Count.{count_trailing_zeros}
use lib.Pow.{shr_le}
use lib.ListN.{length, get_or, get_or-eq_default}
use Rattle.binary.specs.Words.{bit}
use Rattle.binary.proofs.Bits.{never}
use Rattle.binary.proofs.WordBits.{order, bit_shr, bit_zero, bit_past}
use Rattle.bitsets.specs.Bitsets.{in_set, NextIn}
use Rattle.bitsets.proofs.Lowest.{zeros_below, one_after, zeros_few}

-- No number from `from` on below j is in the set.
unfoldable pub Passed : List ℕ → ℕ → ℕ → ℕ → Type 0
Passed words s from j = (i : ℕ) → from ≤ i → i < j → in_set words s i ≡ false

pub passed_start : (words : List ℕ) (s from : ℕ) → Passed words s from from
unfolding Passed
passed_start words s from i h l = absurd (omega arith)

pub passed_end : (words : List ℕ) (s from end j : ℕ) → Passed words s from j → end ≤ j → NextIn words s from end end
unfolding Passed
passed_end words s from end j p h = record { within = λ i. (i, omega arith); skipped = λ i a b. p i a (omega arith); found = λ i. absurd (omega arith) }

module _ (words : List ℕ) (s j k : ℕ) (is : k ≡ 8 * s + j / 64) where
  -- A word's numbers from j on are the bits of what is left of it.
  at_bit : (i : ℕ) → j ≤ i → i < 64 * (j / 64 + 1) → in_set words s i ≡ bit (get_or words k 0 / 2 ^ (j % 64)) (i - j)
  unfolding in_set
  at_bit i a b =
      let d : 8 * s + i / 64 ≡ k = omega arith in
      let e : i % 64 ≡ j % 64 + (i - j) = omega arith in
      ap₂ (λ (x y : ℕ). bit (get_or words x 0) y) d e ∙ sym (bit_shr (get_or words k 0) (j % 64) (i - j))

  -- Past the list no number is in the set.
  pub passed_list : (from end : ℕ) → Passed words s from j → length words ≤ k → NextIn words s from end end
  unfolding Passed in_set
  passed_list from end p h =
      record {
        within = λ i. (i, omega arith);
        skipped = λ i a b. ⊎_elim (p i a) (λ (l : j ≤ i). let m : length words ≤ 8 * s + i / 64 = omega arith in rw (get_or-eq_default {A = ℕ} words 0 m) (bit_zero (i % 64))) (order i j);
        found = λ i. absurd (omega arith);
      }

  module _ (rest : ℕ) (left : rest ≡ get_or words k 0 / 2 ^ (j % 64)) where
    pub passed_word : (from : ℕ) → Passed words s from j → rest ≡ 0 → Passed words s from (64 * (j / 64 + 1))
    unfolding Passed
    passed_word from p z i a b =
        ⊎_elim (p i a) (λ (l : j ≤ i). at_bit i l b ∙ ap (λ (x : ℕ). bit x (i - j)) (sym left ∙ z) ∙ bit_zero (i - j)) (order i j)

    module _ (word : get_or words k 0 < 2 ^ 64) (some : rest ≡ 0 → ⊥) where
      fits : rest < 2 ^ 64
      fits = rw left (lt_of_le_of_lt (shr_le (get_or words k 0) (j % 64)) word)

      some_bit : 1 ≤ rest
      some_bit = omega arith

      abbrev zeros : ℕ
      zeros = count_trailing_zeros 64 rest

      one : bit rest zeros ≡ true
      one = one_after 64 rest (zeros_few 64 rest some_bit fits)

      inside : j + zeros < 64 * (j / 64 + 1)
      inside = ⊎_elim (λ (l : j % 64 + zeros < 64). omega arith) (λ (l : 64 ≤ j % 64 + zeros). never one (past l)) (order (j % 64 + zeros) 64)
        where
          past : 64 ≤ j % 64 + zeros → bit rest zeros ≡ false
          past l = ap (λ (x : ℕ). bit x zeros) left ∙ bit_shr (get_or words k 0) (j % 64) zeros ∙ bit_past (get_or words k 0) 64 (j % 64 + zeros) word l

      pub few_zeros : count_trailing_zeros 64 rest < 64
      few_zeros = zeros_few 64 rest some_bit fits

      low : (i : ℕ) → j ≤ i → i < j + zeros → in_set words s i ≡ false
      low i a b =
          let l = inside in
          at_bit i a (omega arith) ∙ ap (λ (x : ℕ). bit x (i - j)) (sym left) ∙ zeros_below 64 rest (i - j) (omega arith)

      at_found : in_set words s (j + zeros) ≡ true
      at_found =
          let e : j + zeros - j ≡ zeros = omega arith in
          at_bit (j + zeros) (omega arith) inside ∙ ap₂ bit (sym left) e ∙ one

      skipped_all : (from : ℕ) → Passed words s from j → Passed words s from (j + zeros)
      unfolding Passed
      skipped_all from p i a b = ⊎_elim (p i a) (λ (l : j ≤ i). low i l b) (order i j)

      pub passed_beyond : (from end found : ℕ) → Passed words s from j → found ≡ j + count_trailing_zeros 64 rest → end ≤ found → NextIn words s from end end
      passed_beyond from end found p e h = passed_end words s from end (j + zeros) (skipped_all from p) (rw (← e) h)

      pub passed_found : (from end found : ℕ) → Passed words s from j → found ≡ j + count_trailing_zeros 64 rest → from ≤ j → found < end → NextIn words s from end found
      unfolding Passed
      passed_found from end found p e i h =
          record {
            within = λ l. (omega arith, omega arith);
            skipped = λ q a b. skipped_all from p q a (rw (← e) b);
            found = λ l. rw e at_found;
          }
