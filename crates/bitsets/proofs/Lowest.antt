-- The lowest bit of a word: what the count of trailing zeros finds. Assumes nothing.
use mathlib.Core.Path.{◌≡◌, ◌∙◌}
use mathlib.Core.Bool.{true, false}
use mathlib.Core.Logic.{◌⊎◌, inl, inr}
use Prim.Native.Nat.{ℕ, zero, suc, ◌/◌, ◌%◌, ◌^◌, ◌≤◌, ◌<◌}
use native.Mathlib.Nat.{pow-succ'}
use native.Mathlib.Omega.{arith}
use lib.Count.{under, count_trailing_zeros}
use Rattle.binary.specs.Words.{bit}
use Rattle.binary.proofs.WordBits.{parity}
use Rattle.binary.proofs.NumberBits.{bit_first, bit_next}

pub zeros_below : (k n j : ℕ) → j < count_trailing_zeros k n → bit n j ≡ false
unfolding count_trailing_zeros
zeros_below zero n j h = absurd (omega arith)
zeros_below (suc k) n j h = by (parity n) (zeros_below k (n / 2)) j h
  where
    by : (n % 2 ≡ 0) ⊎ (n % 2 ≡ 1) → ((i : ℕ) → i < count_trailing_zeros k (n / 2) → bit (n / 2) i ≡ false)
        → (i : ℕ) → i < under (n % 2) (count_trailing_zeros k (n / 2)) → bit n i ≡ false
    by (inl e) rest zero i = rw (bit_first n, e)
    by (inl e) rest (suc j) i = let l : suc j < suc (count_trailing_zeros k (n / 2)) = rw e at i in bit_next n j ∙ rest j (omega arith)
    by (inr e) rest j i = let l : j < 0 = rw e at i in absurd (omega arith)

pub one_after : (k n : ℕ) → count_trailing_zeros k n < k → bit n (count_trailing_zeros k n) ≡ true
unfolding count_trailing_zeros
one_after zero n h = absurd (omega arith)
one_after (suc k) n h = by (parity n) (one_after k (n / 2)) h
  where
    by : (n % 2 ≡ 0) ⊎ (n % 2 ≡ 1) → (count_trailing_zeros k (n / 2) < k → bit (n / 2) (count_trailing_zeros k (n / 2)) ≡ true)
        → under (n % 2) (count_trailing_zeros k (n / 2)) < suc k → bit n (under (n % 2) (count_trailing_zeros k (n / 2))) ≡ true
    by (inl e) rest i = let l : suc (count_trailing_zeros k (n / 2)) < suc k = rw e at i in rw e (bit_next n (count_trailing_zeros k (n / 2)) ∙ rest (omega arith))
    by (inr e) rest i = rw e (bit_first n ∙ rw e)

pub zeros_few : (k n : ℕ) → 1 ≤ n → n < 2 ^ k → count_trailing_zeros k n < k
unfolding count_trailing_zeros
zeros_few zero n h i = absurd (omega arith)
zeros_few (suc k) n h i = by (parity n) (zeros_few k (n / 2))
  where
    by : (n % 2 ≡ 0) ⊎ (n % 2 ≡ 1) → (1 ≤ n / 2 → n / 2 < 2 ^ k → count_trailing_zeros k (n / 2) < k) → under (n % 2) (count_trailing_zeros k (n / 2)) < suc k
    by (inl e) rest =
        let d = pow-succ' 2 k in
        let l = rest (omega arith) (omega arith) in
        rw e (omega arith)
    by (inr e) rest = rw e (omega arith)
