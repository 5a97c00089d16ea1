-- Bits: the field of two elements, finite tests and sums.
--   _⊕_      the sum of two bits, modulo 2
--   below    a test that passes at every number below n
--   tally    how many numbers below n pass a test
--   weigh    the sum of the weights of those that do
--   summed   the numbers of a list added up, each with its weight
use Rattle.std.specs.Prelude.{Bool, true, false, ◌&&◌, cond, List, [], ◌∷◌, ℕ, zero, suc, ◌+◌}

infixl 40 ◌⊕◌
abbrev pub ◌⊕◌ : Bool → Bool → Bool
true ⊕ true = false
true ⊕ false = true
false ⊕ b = b

abbrev pub below : ℕ → (ℕ → Bool) → Bool
below zero f = true
below (suc n) f = f n && below n f

-- One more where the bit is 1.
abbrev pub count : Bool → ℕ → ℕ
count true n = suc n
count false n = n

abbrev pub tally : ℕ → (ℕ → Bool) → ℕ
tally zero f = 0
tally (suc n) f = count (f n) (tally n f)

abbrev pub weigh : (ℕ → ℕ) → ℕ → (ℕ → Bool) → ℕ
weigh f zero t = 0
weigh f (suc n) t = cond (t n) (f n) 0 + weigh f n t

abbrev pub summed : (ℕ → ℕ) → List ℕ → ℕ
summed w [] = 0
summed w (q ∷ l) = w q + summed w l
