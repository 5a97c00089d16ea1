-- The rank of rows, as linear algebra has it (document 02, request i).
--   chosen       the rows that a choice takes
--   Independent  no product of some of the rows is empty
--   product?     whether a set is a product of the rows
--   rank         the number of rows that are no product of the rows after them
--   Ranked       the rank is the number of rows in a largest choice of independent rows; every choice that no row can join has as many
--   RankLaw      so it is of all rows
use Rattle.std.specs.Prelude.{◌≡◌, Bool, true, false, not, ℕ, suc, ◌≤◌, ◌<◌, length}
use Rattle.std.specs.Bool.{beq}
use mathlib.Core.List.{List, [], ◌∷◌, Memᴰ}
use Rattle.binary.specs.Bits.{below, count}
use Rattle.binary.specs.Meaning.{Qubits, Row, Below, has, product, any_product}

-- The row first, if it is taken.
abbrev pub chosen_if : Bool → Row → List Row → List Row
chosen_if true r rs = r ∷ rs
chosen_if false r rs = rs

abbrev pub chosen : List Row → (ℕ → Bool) → List Row
chosen [] c = []
chosen (r ∷ rs) c = chosen_if (c 0) r (chosen rs (λ i. c (suc i)))

-- Where a product is empty, none of the rows is in it.
abbrev pub Independent : List Row → Type 0
Independent rs = (c : ℕ → Bool) → ((q : ℕ) → product rs c q ≡ false) → (i : ℕ) → i < length rs → c i ≡ false

-- Qubits below n are looked at.
unfoldable pub product? : ℕ → List Row → Qubits → Bool
product? n rs s = any_product rs (λ t. below n (λ q. beq (s q) (t q)))

unfoldable pub rank : ℕ → List Row → ℕ
rank n [] = 0
rank n (r ∷ rs) = count (not (product? n rs (has r))) (rank n rs)

pub record Ranked (n : ℕ) (rs : List Row) : Type 0 where
  pub largest : (c : ℕ → Bool) × Independent (chosen rs c) × (length (chosen rs c) ≡ rank n rs)
  pub most : (c : ℕ → Bool) → Independent (chosen rs c) → length (chosen rs c) ≤ rank n rs
  pub every : (c : ℕ → Bool) → Independent (chosen rs c) → ((r : Row) → Memᴰ r rs → Independent (r ∷ chosen rs c) → ⊥)
      → length (chosen rs c) ≡ rank n rs

unfoldable pub RankLaw : Type 0
RankLaw = (n : ℕ) (rs : List Row) → Below n rs → Ranked n rs
