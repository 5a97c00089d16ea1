-- Classes of errors on the lost set.
--   Commuting   each check's row is even with each row of the other kind
--   Reduced     a member of an error's class that is zero on the fixed qubits
--   ClassLaw    every error on the lost set has exactly one such member, and both fit or neither
use Rattle.std.specs.Prelude.{◌≡◌, true, false, ◌↔◌, List, ℕ, ◌<◌}
use Rattle.binary.specs.Meaning.{Qubits, Row, Check, Below, All, sum, Inside, Fits, Differ, Even, Fixed}

abbrev pub Commuting : List Row → List Check → Type 0
Commuting others checks = All (λ c. All (Even c.row) others) checks

-- e' lies in the lost set, differs from e by a product of other-kind rows, and is zero on the fixed qubits.
pub record Reduced (others : List Row) (lost e e' : Qubits) : Type 0 where
  pub inside : Inside e' lost
  pub differ : Differ others e e'
  pub zeros : (q : ℕ) → Fixed others lost q → e' q ≡ false

-- With commuting rows, every error e on the lost set has exactly one such e'; the product lies in the lost set; both fit or neither.
unfoldable pub ClassLaw : Type 0
ClassLaw =
    (n : ℕ) (others : List Row) (lost : Qubits) (checks : List Check) → Below n others → ((q : ℕ) → lost q ≡ true → q < n)
    → Commuting others checks → (e : Qubits) → Inside e lost
    → (e' : Qubits) × Reduced others lost e e' × Inside (sum e e') lost
    × ((x : Qubits) → Reduced others lost e x → (q : ℕ) → x q ≡ e' q)
    × (Fits lost checks e ↔ Fits lost checks e')
