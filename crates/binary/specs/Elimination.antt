-- The rows left of an elimination, by the sets that they are.
--   Sums  the sums of finitely many sets
--   Left  the sums of the rows left are the products of all rows that are 0 on the columns taken
use Rattle.std.specs.Prelude.{◌≡◌, false, List, ℕ}
use Rattle.binary.specs.Bits.{◌⊕◌}
use Rattle.binary.specs.Meaning.{Qubits, Row, IsProduct}

pub data Sums (M : Qubits → Type 0) : Qubits → Type 0 where
  empty : {s : Qubits} → ((q : ℕ) → s q ≡ false) → Sums M s
  plus : {s : Qubits} (a b : Qubits) → M a → Sums M b → ((q : ℕ) → s q ≡ a q ⊕ b q) → Sums M s

pub record Left (rows : List Row) (taken : ℕ → Type 0) (M : Qubits → Type 0) : Type 0 where
  pub products : (s : Qubits) → Sums M s → IsProduct rows s
  pub zeros : (s : Qubits) → Sums M s → (q : ℕ) → taken q → s q ≡ false
  pub whole : (s : Qubits) → IsProduct rows s → ((q : ℕ) → taken q → s q ≡ false) → Sums M s
