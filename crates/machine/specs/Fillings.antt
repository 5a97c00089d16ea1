-- Fillings (document 01, "A half, turn by turn").
--   value       what values of the live guesses give a form: bit 0 plus those bits k whose guess is 1, modulo 2
--   filling     the settled qubits that values of the live guesses give 1
--   Filling     a set of settled qubits that satisfies every check with no open qubit, the fixed qubits zero
use Rattle.std.specs.Prelude.{◌≡◌, Bool, true, false, ◌&&◌, ℕ, zero, suc}
use mathlib.Core.List.{List, Memᴰ}
use Rattle.binary.specs.Bits.{◌⊕◌}
use Rattle.binary.specs.Meaning.{Qubits, Check, Reads}
use Rattle.machine.specs.Machine.{Form, closed?}

-- The sum of the first m products.
abbrev pub dot : ℕ → Form → Form → Bool
dot zero f g = false
dot (suc m) f g = (f 0 && g 0) ⊕ dot m (λ i. f (suc i)) (λ i. g (suc i))

-- Values of the live guesses give a settled qubit bit 0 of its form plus those bits k whose guess is 1, modulo 2. Guess k has value g k.
abbrev pub value : ℕ → Form → Form → Bool
value live f g = f 0 ⊕ dot live (λ i. f (suc i)) (λ i. g (suc i))

abbrev pub filling : ℕ → (ℕ → Form) → Form → Qubits
filling live form g q = value live (form q) g

-- A filling gives each settled qubit 0 or 1, and is also the set of those given 1. It satisfies a closed row if an odd number of the row's
-- lost qubits have 1 exactly when the row is lit.
pub record Filling (checks : List Check) (lost fixed is_open x : Qubits) : Type 0 where
  pub settled : (q : ℕ) → x q ≡ true → (lost q ≡ true) × (is_open q ≡ false)
  pub zeros : (q : ℕ) → fixed q ≡ true → x q ≡ false
  pub satisfies : (c : Check) → Memᴰ c checks → closed? is_open c ≡ true → Reads x c
