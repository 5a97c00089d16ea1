-- The numbers of a row's body, read one after another. Assumes nothing.
use mathlib.Core.Path.{◌≡◌, refl, ap, ◌∙◌, subst}
use mathlib.Core.List.{List, [], ◌∷◌, ◌++◌}
use mathlib.Core.Logic.{⊎_elim}
use Prim.Native.Nat.{ℕ, zero, suc, ◌+◌, ◌*◌, ◌<◌, ◌≤◌}
use native.Mathlib.Nat.{le_antisymm}
use native.Mathlib.Numerals.{add-one}
use native.Mathlib.Omega.{arith}
use lib.ListN.{length, get_or, take, set, replicate}
use lib.Seq.{take-suc-set, get_or-set_other}
use Rattle.records.specs.Records.{number, numbers}
use Rattle.reading.specs.Shapes.{RowBody}

pub numbers_length : (bytes : List ℕ) (i w : ℕ) → length (numbers bytes i w) ≡ w
numbers_length bytes i zero = refl
numbers_length bytes i (suc w) = ap suc (numbers_length bytes (i + 2) w)

numbers_last : (bytes : List ℕ) (i w : ℕ) → numbers bytes i (suc w) ≡ numbers bytes i w ++ (number bytes (i + 2 * w) ∷ [])
numbers_last bytes i zero = ap (λ (k : ℕ). number bytes k ∷ []) (omega arith)
numbers_last bytes i (suc w) =
    ap (◌∷◌ (number bytes i)) (numbers_last bytes (i + 2) w ∙ ap (λ (k : ℕ). numbers bytes (i + 2) w ++ (number bytes k ∷ [])) (omega arith))

-- One number more in the list.
pub numbers_turn : (bytes qubits : List ℕ) (w q : ℕ) → w < length qubits → take w qubits ≡ numbers bytes 1 w → q ≡ number bytes (1 + 2 * w)
    → take (w + 1) (set qubits w q) ≡ numbers bytes 1 (w + 1)
numbers_turn bytes qubits w q h t e = rw (add-one w, take-suc-set qubits w q h, numbers_last bytes 1 w, t, e)

numbers_all : (bytes qubits : List ℕ) (i w : ℕ) → i ≤ w → w ≤ i → take i qubits ≡ numbers bytes 1 i → take w qubits ≡ numbers bytes 1 w
numbers_all bytes qubits i w h₁ h₂ t = subst (λ (k : ℕ). take k qubits ≡ numbers bytes 1 k) (le_antisymm h₁ h₂) t

----------------------------------------------------------------------
-- Behind them

pub zeros : (n k : ℕ) → get_or {A = ℕ} (replicate n 0) k 0 ≡ 0
zeros zero k = refl
zeros (suc n) zero = refl
zeros (suc n) (suc k) = zeros n k

-- One number more leaves those behind it.
pub zeros_turn : (qubits : List ℕ) (w q : ℕ) → ((k : ℕ) → w ≤ k → get_or qubits k 0 ≡ 0) → (k : ℕ) → w + 1 ≤ k → get_or (set qubits w q) k 0 ≡ 0
zeros_turn qubits w q z k h = get_or-set_other qubits w k q 0 (λ e. omega arith) ∙ z k (omega arith)

pub row_body : (bytes qubits : List ℕ) (i w : ℕ) → i ≤ w → w ≤ i → w ≤ 16 → take i qubits ≡ numbers bytes 1 i → ((k : ℕ) → i ≤ k → get_or qubits k 0 ≡ 0) → RowBody bytes w qubits
row_body bytes qubits i w h₁ h₂ few t z =
    record { first = λ l. numbers_all bytes qubits i w h₁ h₂ t; rest = λ k. ⊎_elim (λ l. z k (omega arith)) (λ l. absurd (omega arith)) }
