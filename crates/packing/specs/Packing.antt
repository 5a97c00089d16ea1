-- What the private functions ask, and what they do to the words of a row.
--   RowIn     row i lies in the work list
--   BitsSet   the bits of a set are set in row i
use Rattle.std.specs.Prelude.{◌≡◌, ◌||◌, ◌⊎◌, List, ℕ, ◌+◌, ◌*◌, ◌≤◌, ◌<◌, length, get_or}
use Rattle.binary.specs.Meaning.{Qubits}
use Rattle.packing.specs.Packed.{cell}

abbrev pub RowIn : ℕ → ℕ → List ℕ → Type 0
RowIn w i m = i * w + w ≤ length m

-- Columns past the row's words are passed over.
pub record BitsSet (w i : ℕ) (s : Qubits) (m m' : List ℕ) : Type 0 where
  pub cells : (c : ℕ) → c < 64 * w → cell m' w i c ≡ (cell m w i c || s c)
  pub kept : (k : ℕ) → (k < i * w) ⊎ (i * w + w ≤ k) → get_or m' k 0 ≡ get_or m k 0
