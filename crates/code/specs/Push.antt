-- One row more in the lists (document 01, "Records": rows are kept end to end).
--   room?    whether these qubits fit as row r: it has an end, which lies within the list and below 2^16
--   written  the list with the qubits from a place on, and all else as it was
--   Pushed   with room, the qubits and the end of row r are written, and nothing else; without, nothing is
use Rattle.std.specs.Prelude.{◌≡◌, Bool, cond, ◌&&◌, List, ◌++◌, ℕ, ◌+◌, leb, ltb, length, take, drop, set}
use Rattle.binary.specs.Meaning.{Row}
use Rattle.code.specs.Lists.{start_of}

unfoldable pub room? : List ℕ → List ℕ → ℕ → Row → Bool
room? flat ends r qubits =
    ltb r (length ends) && leb (start_of ends r + length qubits) (length flat) && ltb (start_of ends r + length qubits) 65536

unfoldable pub written : List ℕ → ℕ → Row → List ℕ
written flat start qubits = take start flat ++ qubits ++ drop (start + length qubits) flat

pub record Pushed (flat ends : List ℕ) (r : ℕ) (qubits : Row) (done : Bool) (flat' ends' : List ℕ) : Type 0 where
  pub told : done ≡ room? flat ends r qubits
  pub row : flat' ≡ cond done (written flat (start_of ends r) qubits) flat
  pub end : ends' ≡ cond done (set ends r (start_of ends r + length qubits)) ends
