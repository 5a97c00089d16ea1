-- The test of a row beside those of the other kind (document 01, "Records": refusal 6, clash).
--   in_bits     the set of qubits that 16 words hold, a bit each
--   even_for?   whether each of some rows has an even number of qubits in a set
--   even_with?  whether each of some rows shares an even number of qubits with a row, of qubits below 1,024
use Rattle.std.specs.Prelude.{Bool, not, ◌&&◌, List, ltb, ℕ}
use Rattle.binary.specs.Meaning.{Row, Qubits, has, odd, all?}
use Rattle.packing.specs.Packed.{cell}

abbrev pub in_bits : List ℕ → Qubits
in_bits words q = ltb q 1024 && cell words 16 0 q

unfoldable pub even_for? : Qubits → List Row → Bool
even_for? set rows = all? (λ row. not (odd set row)) rows

abbrev pub even_with? : List Row → Row → Bool
even_with? rows qubits = even_for? (λ q. ltb q 1024 && has qubits q) rows
