-- `reading::bytes::qubits_of` meets its contract: after i turns the first i numbers are in place. Assumes nothing.
use mathlib.Core.Path.{◌≡◌}
use Prim.Native.Nat.{ℕ, ◌≤◌}
use lib.ListN.{length, get_or, take}
use Rattle.records.specs.Records.{numbers}
use Rattle.reading.proofs.bytes.qubits_of.Given as goal

abbrev pub invariant-loop-i : goal.invariant-loop-i
invariant-loop-i l = (length l.qubits ≡ 16) × (take l.i l.qubits ≡ numbers l.bytes 1 l.i) × ((k : ℕ) → l.i ≤ k → get_or l.qubits k 0 ≡ 0)
