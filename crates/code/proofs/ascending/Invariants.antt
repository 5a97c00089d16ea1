-- `code::ascending` meets its contract: what is left of the row, from `least` on, decides. Assumes nothing.
use mathlib.Core.Path.{◌≡◌}
use lib.ListN.{drop}
use Rattle.code.specs.Tests.{ascending_from, ascending?}
use Rattle.code.proofs.ascending.Given as goal

abbrev pub invariant-loop-q : goal.invariant-loop-q
invariant-loop-q l = ascending_from l.least l.n (drop l.q-index l.qubits) ≡ ascending? l.n l.qubits
