-- `incidence::empty` meets its contract: after q turns the first q qubits are done. Assumes nothing.
use mathlib.Core.Path.{◌≡◌}
use Rattle.incidence.specs.Incidence.{emptied}
use Rattle.incidence.proofs.empty.Given as goal

abbrev pub invariant-loop-q : goal.invariant-loop-q
invariant-loop-q l = l.list ≡ emptied l.q l.initial.list
