-- `starting::start_marks` meets its contract: the first q qubits are marked. Assumes nothing.
use Rattle.lists.specs.Filled.{Filled}
use Rattle.starting.specs.Starting.{open_mark}
use Rattle.starting.proofs.start_marks.Given as goal

abbrev pub invariant-loop-q : goal.invariant-loop-q
invariant-loop-q l = Filled (open_mark l.n l.lost) l.q l.initial.marks l.marks
