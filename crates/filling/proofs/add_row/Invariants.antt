-- `filling::add_row` meets its contract: the qubits before place q-index are looked at. Assumes nothing.
use Rattle.filling.proofs.KeptRows.{Adding}
use Rattle.filling.proofs.add_row.Given as goal

abbrev pub invariant-loop-q : goal.invariant-loop-q
invariant-loop-q l = Adding l.n l.i.0 l.row l.marks l.initial.work l.q-index l.work l.open
