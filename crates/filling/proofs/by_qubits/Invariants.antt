-- `filling::by_qubits` meets its contract: the open qubits below q are kept. Assumes nothing.
use Rattle.filling.proofs.KeptQubits.{Reached}
use Rattle.filling.proofs.by_qubits.Given as goal

abbrev pub invariant-loop-q : goal.invariant-loop-q
invariant-loop-q l = Reached l.half.n l.half.code.ends.now l.half.rows.first.0 l.half.rows.count l.half.lit.now l.marks l.initial.work l.q l.work
