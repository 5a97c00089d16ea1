-- `guessing::add` meets its contract: with the share added at what is left of the row, the numbers are what they come to. Assumes nothing.
use Rattle.guessing.proofs.Adding.{Adding}
use Rattle.guessing.proofs.add.Given as goal

abbrev pub invariant-loop-qubit : goal.invariant-loop-qubit
invariant-loop-qubit l = Adding l.n l.share l.row l.initial.work l.work l.qubit-index
