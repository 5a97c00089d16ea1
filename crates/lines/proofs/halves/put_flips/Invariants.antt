-- `lines::halves::put_flips` meets its contract. Assumes nothing.
use lib.ListN.{take}
use Rattle.text.specs.Line.{Adds}
use Rattle.lines.specs.Lines.{flips}
use Rattle.lines.proofs.halves.put_flips.Given as goal

abbrev pub invariant-loop-qubit : goal.invariant-loop-qubit
invariant-loop-qubit l = Adds (flips 0 (take l.qubit l.element-items)) l.initial.line l.line
