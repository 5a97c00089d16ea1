-- `numbering::number_rows` meets its contract. Assumes nothing.
use Rattle.numbering.specs.Numbering.{NumberedRows}
use Rattle.numbering.proofs.number_rows.Given as goal

abbrev pub invariant-loop-i : goal.invariant-loop-i
invariant-loop-i l = NumberedRows l.w l.i l.initial.m l.m
