-- `numbering::ripple` meets its contract. Assumes nothing.
use Rattle.numbering.specs.Numbering.{Rippled}
use Rattle.numbering.proofs.ripple.Given as goal

abbrev pub invariant-loop-p : goal.invariant-loop-p
invariant-loop-p l = Rippled l.at l.from l.p l.first l.other l.initial.m l.m l.carry
