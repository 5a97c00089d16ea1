-- `numbering::set_known` meets its contract. Assumes nothing.
use Rattle.numbering.specs.Numbering.{KnownSet}
use Rattle.numbering.proofs.set_known.Given as goal

abbrev pub invariant-loop-k : goal.invariant-loop-k
invariant-loop-k l = KnownSet l.n l.k l.lost l.initial.m l.m
