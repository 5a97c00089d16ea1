-- `choosing::tall` meets its contract: the planes seen so far have no other column. Assumes nothing.
use Rattle.choosing.specs.Choosing.{Tall}
use Rattle.choosing.proofs.tall.Given as goal

abbrev pub invariant-loop-p : goal.invariant-loop-p
invariant-loop-p l = Tall l.at l.p l.m l.high
