-- `lists::clear` meets its contract. Assumes nothing.
use Rattle.lists.proofs.Clearing.{Upto}
use Rattle.lists.proofs.clear.Given as goal

abbrev pub invariant-loop-i : goal.invariant-loop-i
invariant-loop-i g l = Upto g.T.Zero.zero l.from l.i l.i-end l.initial.list l.list
