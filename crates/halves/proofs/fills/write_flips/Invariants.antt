-- `halves::fills::write_flips` meets its contract. Assumes nothing.
use Prim.Native.Nat.{◌*◌, ◌%◌}
use lib.ListN.{get_or}
use Rattle.lists.specs.Filled.{Filled}
use Rattle.halves.proofs.fills.write_flips.Given as goal

abbrev pub invariant-loop-q : goal.invariant-loop-q
invariant-loop-q l = Filled (λ k. get_or l.forms (4 * k) 0 % 2) l.q l.initial.correction l.correction
