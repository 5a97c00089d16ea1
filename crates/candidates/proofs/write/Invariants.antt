-- `candidates::write` meets its contract. Assumes nothing.
use Prim.Native.Nat.{◌*◌, ◌%◌}
use lib.Bits.{bit_and}
use lib.Count.{ones}
use lib.ListN.{get_or}
use Rattle.lists.specs.Filled.{Filled}
use Rattle.candidates.proofs.write.Given as goal

abbrev pub invariant-loop-q : goal.invariant-loop-q
invariant-loop-q l = Filled (λ k. ones (bit_and (get_or l.forms (4 * k) 0) l.mask) % 2) l.q l.initial.list l.list
