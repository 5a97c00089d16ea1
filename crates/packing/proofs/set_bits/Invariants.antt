-- `packing::set_bits` meets its contract. Assumes nothing.
use Rattle.packing.proofs.Put.{Setting}
use Rattle.packing.proofs.set_bits.Given as goal

abbrev pub invariant-loop-q : goal.invariant-loop-q
invariant-loop-q l = Setting l.w l.i l.row l.initial.m l.m l.q-index
