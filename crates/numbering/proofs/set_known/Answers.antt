-- `numbering::set_known` meets its contract. Assumes nothing.
use native.Mathlib.Omega.{arith}
use Rattle.numbering.proofs.Known.{set_more}
use Rattle.numbering.proofs.set_known.Goals as goal

pub loop-k-preserved : goal.loop-k-preserved
loop-k-preserved c = set_more _ _ _ _ _ _ c.loop-k.invariant (omega arith) (omega arith) c.known_word.ensures
