-- `output::write_out` meets its contract. Assumes nothing.
use native.Mathlib.Omega.{arith}
use Rattle.output.specs.Writing.{begun, further}
use Rattle.output.proofs.write_out.Goals as goal

pub loop-init : goal.loop-init
loop-init g c = (omega arith, begun)

pub loop-preserved : goal.loop-preserved
loop-preserved g c =
    let s = rw c.in-Some.is at c.write_once.ensures in
    (s.1, further c.loop.invariant.1 s)
