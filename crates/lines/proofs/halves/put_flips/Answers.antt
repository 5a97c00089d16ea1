-- `lines::halves::put_flips` meets its contract. Assumes nothing.
use lib.ListN.{take}
use Rattle.text.proofs.Putting.{adds_none}
use Rattle.lines.specs.Lines.{flips}
use Rattle.lines.proofs.Flips.{flips_more, flips_all}
use Rattle.lines.proofs.halves.put_flips.Goals as goal

pub loop-qubit-init : goal.loop-qubit-init
unfolding flips
loop-qubit-init c = adds_none _

pub loop-qubit-preserved : goal.loop-qubit-preserved
loop-qubit-preserved c =
    let l = c.loop-qubit in
    flips_more (take c.min-most.result c.args.correction.now) l.qubit l.invariant c.loop-qubit-test.true c.put_flip.ensures

pub returns : goal.returns
returns c =
    flips_all c.args.correction.now c.args.n c.min-most.result c.loop-qubit.qubit (rw c.from.ensures at c.min-most.ensures) c.loop-qubit-test.false c.loop-qubit.invariant
