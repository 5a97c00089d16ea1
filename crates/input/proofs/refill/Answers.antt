-- `input::refill` meets its contract. Assumes nothing.
use Rattle.input.proofs.Moving.{another_read}
use Rattle.input.specs.Reading.{first}
use lib.ListN.{length}
use native.Mathlib.Omega.{arith}
use mathlib.Core.Path.{◌≡◌, refl, ◌∙◌}
use Rattle.input.proofs.refill.Goals as goal

pub loop-reads-init : goal.loop-reads-init
loop-reads-init g c =
    let r = c.read_once-got in
    let k : length r.new.block ≡ length c.args.block.now = r.auto.block in
    (omega (arith, c.if-block-held.false), refl, first (rw k r.ensures.gives), refl, omega arith)

pub loop-reads-preserved : goal.loop-reads-preserved
loop-reads-preserved g c =
    let r = c.read_once-got-in-loop-reads in
    let l = c.loop-reads in
    let k : length r.new.block ≡ length l.block = r.auto.block in
    let again = rw c.is_again.ensures at c.if-is_again.true in
    (omega (arith, l.invariant.0), k ∙ l.invariant.1, another_read l.invariant.2 again (rw l.invariant.1 at r.ensures.gives), r.ensures.stays ∙ l.invariant.3, omega (arith, c.loop-reads-test.true))
