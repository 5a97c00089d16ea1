-- `guessing::weigh_rows` meets its contract: the rows before row i are counted. Assumes nothing.
use mathlib.Core.Path.{refl, ◌∙◌}
use Prim.Native.Nat.{◌+◌}
use native.Mathlib.Omega.{arith}
use lib.ListN.{get_or}
use Rattle.guessing.proofs.Adding.{share_small}
use Rattle.guessing.proofs.Weighing.{counting_start, counting_row, counting_end}
use Rattle.guessing.proofs.weigh_rows.Goals as goal

pub loop-i-init : goal.loop-i-init
loop-i-init c = (refl, counting_start _ _ _ _ c.clear.ensures)

pub add_row-requires : goal.add_row-requires
add_row-requires c =
    let l = c.loop-i.invariant in
    let start = c in
    (start.requires.size, omega (arith, start.requires.long, l.0, c.clear.ensures.long), share_small (get_or c.loop-i.work (8704 + c.loop-i.i) 0) _ c.share.ensures)

pub loop-i-preserved : goal.loop-i-preserved
loop-i-preserved c =
    let l = c.loop-i.invariant in
    let added = c.add_row.ensures in (
      added.alone.long ∙ l.0,
      counting_row _ _ _ _ _ l.1 c.loop-i-test.true c.requires.few _ _ refl c.share.ensures _ added,
    )

pub shape_of-work : goal.shape_of-work
shape_of-work c = c.loop-i.invariant.0 ∙ c.clear.ensures.long

pub returns : goal.returns
returns c = counting_end _ _ _ _ c.clear.ensures _ _ c.loop-i.invariant.1 (omega arith) c.requires.few
