-- `guessing::renew_rows` meets its contract: the rows before row i are without the qubit. Assumes nothing.
use borrow.Author.Rules.{rules}
use mathlib.Core.Path.{refl, ◌∙◌}
use Prim.Native.Nat.{◌+◌}
use native.Mathlib.Omega.{arith}
use lib.ListN.{get_or}
use Rattle.guessing.proofs.Adding.{change_small}
use Rattle.guessing.proofs.Renewing.{renewing_start, renewing_row, renewing_end}
use Rattle.guessing.proofs.renew_rows.Goals as goal

pub loop-i-init : goal.loop-i-init
loop-i-init c = let w = c.next_in-i.ensures.within (omega arith) in (w.1, refl, renewing_start _ _ _ _ _ c.next_in-i.ensures)

pub add_row-requires : goal.add_row-requires
add_row-requires c =
    let l = c.loop-i.invariant in
    let start = c in
    (start.requires.size, omega (arith, start.requires.long, l.1), change_small (get_or c.loop-i.work (8704 + c.loop-i.i) 0) _ c.change.ensures)

pub loop-i-smaller : goal.loop-i-smaller
loop-i-smaller c = let w = c.next_in-i-in-loop-i.ensures.within (search rules) in omega (arith, w.0)

pub loop-i-preserved : goal.loop-i-preserved
loop-i-preserved c =
    let l = c.loop-i.invariant in
    let w = c.next_in-i-in-loop-i.ensures.within (search rules) in
    let start = c in
    let added = c.add_row.ensures in (
      w.1,
      added.alone.long ∙ l.1,
      renewing_row _ _ _ _ _ _ l.2 start.requires.few c.loop-i-test.true start.requires.size _ _ refl c.change.ensures _ added _ c.next_in-i-in-loop-i.ensures,
    )

pub shape_of-work : goal.shape_of-work
shape_of-work c = c.loop-i.invariant.1

pub returns : goal.returns
returns c = renewing_end _ _ _ _ _ _ c.loop-i.invariant.2 c.requires.few (omega (arith, c.loop-i-test.false))
