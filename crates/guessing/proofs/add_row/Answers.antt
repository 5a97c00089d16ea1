-- `guessing::add_row` meets its contract. Assumes nothing.
use native.Mathlib.Omega.{arith}
use Rattle.guessing.proofs.Adding.{added_none, added_as}
use Rattle.guessing.proofs.add_row.Goals as goal

pub returns-then-share-gt0 : goal.returns-then-share-gt0
returns-then-share-gt0 c = added_as _ _ _ _ _ _ c.row.ensures c.add.ensures

pub returns-else-share-gt0 : goal.returns-else-share-gt0
returns-else-share-gt0 c = added_none _ _ _ _ (omega (arith, c.if-share-gt0.false))
