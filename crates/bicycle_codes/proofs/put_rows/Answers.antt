-- `bicycle_codes::put_rows` meets its contract: after p turns the rows of p places are written. Assumes nothing.
use native.Mathlib.Omega.{arith}
use Rattle.bicycle_codes.proofs.Stores.{rows_none}
use Rattle.bicycle_codes.proofs.Shifting.{one_more_lem, all_rows, room}
use Rattle.bicycle_codes.proofs.put_rows.Goals as goal

pub loop-p-init : goal.loop-p-init
loop-p-init c = rows_none _ _ _

pub put_row-requires : goal.put_row-requires
put_row-requires c = room _ _ _ _ _ _ _ _ _ (omega arith) c.loop-p.invariant (omega arith) (omega arith) c.shifted-on_right.ensures

pub loop-p-preserved : goal.loop-p-preserved
loop-p-preserved c = one_more_lem _ _ _ _ _ _ _ _ _ _ _ c.loop-p.invariant (omega arith) (omega arith) c.shifted-on_left.ensures c.shifted-on_right.ensures c.put_row.ensures

pub shape_of-rows : goal.shape_of-rows
shape_of-rows c = c.loop-p.invariant.long

pub returns : goal.returns
returns c = all_rows _ _ _ _ _ _ c.loop-p.invariant (omega arith) (omega arith)
