-- `bicycle_codes::put_rows` meets its contract: after p turns the rows of p places are written. Assumes nothing.
use Rattle.bicycle_codes.specs.Writing.{row_by, RowsPut}
use Rattle.bicycle_codes.proofs.put_rows.Given as goal

abbrev pub invariant-loop-p : goal.invariant-loop-p
invariant-loop-p l = RowsPut l.first l.p (row_by l.l l.m l.left l.right) l.initial.rows l.rows
