-- `numbering::number_rows` meets its contract. Assumes nothing.
use native.Mathlib.Omega.{arith}
use Rattle.numbering.proofs.Numbered.{rows_more}
use Rattle.numbering.proofs.number_rows.Goals as goal

pub loop-i-preserved : goal.loop-i-preserved
loop-i-preserved c = rows_more _ (omega arith) _ _ _ _ (omega arith) c.loop-i.invariant c.number_row.ensures
