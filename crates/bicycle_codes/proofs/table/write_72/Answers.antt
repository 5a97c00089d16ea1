-- `bicycle_codes::write_72` meets its contract: the table is what the rule makes, computed once over all entries. Assumes nothing.
use native.Mathlib.Omega.{arith}
use Rattle.bicycle_codes.specs.Bicycle.{flat_rows, x_row, z_row, forward, backward}
use Rattle.bicycle_codes.proofs.SeventyTwo.{short_table, whole_table}
use Rattle.bicycle_codes.proofs.table.write_72.Goals as goal

pub returns-then-rows-lt432 : goal.returns-then-rows-lt432
returns-then-rows-lt432 c = short_table _ (omega arith)

pub returns : goal.returns
unfolding flat_rows x_row z_row forward backward
returns c = whole_table _ _ (omega arith) c.copy_from_slice.ensures.after
