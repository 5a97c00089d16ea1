-- `trying::start::clear_rows` meets its contract. Assumes nothing.
use Rattle.trying.proofs.Starting.{rows_cleared}
use Rattle.trying.proofs.start.clear_rows.Goals as goal

pub returns : goal.returns
returns c = rows_cleared _ _ _ _ _ c.requires.0 c.clear.ensures c.clear-2.ensures c.clear-3.ensures
