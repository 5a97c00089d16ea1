-- `bicycle_codes::is_grid` meets its contract. Assumes nothing.
use Rattle.bicycle_codes.proofs.is_grid.Goals as goal

pub returns : goal.returns
returns c = rw c.area.ensures.0
