-- `turns::is_enough` meets its contract. Assumes nothing.
use Rattle.turns.specs.Runs.{enough?}
use Rattle.turns.proofs.is_enough.Goals as goal

pub returns : goal.returns
unfolding enough?
returns c = rw (← c.is_sized.ensures)
