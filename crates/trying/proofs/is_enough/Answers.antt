-- `trying::is_enough` meets its contract. Assumes nothing.
use Rattle.trying.specs.Trying.{enough?}
use Rattle.trying.proofs.is_enough.Goals as goal

pub returns : goal.returns
unfolding enough?
returns c = cc
