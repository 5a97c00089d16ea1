-- `starting::is_enough` meets its contract. Assumes nothing.
use mathlib.Core.Path.{refl}
use Rattle.starting.specs.Starting.{enough?}
use Rattle.starting.proofs.is_enough.Goals as goal

pub returns : goal.returns
unfolding enough?
returns c = refl
