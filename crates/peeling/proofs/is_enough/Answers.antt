-- `peeling::is_enough` meets its contract. Assumes nothing.
use mathlib.Core.Path.{refl}
use Rattle.peeling.specs.Peeling.{enough?}
use Rattle.peeling.proofs.is_enough.Goals as goal

pub returns : goal.returns
unfolding enough?
returns c = refl
