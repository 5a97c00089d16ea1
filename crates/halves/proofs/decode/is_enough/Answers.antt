-- `halves::decode::is_enough` meets its contract. Assumes nothing.
use mathlib.Core.Path.{refl}
use Rattle.halves.specs.Decode.{enough_in?}
use Rattle.halves.proofs.decode.is_enough.Goals as goal

pub returns : goal.returns
unfolding enough_in?
returns c = λ budget limit. refl
