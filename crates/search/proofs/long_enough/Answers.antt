-- `search::long_enough` meets its contract. Assumes nothing.
use mathlib.Core.Path.{refl}
use Rattle.search.specs.Marked.{enough}
use Rattle.search.proofs.long_enough.Goals as goal

pub returns : goal.returns
unfolding enough
returns c = refl
