-- `choosing::has_room` meets its contract. Assumes nothing.
use mathlib.Core.Path.{refl}
use Rattle.choosing.specs.Choosing.{room?}
use Rattle.choosing.proofs.has_room.Goals as goal

pub returns : goal.returns
unfolding room?
returns c = refl
