-- `guessing::can_weigh` meets its contract. Assumes nothing.
use mathlib.Core.Path.{refl}
use Rattle.guessing.specs.Guessing.{weighable?}
use Rattle.guessing.proofs.can_weigh.Goals as goal

pub returns : goal.returns
unfolding weighable?
returns c = refl
