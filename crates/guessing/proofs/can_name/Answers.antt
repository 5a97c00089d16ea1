-- `guessing::can_name` meets its contract. Assumes nothing.
use mathlib.Core.Path.{refl}
use Rattle.guessing.specs.Guessing.{namable?}
use Rattle.guessing.proofs.can_name.Goals as goal

pub returns : goal.returns
unfolding namable?
returns c = refl
