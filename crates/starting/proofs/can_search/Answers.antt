-- `starting::can_search` meets its contract. Assumes nothing.
use mathlib.Core.Path.{refl}
use Rattle.starting.specs.Starting.{searchable?}
use Rattle.starting.proofs.can_search.Goals as goal

pub returns : goal.returns
unfolding searchable?
returns c = refl
