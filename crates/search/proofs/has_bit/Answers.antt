-- `search::has_bit` meets its contract. Assumes nothing.
use mathlib.Core.Path.{refl}
use Rattle.binary.specs.Words.{bit}
use Rattle.search.proofs.has_bit.Goals as goal

pub returns : goal.returns
unfolding bit
returns c = refl
