-- `numbering::lies_in` meets its contract. Assumes nothing.
use mathlib.Core.Path.{refl}
use Rattle.numbering.specs.Numbering.{inside?}
use Rattle.numbering.proofs.lies_in.Goals as goal

pub returns : goal.returns
unfolding inside?
returns c = refl
