-- `scans::HalfRows::is_sized` meets its contract. Assumes nothing.
use mathlib.Core.Path.{refl}
use Rattle.scans.specs.Half.{sized?}
use Rattle.scans.proofs.HalfRows.is_sized.Goals as goal

pub returns : goal.returns
unfolding sized?
returns c = refl
