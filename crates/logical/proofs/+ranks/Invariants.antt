-- `logical::ranks` calls itself for the X rows alone. Assumes nothing.
use mathlib.Core.Bool.{cond}
use lib.Dec.{ltb}
use Rattle.logical.proofs.+ranks.Given as goal

abbrev pub decreases-ranks : goal.decreases-ranks
decreases-ranks l = cond (ltb l.sizes.x l.to) 1 0
