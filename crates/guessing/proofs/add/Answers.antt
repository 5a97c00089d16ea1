-- `guessing::add` meets its contract: with the share added at what is left of the row, the numbers are what they come to. Assumes nothing.
use native.Mathlib.Omega.{arith}
use Rattle.guessing.proofs.Adding.{adding_end}
use Rattle.guessing.proofs.add.Goals as goal

pub returns : goal.returns
returns c = adding_end _ _ _ _ _ _ c.loop-qubit.invariant (omega arith)
