-- `forms::sides::top_word` meets its contract. Assumes nothing.
use native.Mathlib.Omega.{arith}
use Rattle.std.proofs.lemmas.Grind.{common_steps}
use Rattle.forms.specs.Sides.{top_word}
use Rattle.forms.proofs.sides.top_word.Goals as goal

pub returns : goal.returns
unfolding top_word
returns c = grind (arith, common_steps)
