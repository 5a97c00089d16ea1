-- `trying::peels::put_value` meets its contract. Assumes nothing.
use Rattle.trying.proofs.Values.{value_one, value_zero}
use Rattle.trying.proofs.peels.put_value.Goals as goal

pub returns-then-v-eq1 : goal.returns-then-v-eq1
returns-then-v-eq1 c = value_one _ _ _ _ c.requires.0 c.requires.1 c.if-v-eq1.true _ c.put_guess.ensures

pub returns-else-v-eq1 : goal.returns-else-v-eq1
returns-else-v-eq1 c = value_zero _ _ _ _ c.requires.0 c.requires.1 c.if-v-eq1.false
