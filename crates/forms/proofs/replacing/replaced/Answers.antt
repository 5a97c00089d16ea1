-- `forms::replacing::replaced` meets its contract. Assumes nothing.
use Rattle.forms.proofs.WordBits.{replaced_with, replaced_without}
use Rattle.forms.proofs.replacing.replaced.Goals as goal

pub returns-then-word-k-eq1 : goal.returns-then-word-k-eq1
returns-then-word-k-eq1 c = replaced_with _ _ _ _ c.if-word-k-eq1.true c.without_bit.ensures

pub returns : goal.returns
returns c = replaced_without _ _ _ _ c.if-word-k-eq1.false c.without_bit-2.ensures
