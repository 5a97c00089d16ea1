-- `starting::save` meets its contract. Assumes nothing.
use Rattle.starting.proofs.Ways.{saves}
use Rattle.starting.proofs.save.Goals as goal

pub returns : goal.returns
returns c = saves _ _ _ _ c.requires.0 c.requires.1 c.copy_words.ensures c.copy_words-2.ensures
