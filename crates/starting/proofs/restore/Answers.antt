-- `starting::restore` meets its contract. Assumes nothing.
use Rattle.starting.proofs.Ways.{restores}
use Rattle.starting.proofs.restore.Goals as goal

pub returns : goal.returns
returns c = restores _ _ _ _ c.requires.0 c.requires.1 c.copy_words.ensures c.copy_words-2.ensures
