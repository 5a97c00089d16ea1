-- `rack::rack_candidate` meets its contract. Assumes nothing.
use Rattle.rack.proofs.Promising.{rack_gives}
use Rattle.rack.proofs.rack_candidate.Goals as goal

pub returns : goal.returns
returns c =
    rack_gives _ _ _ _ _ _ _ _ _ _ _ c.word_of-said.ensures c.give.ensures c.number.ensures
