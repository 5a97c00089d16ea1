-- `turns::turns::peel` meets its contract. Assumes nothing.
use Rattle.turns.specs.Lent.{working}
use Rattle.turns.proofs.Turning.{peel_turned}
use Rattle.turns.proofs.turns.peel.Goals as goal

pub returns-clause-turned : goal.returns-clause-turned
returns-clause-turned c =
    peel_turned _ _ _ _ (working c.args.lists.now) _ _ _ c.requires.unsettled.below c.requires.room.forms _ _ _ c.row.ensures c.put_side.ensures c.settle.ensures.settled
