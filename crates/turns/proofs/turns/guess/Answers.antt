-- `turns::turns::guess` meets its contract. Assumes nothing.
use mathlib.Core.Path.{refl}
use Rattle.turns.specs.Lent.{working}
use Rattle.turns.proofs.Turning.{guess_turned}
use Rattle.turns.proofs.turns.guess.Goals as goal

pub returns-clause-turned : goal.returns-clause-turned
returns-clause-turned c =
    guess_turned _ _ _ _ (working c.args.lists.now) _ _ _ c.requires.unsettled.below c.requires.room.forms _ refl c.requires.live_bound c.put_guess.ensures c.settle.ensures.settled
