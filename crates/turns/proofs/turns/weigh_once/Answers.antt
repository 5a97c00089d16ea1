-- `turns::turns::weigh_once` meets its contract. Assumes nothing.
use mathlib.Core.Path.{ap}
use mathlib.Core.Bool.{not}
use Rattle.turns.proofs.Moves.{once_kept, once_counted}
use Rattle.turns.proofs.turns.weigh_once.Goals as goal

pub returns-then-not-weighed : goal.returns-then-not-weighed
returns-then-not-weighed c = once_counted _ _ _ c.args.work.now c.requires _ c.weigh.ensures

pub returns-else-not-weighed : goal.returns-else-not-weighed
returns-else-not-weighed c = once_kept _ _ _ _ (ap not c.if-not-weighed.false)
