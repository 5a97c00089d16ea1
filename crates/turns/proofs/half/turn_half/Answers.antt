-- `turns::half::turn_half` meets its contract. Assumes nothing.
use Rattle.scans.specs.Half.{rows_of}
use Rattle.turns.specs.Lent.{working}
use Rattle.turns.proofs.Marked.{half_failed, half_goes}
use Rattle.turns.proofs.half.turn_half.Goals as goal

pub returns-then-is_lit_closed-clause-turned : goal.returns-then-is_lit_closed-clause-turned
returns-then-is_lit_closed-clause-turned c = half_failed _ (rows_of c.args.half.now) _ _ (working c.args.lists.now) _ _ c.requires.room c.clear.ensures c.is_lit_closed.ensures c.if-is_lit_closed.true

pub returns-clause-turned : goal.returns-clause-turned
returns-clause-turned c =
    half_goes _ (rows_of c.args.half.now) _ _ (working c.args.lists.now) _ _ c.requires.room c.clear.ensures c.is_lit_closed.ensures c.if-is_lit_closed.false _ _ c.run.ensures.ends
