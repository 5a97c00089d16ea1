-- `trying::tried` meets its contract. Assumes nothing.
use native.Mathlib.Omega.{arith}
use Rattle.turns.specs.Lent.{working}
use Rattle.trying.proofs.Trying.{tried_run}
use Rattle.trying.proofs.tried.Goals as goal

pub returns-clause-tried : goal.returns-clause-tried
returns-clause-tried c =
    tried_run _ _ _ _ (working c.args.lists.now) _ _ _ _ c.clear.ensures c.clear_rows.ensures _ c.open_marked.ensures.opened c.find_dangling.ensures.long
    _ c.in-Some.is _ c.is_lit_closed.ensures c.if-is_lit_closed.false (omega (arith, c.requires.work, c.clear_rows.ensures.long, c.open_marked.ensures.opened.long)) c.requires.few c.requires.read c.find_dangling.ensures _ _ c.run.ensures.tries
