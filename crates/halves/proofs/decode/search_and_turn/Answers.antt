-- `halves::decode::search_and_turn` meets its contract. Assumes nothing.
use Rattle.scans.specs.Half.{rows_of}
use Rattle.turns.specs.Lent.{working}
use Rattle.halves.proofs.HalfRuns.{searched_over, searched_left, searched_again}
use Rattle.halves.proofs.decode.search_and_turn.Goals as goal

pub returns-in-Over-clause-ran : goal.returns-in-Over-clause-ran
returns-in-Over-clause-ran c =
    searched_over _ (rows_of c.args.half.now) _ _ _ _ _ (working c.args.lists.now) c.requires _ _ c.mark_start.ensures _ c.fixed-fixed.ensures _ _ c.try_turns.ensures.tries _ c.in-Over.is

pub returns-in-Left-clause-ran : goal.returns-in-Left-clause-ran
returns-in-Left-clause-ran c =
    searched_left _ (rows_of c.args.half.now) _ _ _ _ _ (working c.args.lists.now) c.requires _ _ c.mark_start.ensures _ c.fixed-fixed.ensures _ _ c.try_turns.ensures.tries _ c.fill.ensures.fills
    _ _ _ c.in-Left.is (rw c.fill.ensures.marks at c.go_on.ensures.goes_on)

pub returns-in-Unknown-clause-ran : goal.returns-in-Unknown-clause-ran
returns-in-Unknown-clause-ran c =
    searched_again _ (rows_of c.args.half.now) _ _ _ _ _ (working c.args.lists.now) c.requires _ _ c.mark_start.ensures _ c.fixed-fixed.ensures _ _ c.try_turns.ensures.tries _ c.fill-in-Unknown.ensures.fills
    _ _ c.in-Unknown.is (rw c.fill-in-Unknown.ensures.marks at c.run_turns.ensures.runs)
