-- `halves::decode::start_and_turn` meets its contract. Assumes nothing.
use Rattle.scans.specs.Half.{rows_of}
use Rattle.turns.specs.Lent.{working}
use Rattle.halves.proofs.HalfRuns.{half_tried, half_searched, half_again}
use Rattle.halves.proofs.decode.start_and_turn.Goals as goal

pub returns-in-Over-clause-ran : goal.returns-in-Over-clause-ran
returns-in-Over-clause-ran c =
    half_tried _ (rows_of c.args.half.now) _ _ _ _ (working c.args.lists.now) c.requires _ c.open_marks.ensures _ _ c.try_turns.ensures.tries _ _ c.in-Over.is

pub returns-in-Left-clause-ran : goal.returns-in-Left-clause-ran
returns-in-Left-clause-ran c =
    half_searched _ (rows_of c.args.half.now) _ _ _ _ (working c.args.lists.now) c.requires _ c.open_marks.ensures _ _ c.try_turns.ensures.tries _ _ _ c.search_and_turn.ensures.ran

pub returns-in-Unknown-clause-ran : goal.returns-in-Unknown-clause-ran
returns-in-Unknown-clause-ran c =
    half_again _ (rows_of c.args.half.now) _ _ _ _ (working c.args.lists.now) c.requires _ c.open_marks.ensures _ _ c.try_turns.ensures.tries _ _ _ _ _ c.start.ensures c.run_turns.ensures.runs
