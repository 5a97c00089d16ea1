-- `turns::run_turns` meets its contract. Assumes nothing.
use mathlib.Core.Path.{ap}
use mathlib.Core.Bool.{not}
use native.Mathlib.Omega.{arith}
use Rattle.scans.specs.Half.{rows_of}
use Rattle.turns.specs.Lent.{working}
use Rattle.turns.proofs.Marked.{enough_out, enough_told, answers_refused, answers_over}
use Rattle.turns.proofs.run_turns.Goals as goal

pub returns-then-not-is_enough-clause-runs : goal.returns-then-not-is_enough-clause-runs
returns-then-not-is_enough-clause-runs c = answers_refused _ _ _ _ _ (working c.args.lists.now) _ c.is_enough.ensures (ap not c.if-not-is_enough.true)

pub turn_half-ended-requires : goal.turn_half-ended-requires
turn_half-ended-requires c = record { room = enough_out _ (rows_of c.args.half.now) (working c.args.lists.now) (enough_told _ _ c.is_enough.ensures (ap not c.if-not-is_enough.false)) }

pub report-requires : goal.report-requires
report-requires c =
    let room = enough_out _ (rows_of c.args.half.now) (working c.args.lists.now) (enough_told _ _ c.is_enough.ensures (ap not c.if-not-is_enough.false)) in
    omega (arith, room.marks, c.turn_half-ended.ensures.turned.stays.marks_long)

pub returns-clause-runs : goal.returns-clause-runs
returns-clause-runs c =
    answers_over _ _ _ _ _ (working c.args.lists.now) _ c.is_enough.ensures (ap not c.if-not-is_enough.false) _ _ _ c.turn_half-ended.ensures.turned c.report.ensures
