-- `turns::turns::make_turn` meets its contract. Assumes nothing.
use mathlib.Core.Path.{refl}
use native.Mathlib.Omega.{arith}
use Rattle.scans.proofs.Scanning.{open_below_lem}
use Rattle.turns.specs.Lent.{working}
use Rattle.turns.proofs.Moves.{moved_shut, moved_peel, moved_spent, moved_guess}
use Rattle.turns.proofs.turns.make_turn.Goals as goal

pub returns-then-budget-live-clause-moved : goal.returns-then-budget-live-clause-moved
returns-then-budget-live-clause-moved c =
    moved_spent _ _ _ _ _ (working c.args.lists.now) (working c.args.lists.now) _ c.lowest-i.ensures (omega (arith, c.requires.room.work)) c.if-rows-i.true c.if-budget-live.true

pub returns-then-rows-i-clause-moved : goal.returns-then-rows-i-clause-moved
returns-then-rows-i-clause-moved c =
    moved_guess _ _ _ _ _ (working c.args.lists.now) _ _ c.lowest-i.ensures (omega (arith, c.requires.room.work)) c.if-rows-i.true c.if-budget-live.false _ c.guess_freest.ensures.guessed

pub returns-then-row-at-clause-moved : goal.returns-then-row-at-clause-moved
returns-then-row-at-clause-moved c =
    moved_shut _ _ _ _ _ (working c.args.lists.now) (working c.args.lists.now) _ c.lowest-i.ensures (omega (arith, c.requires.room.work)) c.if-rows-i.false _ c.row-row.ensures _ c.first_open-at.ensures c.if-row-at.true

pub peel-taken-requires-clause-unsettled : goal.peel-taken-requires-clause-unsettled
peel-taken-requires-clause-unsettled c =
    let is_open_lem = c.first_open-at.ensures.found c.if-row-at.false in
    record { below = open_below_lem _ c.args.lists.now.marks.now _ is_open_lem; marked = is_open_lem }

pub returns-clause-moved : goal.returns-clause-moved
returns-clause-moved c =
    moved_peel _ _ _ _ _ (working c.args.lists.now) _ _ c.lowest-i.ensures (omega (arith, c.requires.room.work)) c.if-rows-i.false _ c.row-row.ensures _ c.first_open-at.ensures _ refl _ c.peel-taken.ensures.turned
