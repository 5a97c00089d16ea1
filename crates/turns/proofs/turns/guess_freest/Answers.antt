-- `turns::turns::guess_freest` meets its contract. Assumes nothing.
use native.Mathlib.Omega.{arith}
use Rattle.guessing.proofs.Room.{named_as}
use Rattle.scans.proofs.Scanning.{open_below_lem}
use Rattle.turns.specs.Lent.{working}
use Rattle.turns.proofs.Moves.{choice_named, guessed_none, guessed_made}
use Rattle.turns.proofs.turns.guess_freest.Goals as goal

pub returns-in_err-p-clause-guessed : goal.returns-in_err-p-clause-guessed
returns-in_err-p-clause-guessed c =
    let room = c.requires.room in
    rw c.from_residual.ensures
    (guessed_none _ _ _ _ (working c.args.lists.now) _ room.size room.few c.weigh_once.ensures _
    (named_as _ c.args.lists.now.marks.now _ _ room.size room.marks (omega (arith, room.work, c.weigh_once.ensures.alone.long)) c.freest.ensures) c.in_err-p.was)

pub guess-taken-requires-clause-unsettled : goal.guess-taken-requires-clause-unsettled
guess-taken-requires-clause-unsettled c =
    let room = c.requires.room in
    let is_open_lem = choice_named _ c.args.lists.now.marks.now _ _ _ c.freest.ensures room.size room.marks (omega (arith, room.work, c.weigh_once.ensures.alone.long)) c.in_ok-p.was in
    record { below = open_below_lem _ c.args.lists.now.marks.now _ is_open_lem; marked = is_open_lem }

pub returns-clause-guessed : goal.returns-clause-guessed
returns-clause-guessed c =
    let room = c.requires.room in
    guessed_made _ _ _ _ (working c.args.lists.now) _ room.size room.few c.weigh_once.ensures _
    (named_as _ c.args.lists.now.marks.now _ _ room.size room.marks (omega (arith, room.work, c.weigh_once.ensures.alone.long)) c.freest.ensures) _ c.in_ok-p.was _ _ c.guess-taken.ensures.turned
