-- `halves::decode_half` meets its contract. Assumes nothing.
use mathlib.Core.Path.{ap}
use mathlib.Core.Bool.{not}
use Rattle.machine.specs.Lent.{half_lists}
use Rattle.halves.specs.Decode.{given}
use Rattle.halves.proofs.HalfDecodes.{long_enough, room_then, decodes_refused, decodes_done}
use Rattle.halves.proofs.decode_half.Goals as goal

pub returns-then-not-is_enough-clause-decodes : goal.returns-then-not-is_enough-clause-decodes
returns-then-not-is_enough-clause-decodes c =
    let a = c.args in decodes_refused (given a.half.now a.lost.now a.others a.budget a.limit) a.work.now (half_lists a.lists.now) _ (c.is_enough.ensures a.budget a.limit) (ap not c.if-not-is_enough.true)

pub run_half-requires : goal.run_half-requires
run_half-requires c =
    let a = c.args in (long_enough (given a.half.now a.lost.now a.others a.budget a.limit) a.work.now (half_lists a.lists.now) _ (c.is_enough.ensures a.budget a.limit) (ap not c.if-not-is_enough.false)).0

pub finish-requires : goal.finish-requires
finish-requires c =
    let a = c.args in
    room_then (given a.half.now a.lost.now a.others a.budget a.limit) a.work.now (half_lists a.lists.now) _ _ (c.is_enough.ensures a.budget a.limit) (ap not c.if-not-is_enough.false) _ c.run_half.ensures

pub returns-clause-decodes : goal.returns-clause-decodes
returns-clause-decodes c =
    let a = c.args in
    decodes_done (given a.half.now a.lost.now a.others a.budget a.limit) a.work.now (half_lists a.lists.now) _ _ (c.is_enough.ensures a.budget a.limit) (ap not c.if-not-is_enough.false) _ c.run_half.ensures
    _ c.in_ok-told.was _ c.finish.ensures.finished c.finish.ensures.words
