-- `turns::go_on` meets its contract. Assumes nothing.
use mathlib.Core.Path.{ap}
use mathlib.Core.Bool.{Bool, ◌&&◌, not}
use native.Mathlib.Omega.{arith}
use lib.Dec.{leb}
use Rattle.binary.proofs.Bits.{and_out}
use Rattle.scans.specs.Half.{rows_of}
use Rattle.turns.specs.Lent.{working}
use Rattle.turns.proofs.Marked.{enough_out, enough_told, half_rest, answers_refused, answers_over}
use Rattle.turns.proofs.go_on.Goals as goal

pub returns-then-not-is_enough-made-clause-goes_on : goal.returns-then-not-is_enough-made-clause-goes_on
returns-then-not-is_enough-made-clause-goes_on c =
    answers_refused _ _ _ _ _ (working c.args.lists.now) _ (ap (λ (b : Bool). b && leb c.args.made c.args.limit) c.is_enough.ensures) (ap not c.if-not-is_enough-made.true)

pub run-ended-requires-clause-room : goal.run-ended-requires-clause-room
run-ended-requires-clause-room c =
    let both = and_out _ _ (enough_told _ _ (ap (λ (b : Bool). b && leb c.args.made c.args.limit) c.is_enough.ensures) (ap not c.if-not-is_enough-made.false)) in
    enough_out _ (rows_of c.args.half.now) (working c.args.lists.now) both.0

pub report-requires : goal.report-requires
report-requires c =
    let both = and_out _ _ (enough_told _ _ (ap (λ (b : Bool). b && leb c.args.made c.args.limit) c.is_enough.ensures) (ap not c.if-not-is_enough-made.false)) in
    let room = enough_out _ (rows_of c.args.half.now) (working c.args.lists.now) both.0 in
    omega (arith, room.marks, c.run-ended.ensures.ends.stays.marks_long)

pub returns-clause-goes_on : goal.returns-clause-goes_on
returns-clause-goes_on c =
    answers_over _ _ _ _ _ (working c.args.lists.now) _ (ap (λ (b : Bool). b && leb c.args.made c.args.limit) c.is_enough.ensures) (ap not c.if-not-is_enough-made.false) _ _ _
    (half_rest _ _ _ _ _ (working c.args.lists.now) _ _ c.run-ended.ensures.ends) c.report.ensures
