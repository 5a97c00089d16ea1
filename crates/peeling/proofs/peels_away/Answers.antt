-- `peeling::peels_away` meets its contract: so many open qubits are left. Assumes nothing.
use mathlib.Core.Path.{◌∙◌, ap}
use mathlib.Core.Bool.{true, not}
use native.Mathlib.Omega.{arith}
use Rattle.peeling.proofs.Steps.{room, enough_told, peels_refused, goes_start, peels_done, peels_stuck, goes_on}
use Rattle.peeling.proofs.peels_away.Goals as goal

pub returns-then-not-is_enough : goal.returns-then-not-is_enough
returns-then-not-is_enough c = peels_refused _ _ _ _ _ (record { marks = c.args.marks.now; work = c.args.work.now }) _ c.is_enough.ensures (ap not c.if-not-is_enough.true)

pub loop-left-init : goal.loop-left-init
loop-left-init c = let f = enough_told _ _ _ _ _ _ c.is_enough.ensures (ap not c.if-not-is_enough.false) in (f, goes_start _ _ _ _ _ (record { marks = c.args.marks.now; work = c.args.work.now }) _ f c.count_marks-left.ensures)

pub peel_one-requires : goal.peel_one-requires
peel_one-requires c =
    let inv = c.loop-left.invariant in
    let r = room _ _ _ _ _ inv.0 in
    (r.size, omega (arith, r.marks, inv.1.stays.marks_long), omega (arith, r.work, inv.1.stays.work_long), r.few, r.last)

pub shape_of-marks-then-not-peel_one : goal.shape_of-marks-then-not-peel_one
shape_of-marks-then-not-peel_one c = c.peel_one.ensures.stays.marks_long ∙ c.loop-left.invariant.1.stays.marks_long

pub shape_of-work-then-not-peel_one : goal.shape_of-work-then-not-peel_one
shape_of-work-then-not-peel_one c = c.peel_one.ensures.stays.work_long ∙ c.loop-left.invariant.1.stays.work_long

pub returns-then-not-peel_one : goal.returns-then-not-peel_one
returns-then-not-peel_one c = peels_stuck _ _ _ _ _ (record { marks = c.args.marks.now; work = c.args.work.now }) _ _ c.loop-left.invariant.1 c.loop-left.invariant.0 c.loop-left-test.true _ _ c.peel_one.ensures (ap not c.if-not-peel_one.true)

pub loop-left-preserved : goal.loop-left-preserved
loop-left-preserved c = (c.loop-left.invariant.0, goes_on _ _ _ _ _ (record { marks = c.args.marks.now; work = c.args.work.now }) _ _ c.loop-left.invariant.1 c.loop-left.invariant.0 c.loop-left-test.true _ _ c.peel_one.ensures (ap not c.if-not-peel_one.false))

pub shape_of-marks : goal.shape_of-marks
shape_of-marks c = c.loop-left.invariant.1.stays.marks_long

pub shape_of-work : goal.shape_of-work
shape_of-work c = c.loop-left.invariant.1.stays.work_long

pub returns : goal.returns
returns c = peels_done _ _ _ _ _ (record { marks = c.args.marks.now; work = c.args.work.now }) _ _ c.loop-left.invariant.1 c.loop-left.invariant.0 (omega (arith, c.loop-left-test.false))
