-- `shots::run::run` meets its contract. Assumes nothing.
use Rattle.shots.proofs.Rests.{room_left}
use Rattle.shots.proofs.Runs.{runs_none, goes_on, goes_room, runs_more, runs_ran}
use Rattle.shots.specs.Run.{BlockRead}
use native.Mathlib.Omega.{arith}
use borrow.Author.Tests.{not-true, not-false}
use mathlib.Core.Bool.{false}
use mathlib.Core.Logic.{inl, inr}
use mathlib.Core.Path.{◌≡◌, refl, ◌∙◌}
use Rattle.shots.proofs.run.run.Goals as goal

pub loop-refills-init : goal.loop-refills-init
loop-refills-init g c = (runs_none _ _ c.fresh.result c.fresh.ensures, record { flat = refl; ends = refl; shot = refl; window = refl }, refl, refl, refl)

pub take_block-here-requires : goal.take_block-here-requires
take_block-here-requires g c =
    let l = c.loop-refills in
    let f = c.refill-read in
    let o : l.here.over ≡ false = not-true _ c.if-not-here.true in
    (omega (arith, f.ensures.most l.invariant.0.held, f.auto.block), (goes_on l.invariant.0 o).1, room_left c.requires l.invariant.3 l.invariant.4)

pub overflow_sub-refills : goal.overflow_sub-refills
overflow_sub-refills g c = omega (arith, c.loop-refills-test.true)

pub loop-refills-smaller : goal.loop-refills-smaller
loop-refills-smaller g c = omega (arith, c.loop-refills-test.true)

pub loop-refills-preserved : goal.loop-refills-preserved
loop-refills-preserved g c =
    let l = c.loop-refills in
    let r = c.take_block-here in
    let f = c.refill-read in
    let same = r.ensures.same_passed in
    let old = l.invariant.1 in
    let o : l.here.over ≡ false = not-true _ c.if-not-here.true in
    let b : BlockRead l.here l.block f.new.block f.result = record { goes = o; room = goes_room l.invariant.0 o (omega (arith, l.invariant.2, c.requires.bytes)); refills = f.ensures; same = f.auto.block } in
    (runs_more l.invariant.0 _ f.new.block _ r.result f.result b r.ensures.taken c.loop-refills-test.true, record { flat = same.flat ∙ old.flat; ends = same.ends ∙ old.ends; shot = same.shot ∙ old.shot; window = same.window ∙ old.window }, r.auto.block ∙ (f.auto.block ∙ l.invariant.2), r.auto.out ∙ l.invariant.3, r.auto.places ∙ l.invariant.4)

pub shape_of-block-else-not-here : goal.shape_of-block-else-not-here
shape_of-block-else-not-here g c = c.loop-refills.invariant.2

pub shape_of-out-else-not-here : goal.shape_of-out-else-not-here
shape_of-out-else-not-here g c = c.loop-refills.invariant.3

pub shape_of-places-else-not-here : goal.shape_of-places-else-not-here
shape_of-places-else-not-here g c = c.loop-refills.invariant.4

pub returns-else-not-here : goal.returns-else-not-here
returns-else-not-here g c = record { ran = runs_ran c.loop-refills.invariant.0 (inl (not-false _ c.if-not-here.false)); same_passed = c.loop-refills.invariant.1 }

pub shape_of-block-after-loop-refills : goal.shape_of-block-after-loop-refills
shape_of-block-after-loop-refills g c = c.loop-refills.invariant.2

pub shape_of-out-after-loop-refills : goal.shape_of-out-after-loop-refills
shape_of-out-after-loop-refills g c = c.loop-refills.invariant.3

pub shape_of-places-after-loop-refills : goal.shape_of-places-after-loop-refills
shape_of-places-after-loop-refills g c = c.loop-refills.invariant.4

pub returns-after-loop-refills : goal.returns-after-loop-refills
returns-after-loop-refills g c = record { ran = runs_ran c.loop-refills.invariant.0 (inr (omega (arith, c.loop-refills-test.false))); same_passed = c.loop-refills.invariant.1 }
