-- `turns::turns::run` meets its contract: the half that is left to run ends as the whole one. Assumes nothing.
use mathlib.Core.Path.{◌≡◌, ◌∙◌}
use native.Mathlib.Omega.{arith}
use Rattle.turns.specs.Lent.{working}
use Rattle.turns.proofs.Running.{goes_finished, goes_stopped, goes_spent, goes_failed, goes_on}
use Rattle.turns.proofs.turns.run.Goals as goal

pub returns-then-turns-limit-clause-ends : goal.returns-then-turns-limit-clause-ends
returns-then-turns-limit-clause-ends c = goes_stopped _ _ _ _ _ _ _ (working c.loop-i.lists) _ _ _ _ c.loop-i.invariant.goes (omega (arith, c.loop-i-test.true)) c.if-turns-limit.true

pub returns-in_default-clause-ends : goal.returns-in_default-clause-ends
returns-in_default-clause-ends c =
    goes_spent _ _ _ _ _ _ _ (working c.loop-i.lists) _ _ _ _ c.loop-i.invariant.goes (omega (arith, c.loop-i-test.true)) c.if-turns-limit.false _ _ c.make_turn.ensures.moved c.in_default.is

pub returns-in_default-taken-clause-ends : goal.returns-in_default-taken-clause-ends
returns-in_default-taken-clause-ends c =
    goes_failed _ _ _ _ _ _ _ (working c.loop-i.lists) _ _ _ _ c.loop-i.invariant.goes (omega (arith, c.loop-i-test.true)) c.if-turns-limit.false _ _ c.make_turn.ensures.moved _ c.in-Some.is c.in_default-taken.is

pub loop-i-preserved : goal.loop-i-preserved
loop-i-preserved c =
    let kept = c.make_turn.ensures.same in
    let so_far = c.loop-i.invariant.same in
    record {
      same = record { marks = kept.marks ∙ so_far.marks; forms = kept.forms ∙ so_far.forms; work = kept.work ∙ so_far.work };
      goes = goes_on _ _ _ _ _ _ _ (working c.loop-i.lists) _ _ _ _ c.loop-i.invariant.goes (omega (arith, c.loop-i-test.true)) c.if-turns-limit.false _ _ c.make_turn.ensures.moved _ c.in-Some.is _ c.in-Some-taken.is _ _ (omega arith) (omega arith);
    }

pub returns-clause-ends : goal.returns-clause-ends
returns-clause-ends c =
    let done : c.loop-i.i ≡ c.marked-unsettled.result = omega (arith, c.loop-i-test.false, c.loop-i.auto.i-end) in
    goes_finished _ _ _ _ _ _ _ (working c.loop-i.lists) _ _ _ _ c.loop-i.invariant.goes _ (rw done c.finished.ensures) (omega (arith, c.loop-i-test.false))
