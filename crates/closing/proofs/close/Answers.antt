-- `closing::close` meets its contract: the rows before row i are done. Assumes nothing.
use mathlib.Core.Path.{refl}
use native.Mathlib.Omega.{arith}
use Rattle.closing.proofs.ClosingRows.{all_start, all_failed, all_turn, all_end}
use Rattle.closing.proofs.close.Goals as goal

pub loop-i-init : goal.loop-i-init
loop-i-init c = all_start _ _ _ _ _ _ c.requires.small c.requires.few _ c.next_in-i.ensures

pub returns-in_err-left : goal.returns-in_err-left
returns-in_err-left c =
    let start = c in
    rw c.from_residual.ensures (all_failed _ _ _ _ _ _ start.requires.small start.requires.few _ _ _ _ c.loop-i.invariant c.loop-i-test.true (omega (arith, start.requires.work_long)) start.requires.forms_long _ _ c.lower-open.ensures _ refl _ _ c.take_up_if.ensures c.in_err-left.was)

pub loop-i-preserved : goal.loop-i-preserved
loop-i-preserved c =
    let start = c in
    all_turn _ _ _ _ _ _ start.requires.small start.requires.few _ _ _ _ c.loop-i.invariant c.loop-i-test.true (omega (arith, start.requires.work_long)) start.requires.forms_long _ _ c.lower-open.ensures _ refl _ _ c.take_up_if.ensures _ c.in_ok-left.was _ c.next_in-i-in-loop-i.ensures

pub returns : goal.returns
returns c = all_end _ _ _ _ _ _ c.requires.small c.requires.few _ _ _ _ c.loop-i.invariant (omega (arith, c.loop-i-test.false))
