-- `peeling::peel_one` meets its contract. Assumes nothing.
use mathlib.Core.Path.{refl}
use native.Mathlib.Omega.{arith}
use Rattle.peeling.proofs.Steps.{step_none, step_shut, p_below, step_made}
use Rattle.peeling.proofs.peel_one.Goals as goal

pub returns-then-count-i : goal.returns-then-count-i
returns-then-count-i c = step_none _ _ _ _ _ _ _ c.lowest-i.ensures c.requires.2 (omega arith)

pub returns-then-row-at : goal.returns-then-row-at
returns-then-row-at c = step_shut _ _ _ _ _ _ _ c.lowest-i.ensures c.requires.2 (omega (arith, c.if-count-i.false)) _ c.row-row.ensures _ c.first_open-at.ensures c.if-row-at.true

pub overflow_cast-q : goal.overflow_cast-q
overflow_cast-q c = omega (arith, c.shared_slice_known-1.given c.first_open-at.result)

pub bounds-marks-q : goal.bounds-marks-q
bounds-marks-q c = let b = p_below _ _ _ _ _ (record { marks = c.args.marks.now; work = c.args.work.now }) _ c.lowest-i.ensures c.requires.2 (omega (arith, c.if-count-i.false)) _ c.row-row.ensures _ c.first_open-at.ensures (omega (arith, c.if-row-at.false)) _ refl c.requires.0 c.requires.3 c.requires.1 in omega (arith, b, c.requires.1)

pub returns : goal.returns
returns c = step_made _ _ _ _ _ (record { marks = c.args.marks.now; work = c.args.work.now }) _ c.lowest-i.ensures c.requires.2 (omega (arith, c.if-count-i.false)) _ c.row-row.ensures _ c.first_open-at.ensures (omega (arith, c.if-row-at.false)) _ refl c.requires.0 c.requires.3 c.requires.1 _ c.lower_rows.ensures
