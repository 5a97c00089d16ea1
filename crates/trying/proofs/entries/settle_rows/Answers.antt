-- `trying::entries::settle_rows` meets its contract: the rows before the one at hand have the value in place of the qubit. Assumes nothing.
use mathlib.Core.Path.{◌∙◌}
use native.Mathlib.Omega.{arith}
use Rattle.trying.proofs.SettlingRows.{settling_start, settling_row, settling_not, settling_end}
use Rattle.trying.proofs.entries.settle_rows.Goals as goal

pub loop-r-init : goal.loop-r-init
loop-r-init c = settling_start _ _ _ _ _ _ _ c.requires.1

pub settle_row-requires : goal.settle_row-requires
settle_row-requires c = (c.requires.0, c.requires.1, omega (arith, c.requires.2, c.loop-r.invariant.long))

pub shape_of-work-then-not-settle_row : goal.shape_of-work-then-not-settle_row
shape_of-work-then-not-settle_row c = c.settle_row.ensures.long ∙ c.loop-r.invariant.long

pub returns-then-not-settle_row : goal.returns-then-not-settle_row
returns-then-not-settle_row c = settling_not _ _ _ _ _ _ _ c.requires.1 _ _ c.loop-r.invariant (omega arith) _ _ c.settle_row.ensures

pub loop-r-preserved : goal.loop-r-preserved
loop-r-preserved c = settling_row _ _ _ _ _ _ _ c.requires.1 _ _ c.loop-r.invariant (omega arith) _ _ c.settle_row.ensures (c.if-not-settle_row.false)

pub shape_of-work : goal.shape_of-work
shape_of-work c = c.loop-r.invariant.long

pub returns : goal.returns
returns c = settling_end _ _ _ _ _ _ _ c.requires.1 _ _ c.loop-r.invariant c.requires.0 (omega arith)
