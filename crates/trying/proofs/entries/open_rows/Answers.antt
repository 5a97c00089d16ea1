-- `trying::entries::open_rows` meets its contract: the rows before the one at hand have the qubit. Assumes nothing.
use native.Mathlib.Omega.{arith}
use Rattle.trying.proofs.OpeningRows.{opening_start, opening_row, opening_end}
use Rattle.trying.proofs.entries.open_rows.Goals as goal

pub loop-r-init : goal.loop-r-init
loop-r-init c = opening_start _ _ _ _ _ _ c.requires.0

pub open_row-requires : goal.open_row-requires
open_row-requires c = (c.requires.0, omega (arith, c.requires.1, c.loop-r.invariant.long))

pub loop-r-preserved : goal.loop-r-preserved
loop-r-preserved c = opening_row _ _ _ _ _ _ c.requires.0 _ _ c.loop-r.invariant (omega arith) _ c.open_row.ensures

pub shape_of-work : goal.shape_of-work
shape_of-work c = c.loop-r.invariant.long

pub returns : goal.returns
returns c = opening_end _ _ _ _ _ _ c.requires.0 _ _ c.loop-r.invariant (omega arith)
