-- `filling::put_rows` meets its contract: the rows before row r are put. Assumes nothing.
use native.Mathlib.Omega.{arith}
use Rattle.filling.proofs.KeptQubits.{putting_start, putting_row, putting_end}
use Rattle.filling.proofs.put_rows.Goals as goal

pub loop-r-init : goal.loop-r-init
loop-r-init c = putting_start _ _ _ _ _ _ c.requires.few (omega (arith, c.requires.words, c.clear.ensures.long))

pub loop-r-preserved : goal.loop-r-preserved
loop-r-preserved c = putting_row _ _ _ _ _ _ c.requires.few (omega (arith, c.requires.words, c.clear.ensures.long)) _ _ c.loop-r.invariant c.loop-r-test.true _ c.put_row.ensures

pub returns : goal.returns
returns c = putting_end _ _ _ _ _ _ c.requires.few (omega (arith, c.requires.words, c.clear.ensures.long)) _ _ c.loop-r.invariant (omega arith) _ c.clear.ensures
