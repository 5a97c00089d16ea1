-- `filling::add_row` meets its contract. Assumes nothing.
use native.Mathlib.Omega.{arith}
use borrow.Author.Rules.{rules}
use Rattle.filling.proofs.KeptRows.{adding_start, adding_end}
use Rattle.filling.proofs.add_row.Goals as goal

pub loop-q-init : goal.loop-q-init
loop-q-init c = adding_start _ _ _ _ _

pub overflow_add-open : goal.overflow_add-open
overflow_add-open c = let few = c.loop-q.invariant.few in search rules

pub returns : goal.returns
returns c = adding_end _ _ _ _ _ _ _ _ c.loop-q.invariant (omega arith)
