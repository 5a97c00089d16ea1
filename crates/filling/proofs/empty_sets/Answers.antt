-- `filling::empty_sets` meets its contract. Assumes nothing.
use mathlib.Core.Path.{◌∙◌}
use native.Mathlib.Omega.{arith}
use borrow.Author.Rules.{rules}
use Rattle.filling.proofs.KeptRows.{emptying_start, emptying_end}
use Rattle.filling.proofs.empty_sets.Goals as goal

pub loop-q-init : goal.loop-q-init
loop-q-init c = (search rules, emptying_start _ _ _)

pub shape_of-work : goal.shape_of-work
shape_of-work c = c.clear-2.ensures.long ∙ c.loop-q.invariant.1.long

pub returns : goal.returns
returns c = emptying_end _ _ _ _ _ c.loop-q.invariant.1 (omega (arith, c.loop-q-test.false)) c.requires.0 _ c.clear-2.ensures
