-- `commuting::all_even` meets its contract: the rows that are left decide. Assumes nothing.
use mathlib.Core.Path.{refl}
use borrow.Author.Rules.{rules}
use Rattle.commuting.proofs.Turns.{even_odd, even_turn, even_end}
use Rattle.commuting.proofs.all_even.Goals as goal

pub loop-r-init : goal.loop-r-init
loop-r-init c = refl

pub returns-then-has_odd : goal.returns-then-has_odd
returns-then-has_odd c = even_odd _ _ _ _ _ _ c.loop-r.invariant _ c.row.ensures (search rules) _ c.has_odd.ensures (search rules)

pub loop-r-preserved : goal.loop-r-preserved
loop-r-preserved c = even_turn _ _ _ _ _ _ c.loop-r.invariant _ c.row.ensures (search rules) _ c.has_odd.ensures (search rules)

pub returns : goal.returns
returns c = even_end _ _ _ _ _ _ c.loop-r.invariant (search rules)
