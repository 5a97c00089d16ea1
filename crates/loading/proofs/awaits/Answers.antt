-- `loading::awaits` meets its contract. Assumes nothing.
use borrow.Author.Rules.{rules}
use Rattle.loading.specs.Loading.{awaits?}
use Rattle.loading.proofs.awaits.Goals as goal

pub returns-then-ne : goal.returns-then-ne
unfolding awaits?
returns-then-ne c = search rules

pub returns-then-not-in_range : goal.returns-then-not-in_range
unfolding awaits?
returns-then-not-in_range c = search rules

pub returns-in-X : goal.returns-in-X
unfolding awaits?
returns-in-X c = rw c.in-X.is (search rules)

pub returns-then-sizes-st : goal.returns-then-sizes-st
unfolding awaits?
returns-then-sizes-st c = search rules

pub returns-else-sizes-st : goal.returns-else-sizes-st
unfolding awaits?
returns-else-sizes-st c = search rules
