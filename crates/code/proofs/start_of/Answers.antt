-- `code::start_of` meets its contract. Assumes nothing.
use borrow.Author.Rules.{rules}
use Rattle.code.proofs.Lists.{start_first, start_later}
use Rattle.code.proofs.start_of.Goals as goal

pub returns-then-r-eq0 : goal.returns-then-r-eq0
returns-then-r-eq0 c = (start_first _ _ c.if-r-eq0.true, search rules)

pub returns : goal.returns
returns c = (start_later _ _ _ (search rules) c.end_of.ensures.0, search rules)
