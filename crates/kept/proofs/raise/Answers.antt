-- `kept::raise` meets its contract. Assumes nothing.
use Rattle.kept.proofs.Tallying.{raised}
use borrow.Author.Rules.{rules}
use Rattle.kept.proofs.raise.Goals as goal

pub returns : goal.returns
returns c = raised _ _ (search rules) (search rules)
