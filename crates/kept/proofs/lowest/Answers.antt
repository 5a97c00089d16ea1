-- `kept::lowest` meets its contract. Assumes nothing.
use native.Mathlib.Omega.{arith}
use borrow.Author.Rules.{rules}
use Rattle.kept.proofs.Tallying.{lowest_none, lowest_found}
use Rattle.kept.proofs.lowest.Goals as goal

pub returns-then-work-lt-END : goal.returns-then-work-lt-END
returns-then-work-lt-END c = lowest_none _ _ (grind arith)

pub returns : goal.returns
returns c = lowest_found _ _ (omega arith) (search rules) _ c.next_in.ensures
