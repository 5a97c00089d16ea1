-- `search::next_row` meets its contract. Assumes nothing.
use native.Mathlib.Omega.{arith}
use Rattle.search.proofs.Rows.{none_next}
use borrow.Author.Rules.{rules}
use Rattle.search.proofs.next_row.Goals as goal

pub returns-then-left-eq0 : goal.returns-then-left-eq0
returns-then-left-eq0 c = none_next _ _ _ _ _ (search rules) (omega arith)
