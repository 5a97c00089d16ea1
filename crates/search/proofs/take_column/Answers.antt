-- `search::take_column` meets its contract. Assumes nothing.
use mathlib.Core.Bool.{not}
use mathlib.Core.Path.{ap}
use Rattle.search.proofs.Stands.{takes_none, takes_one}
use borrow.Author.Rules.{rules}
use Rattle.search.proofs.take_column.Goals as goal

pub returns-then-not-clear_column : goal.returns-then-not-clear_column
returns-then-not-clear_column c = takes_none _ _ _ _ _ _ _ c.clear_column.ensures (ap not c.if-not-clear_column.true)

pub returns : goal.returns
returns c =
    takes_one _ _ _ _ _ _ _ (search rules) (search rules) (search rules) c.clear_column.ensures (ap not c.if-not-clear_column.false)
