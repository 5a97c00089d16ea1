-- `readout::begin` meets its contract. Assumes nothing.
use borrow.Author.Rules.{rules}
use Rattle.readout.proofs.Clearing.{begun_stale, begun_still}
use Rattle.readout.proofs.begin.Goals as goal

pub returns-then-st : goal.returns-then-st
returns-then-st c = begun_stale _ _ _ _ (search rules) c.clear.ensures c.clear-then-st.ensures

pub returns-else-st : goal.returns-else-st
returns-else-st c = begun_still _ _ (search rules)
