-- `packing::set_bit` meets its contract. Assumes nothing.
use borrow.Author.Rules.{rules}
use Rattle.packing.proofs.Rows.{bit_set_row}
use Rattle.packing.proofs.set_bit.Goals as goal

pub returns-then-k-w : goal.returns-then-k-w
returns-then-k-w c = bit_set_row _ _ _ _ (search rules) (search rules)
