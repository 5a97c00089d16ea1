-- `stream::take::read_row` meets its contract. Assumes nothing.
use borrow.Author.Rules.{rules}
use Rattle.stream.proofs.Taking.{row_read}
use Rattle.stream.proofs.take.read_row.Goals as goal

pub returns : goal.returns
returns c =
    let a = c.args in
    row_read _ _ _ _ _ a.bytes.now a.w _ _ _ _ (search rules) c.qubits_of-body.ensures.first c.take_row.ensures
