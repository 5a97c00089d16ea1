-- `numbering::is_known` meets its contract. Assumes nothing.
use borrow.Author.Tests.{lt-ltb}
use Rattle.binary.specs.Words.{listed}
use Rattle.numbering.proofs.is_known.Goals as goal

pub returns-then-q-n : goal.returns-then-q-n
unfolding listed
returns-then-q-n c = rw (lt-ltb c.args.q c.args.n c.if-q-n.true)
