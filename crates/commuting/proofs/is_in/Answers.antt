-- `commuting::is_in` meets its contract. Assumes nothing.
use Rattle.commuting.proofs.Sets.{not_in, is_in}
use Rattle.commuting.proofs.is_in.Goals as goal

pub returns-then-q-ge1024 : goal.returns-then-q-ge1024
returns-then-q-ge1024 c = not_in c.args.set.now c.args.q.0 c.if-q-ge1024.true

pub returns : goal.returns
returns c = is_in c.args.set.now c.args.q.0 c.if-q-ge1024.false
