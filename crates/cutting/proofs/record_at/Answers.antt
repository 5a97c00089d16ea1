-- `cutting::record_at` meets its contract. Assumes nothing.
use mathlib.Core.Bool.{true, false}
use Rattle.cutting.proofs.Nexts.{at_none, at_whole, at_cut}
use borrow.Author.Rules.{rules}
use Rattle.cutting.proofs.record_at.Goals as goal

pub returns-then-bytes-at : goal.returns-then-bytes-at
returns-then-bytes-at c = at_none c.args.bytes.now c.args.at c.args.ended (search rules)

pub returns-then-whole-left : goal.returns-then-whole-left
returns-then-whole-left c = at_whole c.args.bytes.now c.args.at c.args.ended c.whole_length-whole.result c.whole_length-whole.ensures (search rules)

pub returns-then-ended : goal.returns-then-ended
returns-then-ended c = rw c.if-ended.true (at_cut c.args.bytes.now c.args.at true c.whole_length-whole.result c.whole_length-whole.ensures (search rules))

pub returns-else-ended : goal.returns-else-ended
returns-else-ended c = rw c.if-ended.false (at_cut c.args.bytes.now c.args.at false c.whole_length-whole.result c.whole_length-whole.ensures (search rules))
