-- `starting::open_marks` meets its contract. Assumes nothing.
use borrow.Author.Tests.{leb-true}
use Rattle.binary.proofs.Bits.{and_out}
use Rattle.starting.proofs.Ways.{opens_made, opens_not}
use Rattle.starting.proofs.open_marks.Goals as goal

pub start_marks-requires : goal.start_marks-requires
start_marks-requires c = let both = and_out _ _ c.if-size-lost.true in record { n_in_bounds = leb-true _ _ both.0; n_bound = leb-true _ _ both.1 }

pub returns-then-size-lost : goal.returns-then-size-lost
returns-then-size-lost c = let both = and_out _ _ c.if-size-lost.true in opens_made _ _ _ (leb-true _ _ both.0, leb-true _ _ both.1) _ c.start_marks.ensures

pub returns-else-size-lost : goal.returns-else-size-lost
returns-else-size-lost c = opens_not _ _ _ c.if-size-lost.false
