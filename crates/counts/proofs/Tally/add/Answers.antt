-- `counts::Tally::add` meets its contract. Assumes nothing.
use Rattle.counts.specs.Counts.{tallied}
use Rattle.counts.proofs.Tally.add.Goals as goal

pub returns-in-Refused : goal.returns-in-Refused
unfolding tallied
returns-in-Refused c = rw (c.in-Refused.is, c.refused.ensures, c.taken-one.ensures)

pub returns-in-Taken : goal.returns-in-Taken
unfolding tallied
returns-in-Taken c = rw (c.in-Taken.is, c.taken-one.ensures)

pub returns-in-Complete : goal.returns-in-Complete
unfolding tallied
returns-in-Complete c = rw (c.in-Complete.is, c.completed.ensures, c.taken-one.ensures)

pub returns-in-Decoded : goal.returns-in-Decoded
unfolding tallied
returns-in-Decoded c = rw (c.in-Decoded.is, c.decoded.ensures, c.taken-one.ensures)
