-- `taking::take_records` meets its contract. Assumes nothing.
use Rattle.taking.proofs.Answers.{begin_ready}
use Rattle.taking.proofs.take_records.Goals as goal

pub all_records-requires : goal.all_records-requires
all_records-requires g c = (rw c.begin-p.ensures, rw c.begin-p.ensures, rw c.begin-p.ensures (begin_ready _ _ _ _ _ _ _))

pub returns-clause-filled : goal.returns-clause-filled
returns-clause-filled g c = rw c.begin-p.ensures at c.all_records.ensures.filled
