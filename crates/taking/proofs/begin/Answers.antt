-- `taking::begin` meets its contract. Assumes nothing.
use Rattle.taking.proofs.begin.Goals as goal

pub returns : goal.returns
returns c = rw (c.next_length.ensures, c.is_full.ensures)
