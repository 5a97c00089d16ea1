-- `bicycle_codes::is_bad` meets its contract. Assumes nothing.
use Rattle.bicycle_codes.proofs.is_bad.Goals as goal

pub returns : goal.returns
returns c = rw (c.is_outside.ensures, c.is_outside-2.ensures, c.is_outside-3.ensures, c.eq.ensures, c.eq-2.ensures, c.eq-3.ensures)
