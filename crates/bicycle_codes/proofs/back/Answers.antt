-- `bicycle_codes::back` meets its contract. Assumes nothing.
use Rattle.bicycle_codes.proofs.back.Goals as goal

pub returns : goal.returns
returns c = rw (c.back_of.ensures, c.back_of-2.ensures, c.back_of-3.ensures)
