-- `lines::room_for` meets its contract. Assumes nothing.
use Rattle.lines.specs.Lines.{room_for}
use Rattle.lines.proofs.room_for.Goals as goal

pub returns : goal.returns
unfolding room_for
returns c = rw (c.min.ensures, c.min-2.ensures, c.from-n.ensures)
