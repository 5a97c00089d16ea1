-- `blocks::flushed` meets its contract. Assumes nothing.
use mathlib.Core.Path.{refl}
use Rattle.blocks.proofs.flushed.Goals as goal

pub returns : goal.returns
returns g c =
    record { state = refl; tally = refl; taken = refl; over = refl; next = c.next_length.ensures; written = c.flush-after.ensures }
