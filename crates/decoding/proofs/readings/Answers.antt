-- `decoding::readings` meets its contract. Assumes nothing.
use Rattle.decoding.specs.Decoding.{readings_of}
use Rattle.decoding.proofs.Halves.{part_rest}
use Rattle.decoding.proofs.readings.Goals as goal

pub returns : goal.returns
unfolding readings_of
returns c = part_rest 1024 c.args.shot.now
