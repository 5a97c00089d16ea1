-- `readout::lose` meets its contract. Assumes nothing.
use Rattle.records.specs.Records.{lost}
use Rattle.readout.proofs.Adding.{adds}
use Rattle.readout.proofs.lose.Goals as goal

pub returns : goal.returns
returns c = adds lost _ _ _ _ _ _ c.add.ensures
