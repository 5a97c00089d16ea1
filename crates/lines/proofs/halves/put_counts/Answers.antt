-- `lines::halves::put_counts` meets its contract. Assumes nothing.
use Rattle.text.proofs.Putting.{adds_then}
use Rattle.lines.proofs.halves.put_counts.Goals as goal

pub returns : goal.returns
returns c = adds_then (adds_then (adds_then c.put_number.ensures c.put_number-2.ensures) c.put_number-3.ensures) c.put_number-4.ensures
