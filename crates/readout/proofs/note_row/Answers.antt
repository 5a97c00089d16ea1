-- `readout::note_row` meets its contract. Assumes nothing.
use Rattle.readout.proofs.Adding.{notes}
use Rattle.readout.proofs.note_row.Goals as goal

pub returns : goal.returns
returns c = notes c.args.reading c.args.kind _ _ _ _ _ _ _ _ _ c.element.ensures c.rows_of-count.ensures c.first_of-first.ensures.0 c.add.ensures
