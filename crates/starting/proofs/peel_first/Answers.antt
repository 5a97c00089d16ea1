-- `starting::peel_first` meets its contract. Assumes nothing.
use Rattle.scans.specs.Half.{rows_of}
use Rattle.starting.proofs.Ways.{peeled_first}
use Rattle.starting.proofs.peel_first.Goals as goal

pub returns : goal.returns
returns c =
    let p = c.requires in
    peeled_first _ (rows_of c.args.half.now) _ _ _ _ _ _ _ _ _ _ p.0 p.1 p.2 p.3 p.5 p.6 c.start_marks.ensures c.fill.ensures c.save.ensures c.peels_away-away.ensures c.start_marks-2.ensures
