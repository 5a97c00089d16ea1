-- `caller::two_records` meets its contract. Assumes nothing.
use Rattle.caller.proofs.Laws.{two_records}
use Rattle.caller.proofs.two_records.Goals as goal

pub returns-clause-two_records : goal.returns-clause-two_records
returns-clause-two_records c = two_records _ _ _ _ _ _ _ _ c.fresh.ensures c.step-to_first.ensures.promised c.step-to_second.ensures.promised
