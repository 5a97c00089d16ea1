-- `choosing::tall` meets its contract: the planes seen so far have no other column. Assumes nothing.
use Rattle.choosing.proofs.HighPlanes.{tall_more}
use Rattle.choosing.proofs.tall.Goals as goal

pub loop-p-preserved : goal.loop-p-preserved
loop-p-preserved c = tall_more _ _ _ _ c.loop-p.invariant
