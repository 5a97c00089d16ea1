-- `code::row_at` meets its contract. Assumes nothing.
use mathlib.Core.Path.{refl}
use Rattle.code.proofs.Lists.{row_got}
use Rattle.code.proofs.row_at.Goals as goal

pub returns : goal.returns
returns c =
    rw c.unwrap_or.ensures (row_got _ _ _ _ _ c.start_of-start.ensures.0 c.end_of-end.ensures.0 _ _ refl c.get.ensures.lookup.0)
