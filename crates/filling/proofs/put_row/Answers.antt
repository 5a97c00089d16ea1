-- `filling::put_row` meets its contract. Assumes nothing.
use mathlib.Core.Path.{sym, ◌∙◌}
use Rattle.filling.proofs.KeptQubits.{row_put}
use Rattle.filling.proofs.put_row.Goals as goal

pub returns-then-is_read : goal.returns-then-is_read
returns-then-is_read c =
    let place = c.in-Some.ensures.found in
    row_put _ _ _ _ _ _ _ place.0 place.1 (sym c.is_read.ensures ∙ c.if-is_read.true) _ _ c.flip.ensures c.raise.ensures
