-- `starting::search_fixed` meets its contract. Assumes nothing.
use mathlib.Core.Path.{◌∙◌}
use native.Mathlib.Omega.{arith}
use Rattle.packing.proofs.PackedRows.{room_for_in}
use Rattle.starting.proofs.Ways.{searched}
use Rattle.starting.proofs.search_fixed.Goals as goal

pub returns : goal.returns
returns c =
    let p = c.requires in
    let packed = c.pack_rows.ensures in
    searched _ _ _ _ _ _ _ _ _ _ _ _ p.0 p.1 p.3 p.4 p.5 (packed.put (packed.answer ∙ room_for_in _ _ _ _ p.0 p.1 p.2 (omega (arith, p.3)))) c.mark_fixed.ensures
