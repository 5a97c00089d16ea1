-- `lines::halves::put_correction` meets its contract. Assumes nothing.
use mathlib.Core.Path.{sym, ◌∙◌}
use Rattle.text.proofs.Putting.{adds_then}
use Rattle.lines.proofs.halves.put_correction.Goals as goal

pub returns-then-is_finished : goal.returns-then-is_finished
returns-then-is_finished c =
    let e = sym c.is_finished.ensures ∙ c.if-is_finished.true in
    rw e (adds_then c.put_text.ensures c.put_flips.ensures)
