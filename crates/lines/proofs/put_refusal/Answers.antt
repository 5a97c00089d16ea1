-- `lines::put_refusal` meets its contract. Assumes nothing.
use Rattle.text.proofs.Putting.{adds_then}
use Rattle.lines.specs.Lines.{refused_line}
use Rattle.lines.proofs.put_refusal.Goals as goal

pub returns : goal.returns
unfolding refused_line
returns c = adds_then (adds_then (adds_then c.put_text.ensures (rw c.refusal_number.ensures at c.put_number.ensures)) c.put_number-2.ensures) c.put_byte.ensures
