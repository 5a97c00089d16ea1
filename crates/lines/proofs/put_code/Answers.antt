-- `lines::put_code` meets its contract. Assumes nothing.
use Rattle.text.proofs.Putting.{adds_then}
use Rattle.lines.specs.Lines.{code_line}
use Rattle.lines.proofs.put_code.Goals as goal

pub returns : goal.returns
unfolding code_line
returns c = adds_then (adds_then (adds_then (adds_then c.put_text.ensures c.put_number.ensures) c.put_number-2.ensures) c.put_number-3.ensures) c.put_byte.ensures
