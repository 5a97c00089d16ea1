-- `lines::halves::put_half` meets its contract. Assumes nothing.
use Rattle.lines.specs.Lines.{half_line}
use Rattle.text.proofs.Putting.{adds_then}
use Rattle.lines.proofs.halves.put_half.Goals as goal

pub returns : goal.returns
unfolding half_line
returns c =
    let word = rw c.word_text.ensures at c.put_text.ensures in
    adds_then (adds_then (adds_then (adds_then c.put_byte.ensures word) c.put_counts.ensures) c.put_correction.ensures) c.put_byte-2.ensures
