-- `text::Line::put_text` meets its contract. Assumes nothing.
use Rattle.text.proofs.Putting.{adds_more}
use Rattle.text.proofs.Line.put_text.Goals as goal

pub loop-byte-preserved : goal.loop-byte-preserved
loop-byte-preserved c =
    adds_more c.args.text.now c.loop-byte.byte-index c.loop-byte.invariant c.loop-byte-test.true c.put_byte.ensures
