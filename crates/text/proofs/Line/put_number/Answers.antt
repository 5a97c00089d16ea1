-- `text::Line::put_number` meets its contract. Assumes nothing.
use Rattle.text.proofs.Putting.{adds_number}
use Rattle.text.proofs.Line.put_number.Goals as goal

pub returns : goal.returns
returns c =
    let d = c.decimal-k in
    adds_number c.args.n d.result _ c.ranges.n.fits d.ensures.len d.ensures.digits c.put_byte.ensures c.put_text.ensures
