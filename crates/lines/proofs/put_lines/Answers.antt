-- `lines::put_lines` meets its contract. Assumes nothing.
use Rattle.lines.specs.Lines.{lines_of}
use Rattle.text.proofs.Putting.{adds_none, adds_then}
use Rattle.lines.proofs.put_lines.Goals as goal

pub returns-in-Refused : goal.returns-in-Refused
unfolding lines_of
returns-in-Refused c = rw c.in-Refused.is c.put_refusal.ensures

pub returns-in-Taken : goal.returns-in-Taken
unfolding lines_of
returns-in-Taken c = rw c.in-Taken.is (adds_none _)

pub returns-in-Complete : goal.returns-in-Complete
unfolding lines_of
returns-in-Complete c = rw c.in-Complete.is c.put_code.ensures

pub returns-in-Decoded : goal.returns-in-Decoded
unfolding lines_of
returns-in-Decoded c = rw c.in-Decoded.is (adds_then c.put_half.ensures c.put_half-in-Decoded.ensures)
