-- `text::Line::put_text` meets its contract. Assumes nothing.
use lib.ListN.{take}
use Rattle.text.specs.Line.{Adds}
use Rattle.text.proofs.Line.put_text.Given as goal

abbrev pub invariant-loop-byte : goal.invariant-loop-byte
invariant-loop-byte l = Adds (take l.byte-index l.text) l.initial.self l.self
