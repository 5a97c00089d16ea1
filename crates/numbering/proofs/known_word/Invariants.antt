-- `numbering::known_word` meets its contract. Assumes nothing.
use Rattle.numbering.specs.Numbering.{KnownWord}
use Rattle.numbering.proofs.known_word.Given as goal

abbrev pub invariant-loop-b : goal.invariant-loop-b
invariant-loop-b l = KnownWord l.n l.k l.lost l.b l.word
