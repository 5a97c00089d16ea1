-- `forms::replacing::add_side` meets its contract: the first q forms are done. Assumes nothing.
use Rattle.binary.specs.Words.{bit}
use Rattle.forms.specs.Changes.{Changed, adding}
use Rattle.forms.proofs.replacing.add_side.Given as goal

abbrev pub invariant-loop-q : goal.invariant-loop-q
invariant-loop-q l = Changed l.q (adding l.v l.k l.u (bit l.side)) l.initial.forms l.forms
