-- `forms::replacing::replace_in_word` meets its contract: the first q forms are done. Assumes nothing.
use Rattle.binary.specs.Words.{bit}
use Rattle.forms.specs.Changes.{Changed, replacing}
use Rattle.forms.proofs.replacing.replace_in_word.Given as goal

abbrev pub invariant-loop-q : goal.invariant-loop-q
invariant-loop-q l = Changed l.q (replacing l.v l.k (bit l.side)) l.initial.forms l.forms
