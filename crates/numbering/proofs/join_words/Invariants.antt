-- `numbering::join_words` meets its contract. Assumes nothing.
use mathlib.Core.Bool.{not}
use lib.Dec.{eqb}
use Rattle.numbering.proofs.Counting.{JoiningBy}
use Rattle.numbering.proofs.join_words.Given as goal

abbrev pub invariant-loop-k : goal.invariant-loop-k
invariant-loop-k g l = JoiningBy (not (eqb g.row.MERGES 0)) l.w l.from l.to l.k l.initial.m l.m
