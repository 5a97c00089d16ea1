-- `trying::start::reopen` meets its contract. Assumes nothing.
use lib.ListN.{get_or}
use Rattle.lists.specs.Filled.{Filled}
use Rattle.trying.specs.Turns.{reopened}
use Rattle.trying.proofs.start.reopen.Given as goal

abbrev pub invariant-loop-q : goal.invariant-loop-q
invariant-loop-q l = Filled (λ k. reopened (get_or l.initial.marks k 0)) l.q l.initial.marks l.marks
