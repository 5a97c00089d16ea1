-- `guessing::most` meets its contract: what is kept is the rule's qubit of those below q, with its weight. Assumes nothing.
use Rattle.guessing.proofs.Choices.{best_below, Leads}
use Rattle.guessing.proofs.most.Given as goal

abbrev pub invariant-loop-q : goal.invariant-loop-q
invariant-loop-q l = Leads l.n l.work l.at l.largest (best_below l.n l.marks l.work l.q)
