-- What `ClassesShown` of the claim asks of a call for a candidate is the contract of `give`, as the tool reads it from the source.
use contract.Lifetimes.{Lfts}
use denote.Triple.Clauses.{AtExit}
use borrow.Fn.World.{ArgsD, ResD}
use borrow.Fn.Kinds.{ended_of}
use Rattle.candidates.specs.contracts.give.{signature}
use Rattle.candidates.proofs.give.Kinds as kinds
use Rattle.candidates.proofs.give.Reads as reads
use Rattle.candidates_meaning.specs.Asking.{Gives}

pub tied : (κs : Lfts 3) (a : ArgsD signature κs) (r : ResD signature κs) (s : AtExit (ended_of 3 kinds.ps kinds.r) κs)
    → reads.Post κs a r s
    → Gives (record { n = a.0; word = a.1.0; live = a.1.1.0; marks = a.1.1.1.0.now; forms = a.1.1.1.1.0.now; number = a.1.1.1.1.1.0 })
    a.1.1.1.1.1.1.0.now s.1.1.1.1.1.1.0.now r
tied κs a r s p = p
