-- What a `Run` asks of each call is the contract of `step`, as the tool reads it from the source, and the lists are the caller's own after it too: `claim` is about real
-- calls.
use contract.Lifetimes.{Lfts}
use denote.Triple.Clauses.{AtExit}
use borrow.Fn.World.{ArgsD, ResD}
use borrow.Fn.Kinds.{ended_of}
use Rattle.stream.specs.contracts.step.{signature}
use Rattle.stream.proofs.step.Kinds as kinds
use Rattle.stream.proofs.step.Reads as reads
use Rattle.machine.specs.Lent.{SameHalf}
use Rattle.records.specs.Lent.{lent_by, SamePassed}
use Rattle.records.specs.Promise.{Promise}

pub tied : (κs : Lfts 8) (a : ArgsD signature κs) (r : ResD signature κs) (s : AtExit (ended_of 8 kinds.ps kinds.r) κs)
    → reads.Post κs a r s
    → Promise a.0 a.1.1.1.1.1.0.now
    (lent_by a.1.0.now a.1.1.0.now a.1.1.1.0.now a.1.1.1.1.0.now)
    (lent_by s.1.0.now s.1.1.0.now s.1.1.1.0.now s.1.1.1.1.0.now)
    r
    × SamePassed a.1.0.now s.1.0.now × SameHalf a.1.1.1.0.now s.1.1.1.0.now × SameHalf a.1.1.1.1.0.now s.1.1.1.1.0.now
tied κs a r s p = (p.0, p.1.0, p.1.1.0, p.1.1.1)
