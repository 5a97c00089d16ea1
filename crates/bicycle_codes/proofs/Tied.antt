-- `Writes` is the contract of `write`, as the tool reads it from the source.
use contract.Lifetimes.{Lfts}
use denote.Triple.Clauses.{AtExit}
use borrow.Fn.World.{ArgsD, ResD}
use borrow.Fn.Kinds.{ended_of}
use Rattle.bicycle_codes.specs.contracts.write.{signature}
use Rattle.bicycle_codes.proofs.write.Kinds as kinds
use Rattle.bicycle_codes.proofs.write.Reads as reads
use Rattle.bicycle_codes.specs.Bicycle.{Writes}

pub tied : (κs : Lfts 1) (a : ArgsD signature κs) (r : ResD signature κs) (s : AtExit (ended_of 1 kinds.ps kinds.r) κs)
    → reads.Post κs a r s → Writes a.0 a.1.0.now s.1.0.now r
tied κs a r s p = p
