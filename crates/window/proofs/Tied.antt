-- What a read answers in a `Run` is the contract of `read`, as the tool reads it from the source: `claim` is about real reads.
use mathlib.Core.Path.{◌≡◌}
use contract.Lifetimes.{Lfts}
use denote.Triple.Clauses.{AtExit}
use borrow.Fn.World.{ArgsD, ResD}
use borrow.Fn.Kinds.{ended_of}
use Rattle.window.specs.contracts.read.{signature}
use Rattle.window.proofs.read.Kinds as kinds
use Rattle.window.proofs.read.Reads as reads
use Rattle.window_meaning.specs.Read.{window_answer}

pub tied : (κs : Lfts 1) (a : ArgsD signature κs) (r : ResD signature κs) (s : AtExit (ended_of 1 kinds.ps kinds.r) κs)
    → reads.Post κs a r s → r ≡ window_answer a.0.reports a.1.0.now
tied κs a r s p = p
