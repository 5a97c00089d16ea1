-- What a `RackRun` asks of each call, and `RackGives`, are the contracts of the library's calls, as the tool reads them from the source: `rack_claim` is about
-- real calls, from a real `rack_fresh` on.
use mathlib.Core.Path.{◌≡◌}
use contract.Lifetimes.{Lfts}
use denote.Triple.Clauses.{AtExit}
use borrow.Fn.World.{ArgsD, ResD}
use borrow.Fn.Kinds.{ended_of}
use Rattle.rack.specs.contracts.rack_fresh as fresh
use Rattle.rack.proofs.rack_fresh.Kinds as fresh-kinds
use Rattle.rack.proofs.rack_fresh.Reads as fresh-reads
use Rattle.rack.specs.contracts.rack_step as one
use Rattle.rack.proofs.rack_step.Kinds as one-kinds
use Rattle.rack.proofs.rack_step.Reads as one-reads
use Rattle.rack.specs.contracts.rack_window as look
use Rattle.rack.proofs.rack_window.Kinds as look-kinds
use Rattle.rack.proofs.rack_window.Reads as look-reads
use Rattle.rack.specs.contracts.rack_candidate as candidate
use Rattle.rack.proofs.rack_candidate.Kinds as candidate-kinds
use Rattle.rack.proofs.rack_candidate.Reads as candidate-reads
use Rattle.records.specs.Lists.{Lists, held, six_of, lent_of}
use Rattle.records.specs.States.{fresh_state}
use Rattle.claim.specs.Calls.{passed}
use Rattle.plain.specs.Plain.{plain_state}
use Rattle.rack.specs.Candidates.{RackGives}
use Rattle.rack.specs.Runs.{rack_step, rack_look, RackKeeps}

pub fresh_tied : (κs : Lfts 0) (a : ArgsD fresh.signature κs) (r : ResD fresh.signature κs) (s : AtExit (ended_of 0 fresh-kinds.ps fresh-kinds.r) κs)
    → fresh-reads.Post κs a r s → r ≡ plain_state fresh_state
fresh_tied κs a r s p = p

pub step_tied : (κs : Lfts 12) (a : ArgsD one.signature κs) (r : ResD one.signature κs) (s : AtExit (ended_of 12 one-kinds.ps one-kinds.r) κs)
    → one-reads.Post κs a r s
    → RackKeeps a.0 (passed a.1.0.now a.1.1.0.now a.1.1.1.0.now a.1.1.1.1.0.now)
    (rack_step (record {
      bytes = a.1.1.1.1.1.1.1.1.1.1.1.1.0.now;
      work = a.1.1.1.1.1.0.now;
      six = six_of a.1.1.1.1.1.1.0.now a.1.1.1.1.1.1.1.0.now a.1.1.1.1.1.1.1.1.0.now a.1.1.1.1.1.1.1.1.1.0.now a.1.1.1.1.1.1.1.1.1.1.0.now a.1.1.1.1.1.1.1.1.1.1.1.0.now;
      reply = r;
      left = (lent_of (held s.1.0.now s.1.1.0.now s.1.1.1.0.now) s.1.1.1.1.0.now s.1.1.1.1.1.0.now (six_of s.1.1.1.1.1.1.0.now s.1.1.1.1.1.1.1.0.now s.1.1.1.1.1.1.1.1.0.now s.1.1.1.1.1.1.1.1.1.0.now s.1.1.1.1.1.1.1.1.1.1.0.now s.1.1.1.1.1.1.1.1.1.1.1.0.now));
    }))
step_tied κs a r s p = p

pub look_tied : (κs : Lfts 1) (a : ArgsD look.signature κs) (r : ResD look.signature κs) (s : AtExit (ended_of 1 look-kinds.ps look-kinds.r) κs)
    → look-reads.Post κs a r s → (l : Lists) → RackKeeps a.0 (record { lists = l; window = a.1.0.now }) (rack_look r)
look_tied κs a r s p l = p

pub candidate_tied : (κs : Lfts 3) (a : ArgsD candidate.signature κs) (r : ResD candidate.signature κs) (s : AtExit (ended_of 3 candidate-kinds.ps candidate-kinds.r) κs)
    → candidate-reads.Post κs a r s
    → RackGives a.0 a.1.0 a.1.1.0 a.1.1.1.0.now a.1.1.1.1.0.now a.1.1.1.1.1.0 a.1.1.1.1.1.1.0.now
    s.1.1.1.1.1.1.0.now r
candidate_tied κs a r s p = p
