-- Every list of the library's calls is a run of the stream's.
use mathlib.Core.Path.{◌≡◌, refl, ◌∙◌, ap}
use mathlib.Core.List.{List, [], ◌∷◌}
use Prim.Native.Nat.{ℕ}
use Rattle.records.specs.declared.Answer.{Answer}
use Rattle.records.specs.declared.Answer.TheVariants.{Refused, Taken, Complete, Decoded}
use Rattle.records.specs.Lists.{Lent}
use Rattle.window_meaning.specs.Read.{window_answer}
use Rattle.claim.specs.Calls.{Passed, Step, step, look}
use Rattle.claim.specs.Calls as calls
use Rattle.plain.specs.declared.RackState.{RackState}
use Rattle.plain.specs.declared.RackReply.{RackReply}
use Rattle.rack.specs.declared.counts.RackCounts.{RackCounts}
use Rattle.plain.specs.Plain.{state_of, plain_answer}
use Rattle.rack.specs.Promise.{RackPromise}
use Rattle.rack.specs.Runs.{RackCall, rack_step, rack_look, plain_call, RackKeeps, rack_state_left, rack_lists_left, RackRun, ended, call, StreamRun}
use Rattle.plain.proofs.Numbers.{state_back}

-- The state handed back is the stream's.
answer_state : (a : Answer) (s : RackState) → (plain_answer a s).state ≡ s
answer_state Taken s = refl
answer_state (Complete sizes) s = refl
answer_state (Decoded r) s = refl
answer_state (Refused why) s = refl

next_state : {s : RackState} {bytes : List ℕ} {old new : Lent} {r : RackReply} (p : RackPromise s bytes old new r) → state_of r.state ≡ p.reply.state
next_state p =
    ap (λ (r : RackReply). state_of r.state) p.numbers ∙ ap state_of (answer_state p.reply.answer _) ∙ state_back p.reply.state

one_more_lem : (s : RackState) (l : Passed) (k : RackCall) (ks : List RackCall) → RackKeeps s l k → StreamRun (rack_state_left s k) (rack_lists_left l k) ks
    → StreamRun s l (k ∷ ks)
one_more_lem s l (rack_step k) ks p rest =
    let k' : Step = record { bytes = k.bytes; work = k.work; six = k.six; reply = p.reply; left = k.left } in
    record {
      calls = step k' ∷ rest.calls;
      run = calls.call {k = step k'} p.promised (rw (next_state p) at rest.run);
      numbers =
          ap (λ (r : RackReply). rack_step (record { bytes = k.bytes; work = k.work; six = k.six; reply = r; left = k.left }) ∷ ks) p.numbers
          ∙ ap (λ (xs : List RackCall). plain_call (step k') ∷ xs) rest.numbers;
    }
one_more_lem s l (rack_look a) ks p rest =
    let said = window_answer s.reports l.window in
    record {
      calls = look said ∷ rest.calls;
      run = calls.call {k = look said} refl rest.run;
      numbers = ap (λ (x : RackCounts). rack_look x ∷ ks) p ∙ ap (λ (xs : List RackCall). plain_call (look said) ∷ xs) rest.numbers;
    }

run_of : (s : RackState) (l : Passed) (ks : List RackCall) → RackRun s l ks → StreamRun s l ks
run_of s l [] ended = record { calls = []; run = calls.ended; numbers = refl }
run_of s l (k ∷ ks) (call p later) = one_more_lem s l k ks p (run_of (rack_state_left s k) (rack_lists_left l k) ks later)

pub rack_run : {s : RackState} {l : Passed} {ks : List RackCall} → RackRun s l ks → StreamRun s l ks
rack_run {s} {l} {ks} run = run_of s l ks run
