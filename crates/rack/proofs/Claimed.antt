-- Every call in a list of the library's calls from `rack_fresh` on is, in plain numbers, a call that the claim is about. Assumes nothing.
use mathlib.Core.Path.{◌≡◌, refl, ap, ◌∙◌, subst}
use mathlib.Core.List.{List, [], ◌∷◌, ◌++◌, map}
use Prim.Native.Nat.{ℕ}
use native.Mathlib.Omega.{arith}
use Rattle.records.specs.declared.Answer.{Answer}
use Rattle.std.specs.Prelude.{Result}
use Rattle.window_meaning.specs.declared.Counts.{Counts}
use Rattle.window_meaning.specs.declared.WindowRefusal.{WindowRefusal}
use Rattle.records.specs.States.{fresh_state}
use Rattle.claim.specs.Calls.{Call, step, look, Run, Place}
use Rattle.claim.proofs.Claim.{claim}
use Rattle.plain.specs.Plain.{plain_state, plain_answer}
use Rattle.rack.specs.Counts.{plain_window}
use Rattle.rack.specs.Runs.{RackCall, rack_step, rack_look, plain_call, Tells, RackClaim}
use Rattle.rack.proofs.Runs.{rack_run}

-- Calls whose numbers are those of calls around one are calls around one.
record Around (before : List RackCall) (k : RackCall) (after : List RackCall) (calls : List Call) : Type 0 where
  earlier : List Call
  one : Call
  later : List Call
  are : calls ≡ earlier ++ (one ∷ later)
  before_is : before ≡ map plain_call earlier
  is : k ≡ plain_call one
  after_is : after ≡ map plain_call later

around : (before : List RackCall) (k : RackCall) (after : List RackCall) (calls : List Call) → before ++ (k ∷ after) ≡ map plain_call calls
    → Around before k after calls
around [] k after [] e = let z : ◌≡◌ {A = ℕ} 0 1 = cc in absurd (omega arith)
around [] k after (c ∷ cs) e = record { earlier = []; one = c; later = cs; are = refl; before_is = refl; is = cc; after_is = cc }
around (b ∷ before) k after [] e = let z : ◌≡◌ {A = ℕ} 0 1 = cc in absurd (omega arith)
around (b ∷ before) k after (c ∷ cs) e =
    let rest : before ++ (k ∷ after) ≡ map plain_call cs = cc in
    let first : b ≡ plain_call c = cc in
    let w = around before k after cs rest in
    let same = w.before_is in
    record {
      earlier = c ∷ w.earlier;
      one = w.one;
      later = w.later;
      are = ap (λ (x : List Call). c ∷ x) w.are;
      before_is = cc;
      is = w.is;
      after_is = w.after_is;
    }

tells : (j : Call) (p : Place j) (k : RackCall) → k ≡ plain_call j → Tells j p k
tells (step j) p k e =
    e ∙ ap (λ (a : Answer). rack_step (record { bytes = j.bytes; work = j.work; six = j.six; reply = plain_answer a (plain_state j.reply.state); left = j.left }))
    (claim.told j p).answer
tells (look a) p k e = e ∙ ap (λ (x : Result Counts WindowRefusal). rack_look (plain_window x)) (claim.window a p).0

pub rack_claim : RackClaim
unfolding RackClaim
rack_claim k p =
    let s = rack_run p.run in
    let w = around p.before k p.after s.calls s.numbers in
    let place : Place w.one =
    record {
      state = fresh_state;
      lists = p.lists;
      fresh = (refl, refl);
      before = w.earlier;
      after = w.later;
      run = subst (Run fresh_state p.lists) w.are s.run;
    } in
    record { call = w.one; place = place; lists = refl; before = w.before_is; numbers = w.is; after = w.after_is; tells = tells w.one place k w.is }
