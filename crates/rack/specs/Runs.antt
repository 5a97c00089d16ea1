-- Whole lists of the library's calls: the one claim (claim, specs/Claim.antt) is about them.
--   RackCall   a call, its reply in plain numbers
--   RackRun    calls that each keep the promise of their function and begin with state and lists as the last one left them
--   StreamRun  the same calls as a run of the stream's
--   RackPlace  a call in a list of calls from `rack_fresh` on, and where it stands
--   Tells      its answer, in plain numbers: to a record the table's, to a read a fresh count over the last 256 reports
--   Claimed    it is, in plain numbers, a call that the claim is about, at the same place
--   RackClaim  so is every call in every list of calls from `rack_fresh` on
use Rattle.std.specs.Prelude.{◌≡◌, cond, List, [], ◌∷◌, ◌++◌, map, ℕ, ltb, length, Ok, Err}
use Rattle.window_meaning.specs.declared.WindowRefusal.TheVariants.{Short}
use Rattle.records.specs.Records.{record_of}
use Rattle.records.specs.Lists.{Six, Lent, lent_of}
use Rattle.records.specs.States.{fresh_state}
use Rattle.records.specs.Promise.{refusal_at, answer_of}
use Rattle.claim.specs.Calls.{Passed, passed_of, lent, Call, step, look, Run, Place, at}
use Rattle.claim.specs.Window.{reports_of, last, fresh_count}
use Rattle.plain.specs.declared.RackState.{RackState}
use Rattle.plain.specs.declared.RackReply.{RackReply}
use Rattle.rack.specs.declared.counts.RackCounts.{RackCounts}
use Rattle.plain.specs.Plain.{state_of, plain_state, plain_answer, plain_reply}
use Rattle.rack.specs.Counts.{plain_window}
use Rattle.rack.specs.Promise.{RackPromise}
use Rattle.rack.specs.Counts.{rack_window}

-- A call of `rack_step`.
pub record RackStep : Type 0 where
  pub bytes : List ℕ
  pub work : List ℕ
  pub six : Six
  pub reply : RackReply
  pub left : Lent

-- A constructor for each exported function that may stand in a list.
pub data RackCall : Type 0 where
  rack_step : RackStep → RackCall
  rack_look : RackCounts → RackCall

abbrev pub plain_call : Call → RackCall
plain_call (step k) = rack_step (record { bytes = k.bytes; work = k.work; six = k.six; reply = plain_reply k.reply; left = k.left })
plain_call (look a) = rack_look (plain_window a)

abbrev pub RackKeeps : RackState → Passed → RackCall → Type 0
RackKeeps s l (rack_step k) = RackPromise s k.bytes (lent_of l.lists l.window k.work k.six) k.left k.reply
RackKeeps s l (rack_look a) = a ≡ rack_window s l.window

-- State and lists as the call leaves them.
abbrev pub rack_state_left : RackState → RackCall → RackState
rack_state_left s (rack_step k) = k.reply.state
rack_state_left s (rack_look a) = s

abbrev pub rack_lists_left : Passed → RackCall → Passed
rack_lists_left l (rack_step k) = passed_of k.left
rack_lists_left l (rack_look a) = l

pub data RackRun : RackState → Passed → List RackCall → Type 0 where
  ended : {s : RackState} {l : Passed} → RackRun s l []
  call : {s : RackState} {l : Passed} {k : RackCall} {ks : List RackCall}
      → RackKeeps s l k → RackRun (rack_state_left s k) (rack_lists_left l k) ks → RackRun s l (k ∷ ks)

pub record StreamRun (s : RackState) (l : Passed) (ks : List RackCall) : Type 0 where
  pub calls : List Call
  pub run : Run (state_of s) l calls
  pub numbers : ks ≡ map plain_call calls

----------------------------------------------------------------------
-- The claim about them

pub record RackPlace (k : RackCall) : Type 0 where
  pub lists : Passed
  pub before : List RackCall
  pub after : List RackCall
  pub run : RackRun (plain_state fresh_state) lists (before ++ (k ∷ after))

abbrev pub Tells : (j : Call) → Place j → RackCall → Type 0
Tells (step j) p k =
    k ≡ rack_step (record {
      bytes = j.bytes;
      work = j.work;
      six = j.six;
      reply = plain_answer (answer_of (refusal_at (record_of j.bytes) (at p) (lent p.lists j)) (record_of j.bytes) (at p)) (plain_state j.reply.state);
      left = j.left;
    })
Tells (look a) p k =
    k ≡ rack_look (plain_window (cond (ltb (length p.lists.window) 2560) (Err Short) (Ok (fresh_count (last 256 (reports_of [] p.before))))))

-- What `Claim` says of that call, it says of this one, whose numbers are its own.
pub record Claimed (k : RackCall) (p : RackPlace k) : Type 0 where
  pub call : Call
  pub place : Place call
  pub lists : place.lists ≡ p.lists
  pub before : p.before ≡ map plain_call place.before
  pub numbers : k ≡ plain_call call
  pub after : p.after ≡ map plain_call place.after
  pub tells : Tells call place k

unfoldable pub RackClaim : Type 0
RackClaim = (k : RackCall) (p : RackPlace k) → Claimed k p
