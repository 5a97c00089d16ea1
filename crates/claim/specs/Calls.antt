-- Lists of calls from a fresh start (document 01, "Records").
--   Passed  the lists that pass from call to call
--   Step    a call of `step`: its bytes and the decode and work lists lent to it; its reply and what it left in every list
--   Call    a call that may stand in a list: a constructor for each public function
--   Keeps   the call keeps the promise of its function
--   Run     calls that each keep their promise and begin with state and lists as the last one left them
--   makes   the code and shot that a call makes, told from its bytes and from whether a lent list was short; past: those that calls make
--   Place   a call in a run from a fresh start, and where it stands
use Rattle.std.specs.Prelude.{◌≡◌, List, [], ◌∷◌, ◌++◌, ℕ, Result}
use Rattle.records.specs.declared.Phase.TheVariants.{Empty}
use Rattle.records.specs.declared.State.{State}
use Rattle.records.specs.declared.Reply.{Reply}
use Rattle.window_meaning.specs.declared.Counts.{Counts}
use Rattle.window_meaning.specs.declared.WindowRefusal.{WindowRefusal}
use Rattle.records.specs.Records.{record_of}
use Rattle.records.specs.History.{History, empty}
use Rattle.records.specs.Table.{afterwards}
use Rattle.records.specs.Lists.{Lists, held, Six, Lent}
use Rattle.records.specs.Promise.{refusal_at, Promise}
use Rattle.window_meaning.specs.Read.{window_answer}

----------------------------------------------------------------------
-- Calls

-- Those of code and shot, and the window's.
pub record Passed : Type 0 where
  pub lists : Lists
  pub window : List ℕ

abbrev pub passed : List ℕ → List ℕ → List ℕ → List ℕ → Passed
passed flat ends shot window = record { lists = held flat ends shot; window = window }

abbrev pub passed_of : Lent → Passed
passed_of l = record { lists = l.lists; window = l.window }

-- Decode and work lists may be others at every call, of any length.
pub record Step : Type 0 where
  pub bytes : List ℕ
  pub work : List ℕ
  pub six : Six
  pub reply : Reply
  pub left : Lent

abbrev pub lent : Passed → Step → Lent
lent l k = record { lists = l.lists; window = l.window; work = k.work; six = k.six }

-- look: a read of the window, with its answer.
pub data Call : Type 0 where
  step : Step → Call
  look : Result Counts WindowRefusal → Call

abbrev pub Keeps : State → Passed → Call → Type 0
Keeps st l (step k) = Promise st k.bytes (lent l k) k.left k.reply
Keeps st l (look a) = a ≡ window_answer st.reports l.window

-- State and lists as the call leaves them. A read takes the state by value and the list to be read alone: it changes nothing.
abbrev pub state_left : State → Call → State
state_left st (step k) = k.reply.state
state_left st (look a) = st

abbrev pub lists_left : Passed → Call → Passed
lists_left l (step k) = passed_of k.left
lists_left l (look a) = l

----------------------------------------------------------------------
-- Runs

pub data Run : State → Passed → List Call → Type 0 where
  ended : {st : State} {l : Passed} → Run st l []
  call : {st : State} {l : Passed} {k : Call} {ks : List Call} → Keeps st l k → Run (state_left st k) (lists_left l k) ks → Run st l (k ∷ ks)

-- At a fresh start there is no code and no shot, and no report has come.
abbrev pub Fresh : State → Type 0
Fresh st = (st.phase ≡ Empty) × (st.reports ≡ 0)

-- The lists keep their lengths, so whether one was short is told from the lists of the start and of the call.
abbrev pub makes : Passed → History → Call → History
makes l a (step k) = afterwards (refusal_at (record_of k.bytes) a (lent l k)) (record_of k.bytes) a
makes l a (look w) = a

unfoldable pub past : Passed → History → List Call → History
past l a [] = a
past l a (k ∷ ks) = past l (makes l a k) ks

pub record Place (k : Call) : Type 0 where
  pub state : State
  pub lists : Passed
  pub fresh : Fresh state
  pub before : List Call
  pub after : List Call
  pub run : Run state lists (before ++ (k ∷ after))

-- The code and shot at the call.
abbrev pub at : {k : Call} → Place k → History
at p = past p.lists empty p.before

-- The lists that pass from call to call, and the state, that the calls leave.
abbrev pub begins : Passed → List Call → Passed
begins l [] = l
begins l (k ∷ ks) = begins (lists_left l k) ks

abbrev pub state_after : State → List Call → State
state_after st [] = st
state_after st (k ∷ ks) = state_after (state_left st k) ks
