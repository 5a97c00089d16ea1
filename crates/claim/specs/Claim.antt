-- Demands 1 to 3, one claim about whole lists of calls from a fresh start (document 00).
--   Told       demand 1, of one record
--   HalfRight  demands 2 and 3, of one half that a decode reports
--   Claim      every call in every run from a fresh start is so, any two reported decodes of one code and shot agree as demand 3 says, a kind 8 that
--              agrees is as if it had not come, the candidates of a finished half show each class once, and a read of the window counts the last 256 reports
use Rattle.std.specs.Prelude.{◌≡◌, true, false, ◌⊎◌, [], ◌++◌, ℕ, ◌≤◌, Result}
use Rattle.machine.specs.declared.Word.TheVariants.{None}
use Rattle.machine.specs.Words.{finished?}
use Rattle.machine.specs.Machine.{Half, is_open}
use Rattle.machine.specs.Report.{Shown, shown}
use Rattle.machine.specs.Lists.{HalfLists, seen}
use Rattle.machine.specs.Unread.{before}
use Rattle.machine.specs.OneWord.{OneWord}
use Rattle.machine.specs.Demands.{Verdict, Counted, Emptied, Fillings, Classes, Reach}
use Rattle.records.specs.declared.Report.{Report}
use Rattle.window_meaning.specs.declared.Counts.{Counts}
use Rattle.window_meaning.specs.declared.WindowRefusal.{WindowRefusal}
use Rattle.records.specs.declared.Answer.TheVariants.{Taken, Decoded}
use Rattle.records.specs.declared.Pauli.{Pauli}
use Rattle.records.specs.declared.Pauli.TheVariants.{X, Z}
use Rattle.records.specs.Records.{report, encodes, record_of}
use Rattle.records.specs.History.{Code, Shot, History, ready, half}
use Rattle.records.specs.Lowest.{Numbered}
use Rattle.records.specs.Table.{refusal_number}
use Rattle.records.specs.Lists.{Six, Represents}
use Rattle.records.specs.Promise.{refusal_at, tests_at, answer_of, Left, Written, Unworked, WindowLeft}
use Rattle.claim.specs.Calls.{Passed, Step, lent, Call, step, look, state_left, lists_left, Run, makes, Place, at, begins, state_after}
use Rattle.claim.specs.Window.{reports_by, reports_of, report_for, ReadOf, KeptIn}
use Rattle.claim.specs.Candidates.{ClassesShown}

----------------------------------------------------------------------
-- One call

-- Demand 1. The answer is the record's own or the refusal with the first number that fits, the lowest of those whose tests pass; every list is left
-- as document 01 says: l are the lists that pass from call to call at the start, l' before this call.
pub record Told (a : History) (l l' : Passed) (k : Step) : Type 0 where
  pub number : Numbered refusal_number (tests_at (record_of k.bytes) a (lent l k)) (refusal_at (record_of k.bytes) a (lent l k))
  pub answer : k.reply.answer ≡ answer_of (refusal_at (record_of k.bytes) a (lent l k)) (record_of k.bytes) a
  pub lists : Left (refusal_at (record_of k.bytes) a (lent l k)) (record_of k.bytes) a l'.lists k.left.lists
  pub six : Written (refusal_at (record_of k.bytes) a (lent l k)) (record_of k.bytes) a k.six k.left.six
  pub work : Unworked (refusal_at (record_of k.bytes) a (lent l k)) (record_of k.bytes) k.work k.left.work

abbrev pub lists_for : Pauli → Six → HalfLists
lists_for X s = s.x
lists_for Z s = s.z

-- What a decode shows of a half: its report, and its three lists as the call left them.
abbrev pub shows : Pauli → Code → Report → Step → Shown
shows p c r k = seen c.n (report_for p r) (lists_for p k.left.six)

-- A decode that is reported: at this code and shot, with this budget and limit.
pub record Reported (a : History) (k : Step) (c : Code) (s : Shot) (budget limit : ℕ) (r : Report) : Type 0 where
  pub at : a ≡ ready c s
  pub decode : record_of k.bytes ≡ report budget limit
  pub answer : k.reply.answer ≡ Decoded r

-- Demands 2 and 3, of what a decode shows of a half, that its counts are those of the turns made, each of which settled one qubit, what is 0 after none, spent
-- and stopped, and how far its forms reach.
pub record HalfRight (h : Half) (budget limit : ℕ) (s : Shown) : Type 0 where
  pub verdict : Verdict h budget limit s
  pub counted : Counted h s
  pub emptied : Emptied s
  pub reach : Reach budget s
  pub fillings : (s.report.word ≡ None → ⊥) → Fillings h s
  pub classes : (s.report.word ≡ None → ⊥) → ((q : ℕ) → is_open s.mark q ≡ false) → Classes h s

-- Demand 3, of two decodes: where a half of the first is finished or none, the same half of the second shows the same.
abbrev pub SameHalf : Shown → Shown → Type 0
SameHalf s s' = (finished? s.report.word ≡ true) ⊎ (s.report.word ≡ None) → s' ≡ s

----------------------------------------------------------------------
-- The claim

-- For every list of calls from a fresh start, refused records included.
pub record Claim : Type 0 where
  -- Every record that obeys document 01 and meets lists long enough is carried out. Every other record is refused with the first number that
  -- fits, the lent lists untouched, the code and shot left as the table says.
  pub told : (k : Step) (p : Place (step k)) → Told (at p) p.lists (begins p.lists p.before) k
  -- Each call leaves state and lists that hold the code and shot that it makes, the last call of a list too.
  pub leaves : (k : Call) (p : Place k)
      → Represents (makes p.lists (at p) k) (state_left (state_after p.state p.before) k) (lists_left (begins p.lists p.before) k).lists
  -- Each half that a decode reports is right: its verdict, its counts, its fillings and its classes.
  pub right : (k : Step) (p : Place (step k)) (c : Code) (s : Shot) (budget limit : ℕ) (r : Report) → Reported (at p) k c s budget limit r
      → (b : Pauli) → HalfRight (half b c s) budget limit (shows b c r k)
  -- Take any two reported decodes in such lists with the same code and the same shot, the second with a guess budget and a turn limit no
  -- smaller. Where a half of the first is finished or none, the same half of the second has the same word, counts, marks, forms and correction.
  pub same : (k k' : Step) (p : Place (step k)) (p' : Place (step k')) (c : Code) (s : Shot) (budget limit budget' limit' : ℕ) (r r' : Report)
      → Reported (at p) k c s budget limit r → Reported (at p') k' c s budget' limit' r' → budget ≤ budget' → limit ≤ limit'
      → (b : Pauli) → SameHalf (shows b c r k) (shows b c r' k')
  -- Each half that a decode with a budget up to 63 reports has its forms in their first words; the other three words of each are 0.
  pub one_word : (k : Step) (p : Place (step k)) (c : Code) (s : Shot) (budget limit : ℕ) (r : Report) → Reported (at p) k c s budget limit r
      → budget ≤ 63 → (b : Pauli) → OneWord c.n (shows b c r k) (lists_for b k.left.six)
  -- Each half that a decode reports, of whose rows none is unread in this shot, comes out as where every row is taken as read.
  pub before : (k : Step) (p : Place (step k)) (c : Code) (s : Shot) (budget limit : ℕ) (r : Report) → Reported (at p) k c s budget limit r
      → (b : Pauli) → ((i : ℕ) → (half b c s).unread i ≡ false) → shows b c r k ≡ shown c.n (before (half b c s) budget limit)
  -- A record of kind 8 that agrees leaves every list as it was, and the calls without it are a run too: each call after it, in the middle of a shot too,
  -- is as if it had not come.
  pub agreed : (k : Step) (p : Place (step k)) (j : ℕ) → record_of k.bytes ≡ encodes j → k.reply.answer ≡ Taken
      → (k.left ≡ lent (begins p.lists p.before) k) × Run p.state p.lists (p.before ++ p.after)
  -- Each half that a decode reports as finished with at most 8 live guesses, whichever rows were read: asked with word, live count, marks and forms as that
  -- decode left them, each candidate fits, every error that fits differs by a product of other-kind rows from exactly one, and a certain half has one.
  pub candidates : (k : Step) (p : Place (step k)) (c : Code) (s : Shot) (budget limit : ℕ) (r : Report) → Reported (at p) k c s budget limit r
      → (b : Pauli) → finished? (report_for b r).word ≡ true → (report_for b r).live ≤ 8
      → ClassesShown (half b c s) (report_for b r) (lists_for b k.left.six)
  -- Both halves of a decode that is reported enter the window, an accepted kind 1 empties it, and nothing else changes it: not a dropped code, not a refused
  -- record, not a read. Each call leaves a number of reports and a list that hold the last 256 of those told from the calls.
  pub entered : (k : Step) (p : Place (step k))
      → WindowLeft (record_of k.bytes) (state_after p.state p.before) (begins p.lists p.before).window k.left.window k.reply.answer
  pub kept : (k : Call) (p : Place k)
      → KeptIn (reports_by (reports_of [] p.before) k) (state_left (state_after p.state p.before) k).reports (lists_left (begins p.lists p.before) k).window
  -- The answer to a read equals a fresh count over the last 256 reports since the last accepted kind 1, or over all of these if there were fewer; with the
  -- list short it is refused with 12. The calls without the read are a run too.
  pub window : (a : Result Counts WindowRefusal) (p : Place (look a))
      → ReadOf p.lists.window (reports_of [] p.before) a × Run p.state p.lists (p.before ++ p.after)
