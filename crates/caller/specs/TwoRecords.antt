-- What two records from a fresh start are answered.
--   Shorts          which lent lists are too short, told from their lengths
--   after_first      the code and shot that the first record makes
--   answer_to_second  the answer to the second record
--   Right           both halves of a report are right (demands 2 and 3)
--   two_calls        the two calls, the second lent what the first left
--   TwoRecords      what the two records say, and nothing else but lists too short, decides the answer; a report is right; and the two calls are a run,
--                   so that the claim tells every lent element
use Rattle.std.specs.Prelude.{◌≡◌, Bool, List, [], ◌∷◌, ℕ, length}
use Rattle.std.proofs.Math.Option.{Option}
use Rattle.machine.specs.Lists.{seen}
use Rattle.records.specs.declared.Report.{Report}
use Rattle.records.specs.declared.Refusal.{Refusal}
use Rattle.records.specs.declared.Answer.{Answer}
use Rattle.records.specs.declared.Answer.TheVariants.{Decoded}
use Rattle.records.specs.declared.Reply.{Reply}
use Rattle.records.specs.declared.Pauli.{Pauli}
use Rattle.records.specs.Records.{Record, report, record_of}
use Rattle.records.specs.History.{Code, Shot, History, empty, ready, half}
use Rattle.records.specs.Table.{refusal, afterwards}
use Rattle.records.specs.Lists.{Six, Lent, short_lists, short_six}
use Rattle.records.specs.Promise.{answer_of}
use Rattle.records.specs.States.{fresh_state}
use Rattle.claim.specs.Calls.{passed_of, Call, step, Run}
use Rattle.claim.specs.Window.{report_for}
use Rattle.claim.specs.Claim.{lists_for, HalfRight}

-- A list of code, shot, window or work; one of the six lists of a decode of n qubits.
pub record Shorts : Type 0 where
  pub lists : Bool
  pub six : ℕ → Bool

abbrev pub shorts_of : Lent → Shorts
shorts_of l = record { lists = short_lists l.lists (length l.window) (length l.work); six = short_six l.six }

-- The refusal that a record meets at this code and shot.
abbrev pub refusal_of : Shorts → List ℕ → History → Option Refusal
refusal_of s bytes a = refusal s.lists s.six (record_of bytes) a

abbrev pub after_first : Shorts → List ℕ → History
after_first s first = afterwards (refusal_of s first empty) (record_of first) empty

abbrev pub answer_to_second : Shorts → List ℕ → List ℕ → Answer
answer_to_second s first second =
    let a = after_first s first in answer_of (refusal_of s second a) (record_of second) a

-- A decode: of the code and shot that there are, with the budget and turn limit that the record asks for.
pub record Decode (a : History) (r : Record) : Type 0 where
  pub code : Code
  pub shot : Shot
  pub budget : ℕ
  pub limit : ℕ
  pub held : a ≡ ready code shot
  pub asked : r ≡ report budget limit

-- Each half that the decode shows, by its report and the six lists at exit.
abbrev pub Right : {a : History} {r : Record} → Decode a r → Report → Six → Type 0
Right k d six =
    (p : Pauli) → HalfRight (half p k.code k.shot) k.budget k.limit (seen k.code.n (report_for p d) (lists_for p six))

abbrev pub two_calls : List ℕ → List ℕ → Lent → Reply → Lent → Reply → Lent → List Call
two_calls first second old r left r' new =
    step (record { bytes = first; work = old.work; six = old.six; reply = r; left = left })
    ∷ step (record { bytes = second; work = left.work; six = left.six; reply = r'; left = new })
    ∷ []

-- Of the lists at entry and at exit.
pub record TwoRecords (first second : List ℕ) (old new : Lent) (r : Reply) : Type 0 where
  pub replied : Reply
  pub left : Lent
  pub run : Run fresh_state (passed_of old) (two_calls first second old replied left r new)
  pub answer : r.answer ≡ answer_to_second (shorts_of old) first second
  pub right : (d : Report) → r.answer ≡ Decoded d
      → (k : Decode (after_first (shorts_of old) first) (record_of second)) × Right k d new.six
