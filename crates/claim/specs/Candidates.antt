-- Candidates asked for after a decode (document 02, request f).
--   asked         what the call is handed: word, live count, marks and forms as a decode left them, and a number
--   ClassesShown  each number below 2^live is given and no other; every error that fits differs by a product of other-kind rows from exactly one candidate, each
--                 candidate fits, and a certain half has one
use Rattle.std.specs.Prelude.{◌≡◌, List, ℕ, ◌^◌, ◌≤◌, ◌<◌, length, get_or, Result, Ok, Err}
use Rattle.machine.specs.declared.HalfReport.{HalfReport}
use Rattle.machine.specs.Machine.{Half}
use Rattle.machine.specs.Lists.{HalfLists, digit, seen}
use Rattle.candidates_meaning.specs.Candidates.{candidate_of, Candidates}
use Rattle.candidates_meaning.specs.declared.CandidateRefusal.{CandidateRefusal}
use Rattle.candidates_meaning.specs.declared.CandidateRefusal.TheVariants.{Many}
use Rattle.candidates_meaning.specs.Asking.{Asked, Gives}

abbrev pub asked : ℕ → HalfReport → HalfLists → ℕ → Asked
asked n r l c = record { n = n; word = r.word; live = r.live; marks = l.marks; forms = l.forms; number = c }

-- r, l: the report and the lists as a decode left them. The list to be written is long enough.
pub record ClassesShown (h : Half) (r : HalfReport) (l : HalfLists) : Type 0 where
  pub given : (c : ℕ) → c < 2 ^ r.live → (old new : List ℕ) (a : Result (Unit {0}) CandidateRefusal) → h.size ≤ length old → Gives (asked h.size r l c) old new a
      → (a ≡ Ok tt) × ((q : ℕ) → q < h.size → get_or new q 0 ≡ digit (candidate_of (seen h.size r l) c q))
  pub no_other : (c : ℕ) → 2 ^ r.live ≤ c → (old new : List ℕ) (a : Result (Unit {0}) CandidateRefusal) → h.size ≤ length old → Gives (asked h.size r l c) old new a
      → a ≡ Err Many
  pub classes : Candidates h (seen h.size r l)
