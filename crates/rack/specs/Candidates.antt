-- The library's call for a candidate.
--   plain_candidate  the number of the answer
--   RackGives       the promise of `rack_candidate`: that of `candidates::give`, in plain numbers
--   RackGivesLaw    of a half that is reported it is the promise for its own word
use Rattle.std.specs.Prelude.{◌≡◌, List, ℕ, Result, Ok, Err}
use Rattle.machine.specs.declared.HalfReport.{HalfReport}
use Rattle.candidates_meaning.specs.declared.CandidateRefusal.{CandidateRefusal}
use Rattle.candidates_meaning.specs.Asking.{candidate_number, Gives}
use Rattle.plain.specs.Plain.{word_of, plain_half}

-- 0 where the candidate was given, else the number of the refusal.
abbrev pub plain_candidate : Result (Unit {0}) CandidateRefusal → ℕ
plain_candidate (Ok given) = 0
plain_candidate (Err why) = candidate_number why

-- The number of an answer that `candidates::give` promises for the word that the number given stands for.
pub record RackGives (n word live : ℕ) (marks forms : List ℕ) (number : ℕ) (old new : List ℕ) (r : ℕ) : Type 0 where
  pub answer : Result (Unit {0}) CandidateRefusal
  pub gives : Gives (record { n = n; word = word_of word; live = live; marks = marks; forms = forms; number = number }) old new answer
  pub told : r ≡ plain_candidate answer

-- With the number that a reply has for a half's word, `candidates::give` promises it for that word: the claim's candidates are the library's.
unfoldable pub RackGivesLaw : Type 0
RackGivesLaw =
    (h : HalfReport) (n : ℕ) (marks forms : List ℕ) (number : ℕ) (old new : List ℕ) (r : ℕ)
    → RackGives n (plain_half h).word (plain_half h).live marks forms number old new r
    → (a : Result (Unit {0}) CandidateRefusal) × Gives (record { n = n; word = h.word; live = h.live; marks = marks; forms = forms; number = number }) old new a
    × (r ≡ plain_candidate a)
