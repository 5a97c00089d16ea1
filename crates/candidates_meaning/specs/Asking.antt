-- A candidate asked for (document 02, request f): what the call is handed, its refusals and its promise.
--   Asked            n, a half's word, live count, marks and forms, and the candidate's number
--   candidate_number  the number of a refusal
--   candidate_tests   the refusals, each with its test; candidate_refusal: the first that applies
--   Gives            the promise: the answer, and every element of the list, for every input
use Rattle.std.specs.Prelude.{◌≡◌, Bool, not, ◌||◌, List, [], ◌∷◌, ℕ, ◌*◌, ◌^◌, leb, ltb, length, Result, Ok, Err}
use Rattle.std.proofs.Math.Option.{Option, none, some}
use Rattle.lists.specs.Filled.{Filled}
use Rattle.machine.specs.declared.Word.{Word}
use Rattle.machine.specs.Words.{finished?}
use Rattle.machine.specs.Report.{marked}
use Rattle.machine.specs.Lists.{view, form_of, digit}
use Rattle.candidates_meaning.specs.Candidates.{candidate}
use Rattle.candidates_meaning.specs.declared.CandidateRefusal.{CandidateRefusal}
use Rattle.candidates_meaning.specs.declared.CandidateRefusal.TheVariants.{Short, Unfinished, Many}
use Rattle.records.specs.Lowest.{lowest, Numbered}

pub record Asked : Type 0 where
  pub n : ℕ
  pub word : Word
  pub live : ℕ
  pub marks : List ℕ
  pub forms : List ℕ
  pub number : ℕ

----------------------------------------------------------------------
-- Refusals

abbrev pub candidate_number : CandidateRefusal → ℕ
candidate_number Short = 12
candidate_number Unfinished = 15
candidate_number Many = 16

-- The list to be written or the marks hold fewer than n elements, or the forms fewer than four words a qubit.
abbrev pub short? : Asked → ℕ → Bool
short? a long = ltb long a.n || ltb (length a.marks) a.n || ltb (length a.forms) (4 * a.n)

-- None, spent and stopped, or where one of the n marks is 4.
abbrev pub unfinished? : Asked → Bool
unfinished? a = not (finished? a.word) || ltb 0 (marked a.n (view a.n a.marks) 4)

-- Live is above 8, or the number is 2^live or more.
abbrev pub many? : Asked → Bool
many? a = ltb 8 a.live || leb (2 ^ a.live) a.number

abbrev pub candidate_tests : Bool → Bool → Bool → List (CandidateRefusal × Bool)
candidate_tests short unfinished many = (Short, short) ∷ (Unfinished, unfinished) ∷ (Many, many) ∷ []

-- long: the length of the list to be written.
unfoldable pub candidate_refusal : Asked → ℕ → Option CandidateRefusal
candidate_refusal a long = lowest (candidate_tests (short? a long) (unfinished? a) (many? a))

unfoldable pub CandidateNumberedLaw : Type 0
CandidateNumberedLaw = (short unfinished many : Bool) → let ts = candidate_tests short unfinished many in Numbered candidate_number ts (lowest ts)

----------------------------------------------------------------------
-- The promise

abbrev pub candidate_answer : Option CandidateRefusal → Result (Unit {0}) CandidateRefusal
candidate_answer (some n) = Err n
candidate_answer none = Ok tt

-- 0 or 1 for each of the n qubits; elements past n stay. A refusal writes nothing.
abbrev pub CandidateIn : Option CandidateRefusal → Asked → List ℕ → List ℕ → Type 0
CandidateIn (some n) a old new = new ≡ old
CandidateIn none a old new = Filled (λ q. digit (candidate a.live (form_of a.forms) a.number q)) a.n old new

-- Of the list at entry and at exit, whatever marks and forms hold.
pub record Gives (a : Asked) (old new : List ℕ) (r : Result (Unit {0}) CandidateRefusal) : Type 0 where
  pub answer : r ≡ candidate_answer (candidate_refusal a (length old))
  pub list : CandidateIn (candidate_refusal a (length old)) a old new
