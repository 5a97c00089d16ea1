-- The candidates of a half (document 02, request f).
--   choice         values of the live guesses: guess i has bit i − 1 of c
--   candidate      what the forms give with these values
--   Candidates     each candidate fits; every error that fits differs by a product of other-kind rows from exactly one; a certain half has one
--   CandidatesLaw  every finished half of a code and a shot that obey is so
use Rattle.std.specs.Prelude.{◌≡◌, true, false, ℕ, zero, suc, ◌^◌, ◌<◌}
use Rattle.binary.specs.Meaning.{Qubits, Differ}
use Rattle.binary.specs.Words.{bit}
use Rattle.machine.specs.declared.Word.TheVariants.{Certain}
use Rattle.machine.specs.Words.{finished?}
use Rattle.machine.specs.Machine.{Form, Half}
use Rattle.machine.specs.Fillings.{filling}
use Rattle.machine.specs.Report.{Shown, outcome}
use Rattle.machine.specs.Demands.{Obeys, FitsHalf}

-- Live guess i is set to bit i − 1 of c. Bit 0 of a form is no guess.
abbrev pub choice : ℕ → Form
choice c zero = false
choice c (suc i) = bit c i

-- What the forms give with these values, all guesses that are not live 0.
abbrev pub candidate : ℕ → (ℕ → Form) → ℕ → Qubits
candidate live form c = filling live form (choice c)

-- The candidates of what a half shows, from 0 to 2^live − 1.
abbrev pub candidate_of : Shown → ℕ → Qubits
candidate_of s c = candidate s.report.live s.form c

pub record Candidates (h : Half) (s : Shown) : Type 0 where
  pub fit : (c : ℕ) → c < 2 ^ s.report.live → FitsHalf h (candidate_of s c)
  -- Every fitting error differs by a product of other-kind rows from exactly one candidate.
  pub once : (e : Qubits) → FitsHalf h e
      → (c : ℕ) × (c < 2 ^ s.report.live) × Differ h.others e (candidate_of s c)
      × ((c' : ℕ) → c' < 2 ^ s.report.live → Differ h.others e (candidate_of s c') → c' ≡ c)
  -- A certain half has one.
  pub certain : s.report.word ≡ Certain → 2 ^ s.report.live ≡ 1
  -- Candidate 0 is the half's correction.
  pub correction : (q : ℕ) → candidate_of s 0 q ≡ s.flip q

unfoldable pub CandidatesLaw : Type 0
CandidatesLaw =
    (h : Half) → Obeys h → (budget limit : ℕ) → finished? (outcome h budget limit).report.word ≡ true → Candidates h (outcome h budget limit)
