-- Peeling without a look at any reading: where it leaves nothing, no qubit is fixed.
--   peel_step   the lowest dangling row settles its open qubit
--   peeled     the open qubits that so many steps leave
--   peels_away  no qubit below n is left: n steps are enough, since each settles one
--   PeelLaw    no qubit of a half whose lost qubits peel away is fixed, whichever rows were read
--   tried      how the half would end with no qubit fixed and guess budget 0
--   TryLaw     a half that finishes so ends so, with any budget
--   LeftLaw    where the try is spent, peeling leaves a qubit
use Rattle.std.specs.Prelude.{◌≡◌, Bool, true, false, not, List, ℕ, zero, suc}
use Rattle.std.proofs.Math.Option.{Option, none, some}
use Rattle.binary.specs.Bits.{below}
use Rattle.binary.specs.Meaning.{Qubits, Check}
use Rattle.machine.specs.declared.Word.TheVariants.{Spent}
use Rattle.machine.specs.Words.{finished?}
use Rattle.machine.specs.Machine.{put, dangling, start, End, run, Half, checks, fixed_of, rule_of, decoded}
use Rattle.machine.specs.Demands.{Obeys}

abbrev pub peel_step : Option (ℕ × Check) → Qubits → Qubits
peel_step none o = o
peel_step (some d) o = put d.0 false o

abbrev pub peeled : List Check → ℕ → Qubits → Qubits
peeled cs zero o = o
peeled cs (suc m) o = peeled cs m (peel_step (dangling o cs) o)

unfoldable pub peels_away : List Check → ℕ → Qubits → Bool
peels_away cs n o = below n (λ q. not (peeled cs n o q))

-- An error on the lost set that fires no read row is 0 on every qubit that peeling settles, in turn, and a product of other-kind rows fires no row.
unfoldable pub PeelLaw : Type 0
PeelLaw = (h : Half) → Obeys h → peels_away (checks h) h.size h.lost ≡ true → (q : ℕ) → fixed_of h q ≡ false

----------------------------------------------------------------------
-- A try

-- Every turn is a step of peeling.
unfoldable pub tried : Half → ℕ → End
tried h limit = run (checks h) h.size (rule_of h) 0 limit (suc limit) (start (checks h) h.lost (λ q. false))

-- Peeling left nothing: no qubit is fixed, and none is guessed.
unfoldable pub TryLaw : Type 0
TryLaw = (h : Half) → Obeys h → (budget limit : ℕ) → finished? (tried h limit).word ≡ true → decoded h budget limit ≡ tried h limit

-- Then qubits may be fixed. A try that is none or stopped does not tell.
unfoldable pub LeftLaw : Type 0
LeftLaw = (h : Half) (limit : ℕ) → (tried h limit).word ≡ Spent → peels_away (checks h) h.size h.lost ≡ false
