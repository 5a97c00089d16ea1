-- What the lab demands of one half (document 00, demands 2 and 3), of what the half shows: its report, marks, forms and correction.
--   Obeys        the half's code and shot obey document 01: qubits below n, commuting rows
--   Verdict      demand 2, clause by clause
--   Fillings     demand 3: live guesses and fillings
--   Classes      demand 3: fillings and classes, when no qubit is open
--   Counts       the turns made are the machine's turns; the counts are those of the marks
--   Counted      the same of what the half shows
--   Emptied      what is 0 after none, and after spent and stopped
--   Reach        how many guesses are live, and how far forms reach
--   VerdictLaw, FillingsLaw, ClassesLaw, CountsLaw, CountedLaw, EmptiedLaw, ReachLaw: each half of a code and a shot that obey, with any budget and limit, is so
--   BudgetsLaw   demand 3: two decodes of the same code and shot, the second with a budget and a limit no smaller
use Rattle.std.specs.Prelude.{◌≡◌, Bool, true, false, not, ◌&&◌, ◌↔◌, ◌⊎◌, ℕ, zero, suc, ◌+◌, ◌≤◌, ◌<◌, eqb}
use Rattle.std.proofs.Math.Option.{none}
use Rattle.binary.specs.Bits.{tally}
use Rattle.binary.specs.Meaning.{Qubits, Below, Fits, Differ, Commute}
use Rattle.machine.specs.declared.Word.TheVariants.{Certain, None, Spent, Stopped}
use Rattle.machine.specs.Words.{finished?}
use Rattle.machine.specs.Machine.{Form, State, Stage, on, failed, End, Half, checks, fixed_of, rule_of, start_of, decoded, is_open, is_settled, dangling, turn}
use Rattle.machine.specs.Fillings.{filling, Filling}
use Rattle.machine.specs.Report.{Shown, outcome, marked, none?}

pub record Obeys (h : Half) : Type 0 where
  pub rows_below : Below h.size h.rows
  pub others_below : Below h.size h.others
  pub lost_below : (q : ℕ) → h.lost q ≡ true → q < h.size
  pub commute : Commute h.rows h.others

-- An error fits the half's loss and reading.
abbrev pub FitsHalf : Half → Qubits → Type 0
FitsHalf h = Fits h.lost (checks h)

----------------------------------------------------------------------
-- Demand 2

pub record Verdict (h : Half) (budget limit : ℕ) (s : Shown) : Type 0 where
  -- Flips handed out lie on lost qubits and make exactly the lit checks fire.
  pub flips : finished? s.report.word ≡ true → FitsHalf h s.flip
  -- Certain is said of a finished half exactly when all errors on the lost set that fit differ by products of the other kind's checks.
  pub certain : finished? s.report.word ≡ true
      → (s.report.word ≡ Certain) ↔ ((x y : Qubits) → FitsHalf h x → FitsHalf h y → Differ h.others x y)
  -- A half neither spent nor stopped is none exactly when no error fits.
  pub fitting : (s.report.word ≡ Spent → ⊥) → (s.report.word ≡ Stopped → ⊥)
      → (s.report.word ≡ None) ↔ ((x : Qubits) → FitsHalf h x → ⊥)
  -- Spent needs the budget's guesses all live and no check with one open qubit.
  pub spent : s.report.word ≡ Spent → (s.report.live ≡ budget) × (dangling (is_open s.mark) (checks h) ≡ none)
  -- Stopped needs the limit's turns made.
  pub stopped : s.report.word ≡ Stopped → s.report.turns ≡ limit

unfoldable pub VerdictLaw : Type 0
VerdictLaw = (h : Half) → Obeys h → (budget limit : ℕ) → Verdict h budget limit (outcome h budget limit)

----------------------------------------------------------------------
-- Demand 3

-- The live guesses' values g give the settled qubits this filling.
abbrev pub fills : Shown → Form → Qubits
fills s g = filling s.report.live s.form g

-- If it is not none, then as the live guesses take all values, the settled qubits take exactly the fillings that satisfy every check with
-- no open qubit, the fixed qubits zero, each filling once.
pub record Fillings (h : Half) (s : Shown) : Type 0 where
  pub are : (g : Form) → Filling (checks h) h.lost (fixed_of h) (is_open s.mark) (fills s g)
  pub all : (x : Qubits) → Filling (checks h) h.lost (fixed_of h) (is_open s.mark) x → (g : Form) × ((q : ℕ) → x q ≡ fills s g q)
  pub once : (g g' : Form) → ((q : ℕ) → fills s g q ≡ fills s g' q) → (k : ℕ) → 1 ≤ k → k ≤ s.report.live → g k ≡ g' k

unfoldable pub FillingsLaw : Type 0
FillingsLaw =
    (h : Half) → Obeys h → (budget limit : ℕ) → ((outcome h budget limit).report.word ≡ None → ⊥) → Fillings h (outcome h budget limit)

-- Every error that fits differs from exactly one of these fillings by a product of the other kind's checks.
abbrev pub Classes : Half → Shown → Type 0
Classes h s =
    (e : Qubits) → FitsHalf h e
    → (g : Form) × Differ h.others e (fills s g)
    × ((g' : Form) → Differ h.others e (fills s g') → (q : ℕ) → fills s g' q ≡ fills s g q)

-- When no qubit is open.
unfoldable pub ClassesLaw : Type 0
ClassesLaw =
    (h : Half) → Obeys h → (budget limit : ℕ) → ((outcome h budget limit).report.word ≡ None → ⊥)
    → ((q : ℕ) → is_open (outcome h budget limit).mark q ≡ false) → Classes h (outcome h budget limit)

-- Take any two decodes with the same code and the same shot, the second with a guess budget and a turn limit no smaller. Where a half of the
-- first is finished or none, the same half of the second has the same word, counts, marks, forms and correction.
unfoldable pub BudgetsLaw : Type 0
BudgetsLaw =
    (h : Half) → Obeys h → (budget budget' limit limit' : ℕ) → budget ≤ budget' → limit ≤ limit'
    → let s = outcome h budget limit in (finished? s.report.word ≡ true) ⊎ (s.report.word ≡ None)
    → outcome h budget' limit' ≡ s

----------------------------------------------------------------------
-- Turns and counts

-- One turn; a half that ended in none makes no more.
abbrev pub turn_of : Half → Stage → Stage
turn_of h (on st) = turn (checks h) h.size (rule_of h) st
turn_of h (failed st) = failed st

-- The stage that so many turns make of a stage.
abbrev pub turned : Half → ℕ → Stage → Stage
turned h zero s = s
turned h (suc k) s = turn_of h (turned h k s)

-- The stage of a half that ended in none, or did not.
abbrev pub ended : Bool → State → Stage
ended true st = failed st
ended false st = on st

-- The stage that a half ended in.
abbrev pub stage_of : End → Stage
stage_of e = ended (none? e.word) e.state

-- Turns equal the machine's steps from the start, and the marks 2 and 3 of the state that the half ended in, none included. Every turn
-- settles exactly one qubit: with the open ones, the turns made are the lost qubits that are not fixed. A qubit that is not settled has
-- form 0.
pub record Counts (h : Half) (e : End) : Type 0 where
  pub steps : stage_of e ≡ turned h e.state.turns (start_of h)
  pub turns : e.state.turns ≡ marked h.size e.state.mark 2 + marked h.size e.state.mark 3
  pub left : e.state.turns + marked h.size e.state.mark 4 ≡ tally h.size (λ q. h.lost q && not (fixed_of h q))
  pub unlost : (q : ℕ) → eqb (e.state.mark q) 0 ≡ not (h.lost q)
  pub fixed : (q : ℕ) → eqb (e.state.mark q) 1 ≡ (h.lost q && fixed_of h q)
  pub blank : (q : ℕ) → is_settled e.state.mark q ≡ false → (k : ℕ) → e.state.forms.form q k ≡ false

unfoldable pub CountsLaw : Type 0
CountsLaw = (h : Half) → Obeys h → (budget limit : ℕ) → Counts h (decoded h budget limit)

-- What a half shows counts what it did: the turns made lead the machine from its start to the stage that the half ended in, for none that of the
-- turn, or the start, that failed; the counts are those of that stage's marks, and marks and forms show it, unless it is none. Every turn settles exactly one
-- qubit: with the open ones, the turns made are the lost qubits that are not fixed.
pub record Counted (h : Half) (s : Shown) : Type 0 where
  pub state : State
  pub steps : turned h s.report.turns (start_of h) ≡ ended (none? s.report.word) state
  pub fixed : s.report.fixed ≡ marked h.size state.mark 1
  pub turns : s.report.turns ≡ marked h.size state.mark 2 + marked h.size state.mark 3
  pub guesses : s.report.guesses ≡ marked h.size state.mark 3
  pub live : s.report.live ≡ state.forms.live
  pub left : s.report.turns + marked h.size state.mark 4 ≡ tally h.size (λ q. h.lost q && not (fixed_of h q))
  pub marks : none? s.report.word ≡ false → (q : ℕ) → s.mark q ≡ state.mark q
  pub forms : none? s.report.word ≡ false → (q k : ℕ) → s.form q k ≡ state.forms.form q k

unfoldable pub CountedLaw : Type 0
CountedLaw = (h : Half) → Obeys h → (budget limit : ℕ) → Counted h (outcome h budget limit)

----------------------------------------------------------------------
-- Lists

-- After none all three lists are 0, and live is 0; after spent and stopped the correction is.
pub record Emptied (s : Shown) : Type 0 where
  pub none_live : s.report.word ≡ None → s.report.live ≡ 0
  pub none_marks : s.report.word ≡ None → (q : ℕ) → s.mark q ≡ 0
  pub none_forms : s.report.word ≡ None → (q k : ℕ) → s.form q k ≡ false
  pub unfinished : finished? s.report.word ≡ false → (q : ℕ) → s.flip q ≡ false

unfoldable pub EmptiedLaw : Type 0
EmptiedLaw = (h : Half) (budget limit : ℕ) → Emptied (outcome h budget limit)

-- No more guesses are live than the budget, and no form has a bit above them.
pub record Reach (budget : ℕ) (s : Shown) : Type 0 where
  pub live : s.report.live ≤ budget
  pub forms : (q k : ℕ) → s.report.live < k → s.form q k ≡ false

unfoldable pub ReachLaw : Type 0
ReachLaw = (h : Half) (budget limit : ℕ) → Reach budget (outcome h budget limit)
