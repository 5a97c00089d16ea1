-- What the functions of a turn do to the lists.
--   Working     the lists of a half at work: marks, forms, and what is kept of its rows
--   Unsettled   a qubit below n is open
--   Ready       the forms have no bit above the live guesses, and what is kept of the rows is so; of the weights, from the first guess on
--   StageAs     the lists and the answer are a stage of the machine
--   Turns       of lists that are ready, the stage that a turn leads to, with lists that are ready again
--   Turned      the same, and whatever the lists hold elements past n as they were, and one open qubit less
--   WeighedOnce the weights counted, unless they are kept
--   SettlesOne  a turn settles one open qubit
--   Guessed     a guess; Moved: a turn, or that the budget is spent; that no row dangles is told by the number of dangling rows
--   KeptOver    what is kept is a fresh count over the marks
--   EndedAs     the lists and the answer are the end of a half
use Rattle.std.specs.Prelude.{◌≡◌, Bool, true, false, not, ◌&&◌, List, ℕ, suc, ◌-◌, ◌*◌, ◌≤◌, ◌<◌, eqb, length, get_or}
use Rattle.std.proofs.Math.Option.{none}
use Rattle.std.specs.Prelude.{Option, Some, None}
use Rattle.binary.specs.Bits.{below}
use Rattle.binary.specs.Meaning.{Qubits}
use Rattle.forms.specs.Forms.{Taken}
use Rattle.scans.specs.Rows.{RowLists, check_at, row_checks, GoodRows}
use Rattle.scans.specs.Scans.{OneLess}
use Rattle.kept.specs.Kept.{Kept, RowsOn}
use Rattle.turns.specs.declared.Move.{Move}
use Rattle.turns.specs.declared.Ended.{Ended}
use Rattle.machine.specs.Machine.{State, Stage, on, failed, End, is_open, dangling, some?, freest, settle, peel, guess, turn, run}
use Rattle.machine.specs.Report.{none?}
use Rattle.machine.specs.Lists.{view, forms_of}
use Rattle.forms.specs.Forms.{Topped}
use Rattle.guessing.specs.Guessing.{Weighed, WeightsAlone, with_lit}
use Rattle.turns.specs.Lists.{state_of}

pub record Working : Type 0 where
  pub marks : List ℕ
  pub forms : List ℕ
  pub work : List ℕ

-- Lengths stay, and elements past n; of the forms those past 4 × n.
pub record Stays (n : ℕ) (old new : Working) : Type 0 where
  pub marks_long : length new.marks ≡ length old.marks
  pub forms_long : length new.forms ≡ length old.forms
  pub work_long : length new.work ≡ length old.work
  pub marks_rest : (q : ℕ) → n ≤ q → get_or new.marks q 0 ≡ get_or old.marks q 0
  pub forms_rest : (i : ℕ) → 4 * n ≤ i → get_or new.forms i 0 ≡ get_or old.forms i 0

pub record Unsettled (n : ℕ) (marks : List ℕ) (p : ℕ) : Type 0 where
  pub below : p < n
  pub marked : is_open (view n marks) p ≡ true

abbrev pub is_guessed : ℕ → List ℕ → ℕ → Bool
is_guessed n marks q = eqb (view n marks q) 3

-- The weights are kept if `weighed`; until then no qubit is guessed.
pub record Ready (n : ℕ) (c : RowLists) (live : ℕ) (weighed : Bool) (w : Working) : Type 0 where
  pub topped : Topped n live w.forms
  pub kept : Kept (is_open (view n w.marks)) c w.work
  pub on : RowsOn (is_open (view n w.marks)) c w.work
  pub weights : weighed ≡ true → Weighed (is_open (view n w.marks)) c w.work
  pub unguessed : weighed ≡ false → (q : ℕ) → is_guessed n w.marks q ≡ false

abbrev pub StageAs : ℕ → Working → ℕ → Taken → Stage → Type 0
StageAs n l turns t (failed st) = (t ≡ None) × (view n l.marks ≡ st.mark) × (turns ≡ st.turns) × (st.forms.live ≡ 0)
StageAs n l turns t (on st) =
    (t ≡ Some st.forms.live) × (state_of n l.marks l.forms st.forms.live turns ≡ st) × Topped n st.forms.live l.forms

----------------------------------------------------------------------
-- A qubit settled

-- However many turns were made before.
pub record Turns (n : ℕ) (c : RowLists) (live : ℕ) (weighed : Bool) (next : State → Stage) (old new : Working) (t : Taken) : Type 0 where
  pub comes : (turns : ℕ) → StageAs n new (suc turns) t (next (state_of n old.marks old.forms live turns))
  pub ready : (k : ℕ) → t ≡ Some k → Ready n c k weighed new

pub record Turned (n : ℕ) (c : RowLists) (live : ℕ) (weighed : Bool) (next : State → Stage) (old new : Working) (t : Taken) : Type 0 where
  pub stays : Stays n old new
  pub one : OneLess n old.marks new.marks
  pub turns : GoodRows n c → Ready n c live weighed old → Turns n c live weighed next old new t

-- Qubit p, which has its form, gets mark m.
unfoldable pub settle_by : ℕ → RowLists → ℕ → ℕ → ℕ → State → Stage
settle_by n c p m live st = settle (row_checks c) st p m (record { form = st.forms.form; live = live })

-- So many guesses were live before, and are now. A guess needs the weights.
pub record Settled (n : ℕ) (c : RowLists) (p m live : ℕ) (weighed : Bool) (old new : Working) (t : Taken) : Type 0 where
  pub stays : Stays n old new
  pub one : OneLess n old.marks new.marks
  pub turns : GoodRows n c → Ready n c live weighed old → (weighed ≡ false → eqb m 3 ≡ false)
      → (before : ℕ) → Turns n c before weighed (settle_by n c p m live) old new t

-- Row r gives its open qubit p its side.
unfoldable pub peel_by : ℕ → RowLists → ℕ → ℕ → State → Stage
peel_by n c p r st = peel (row_checks c) st p (check_at c.flat c.ends c.lit r)

unfoldable pub guess_by : ℕ → RowLists → ℕ → State → Stage
guess_by n c p st = guess (row_checks c) st p

----------------------------------------------------------------------
-- A turn

unfoldable pub turn_by : ℕ → RowLists → State → Stage
turn_by n c = turn (row_checks c) n (freest (row_checks c) n)

-- No row dangles, and the live guesses equal the budget.
abbrev pub spent? : ℕ → RowLists → ℕ → ℕ → List ℕ → Bool
spent? n c budget live marks = not (some? (dangling (is_open (view n marks)) (row_checks c))) && eqb live budget

abbrev pub SomeOpen : ℕ → List ℕ → Type 0
SomeOpen n marks = below n (λ q. not (is_open (view n marks) q)) ≡ false

-- The weights are counted, unless they are kept.
pub record WeighedOnce (n : ℕ) (r : RowLists) (weighed : Bool) (work work' : List ℕ) : Type 0 where
  pub alone : WeightsAlone n work work'
  pub weights : (lit : List ℕ) → let c = with_lit r lit in GoodRows n c
      → (o : Qubits) → ((q : ℕ) → o q ≡ true → q < n) → Kept o c work → (weighed ≡ true → Weighed o c work) → Weighed o c work'

-- A turn settles one open qubit, whatever the lists hold. Where none is made, marks and forms stay.
abbrev pub SettlesOne : ℕ → Working → Working → Option Move → Type 0
SettlesOne n old new None = (new.marks ≡ old.marks) × (new.forms ≡ old.forms)
SettlesOne n old new (Some m) = OneLess n old.marks new.marks

-- No row dangles, and the budget is not spent. With the turn made it is told whether the weights are kept now.
abbrev pub GuessedBy : ℕ → RowLists → ℕ → Working → Working → Option Move → Type 0
GuessedBy n c live old new None = ⊥
GuessedBy n c live old new (Some m) = Turns n c live m.weighed (turn_by n c) old new m.taken

pub record Guessed (n : ℕ) (c : RowLists) (live : ℕ) (weighed : Bool) (old new : Working) (m : Option Move) : Type 0 where
  pub stays : Stays n old new
  pub one : SettlesOne n old new m
  pub guesses : GoodRows n c → Ready n c live weighed old → SomeOpen n old.marks → dangling (is_open (view n old.marks)) (row_checks c) ≡ none
      → GuessedBy n c live old new m

abbrev pub MovedBy : ℕ → RowLists → ℕ → ℕ → Working → Working → Option Move → Type 0
MovedBy n c budget live old new None = (new ≡ old) × (spent? n c budget live old.marks ≡ true)
MovedBy n c budget live old new (Some m) = (spent? n c budget live old.marks ≡ false) × Turns n c live m.weighed (turn_by n c) old new m.taken

-- That no row dangles is answered from the total that is kept: where it is 0, whatever the other elements hold.
pub record Moved (n : ℕ) (c : RowLists) (budget live : ℕ) (weighed : Bool) (old new : Working) (m : Option Move) : Type 0 where
  pub stays : Stays n old new
  pub one : SettlesOne n old new m
  pub by_total : get_or old.work 8200 0 ≡ 0 → budget ≤ live → m ≡ None
  pub moves : GoodRows n c → Ready n c live weighed old → SomeOpen n old.marks → live ≤ budget → MovedBy n c budget live old new m

----------------------------------------------------------------------
-- The end

-- What is kept is a fresh count over the marks: of the rows, and where a qubit was guessed the weights.
pub record KeptOver (n : ℕ) (c : RowLists) (marks work : List ℕ) : Type 0 where
  pub rows : Kept (is_open (view n marks)) c work
  pub weights : (q : ℕ) → is_guessed n marks q ≡ true → Weighed (is_open (view n marks)) c work

-- At any end but none, what is kept is a fresh count.
pub record EndedAs (n : ℕ) (c : RowLists) (new : Working) (r : Ended) (e : End) : Type 0 where
  pub word : r.word ≡ e.word
  pub turns : r.turns ≡ e.state.turns
  pub live : r.live ≡ e.state.forms.live
  pub marks : view n new.marks ≡ e.state.mark
  pub forms : none? e.word ≡ false → forms_of n new.forms ≡ e.state.forms.form
  pub kept : none? e.word ≡ false → KeptOver n c new.marks new.work

-- The half goes on from these lists, so many turns made, at most m more.
unfoldable pub run_from : ℕ → RowLists → ℕ → ℕ → ℕ → Working → ℕ → ℕ → End
run_from n c budget limit m l live turns =
    run (row_checks c) n (freest (row_checks c) n) budget limit m (on (state_of n l.marks l.forms live turns))

-- After `made` turns.
pub record RunEnds (n : ℕ) (c : RowLists) (budget limit made live : ℕ) (old new : Working) (r : Ended) : Type 0 where
  pub stays : Stays n old new
  pub ends : GoodRows n c → Ready n c live false old → live ≤ budget → EndedAs n c new r (run_from n c budget limit (suc (limit - made)) old live made)
