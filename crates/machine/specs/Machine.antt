-- A half, turn by turn (document 01, "A half, turn by turn").
--   Form         a settled qubit's form: bit 0 a constant, bit k the k-th live guess in order of creation
--   State        the marks of the qubits, the forms with the live guesses, and the turns made
--   side         a row's side: its lit bit plus the forms of its lost qubits, modulo 2
--   closed?      a row is closed when it has no open qubit
--   dangling     the lowest dangling row, which has one open qubit, with that qubit
--   take_up       a closed row is taken up; take_up_all: those that pass a test, ascending
--   start        fixed qubits are settled with form 0, then the closed rows are taken up
--   before       the tests before a turn, in their order
--   turn         the lowest dangling row's open qubit gets the row's side, or a qubit becomes a new live guess
--   run          turns until a test ends the half
--   freest       the open qubit on most rows with two open qubits, then on most rows, then the lowest
--   checks       the half's rows that were read, with their readings
--   decoded      how the half of a code and a shot ends, with a guess budget and a turn limit
-- The machine takes the rule by which the guessed qubit is chosen as a parameter.
use Rattle.std.specs.Prelude.{Bool, true, false, not, ◌&&◌, ◌||◌, cond, List, [], ◌∷◌, ℕ, zero, suc, eqb, ltb, length}
use Rattle.std.proofs.Math.Option.{Option, none, some}
use Rattle.binary.specs.Bits.{◌⊕◌, below, count}
use Rattle.binary.specs.Meaning.{Qubits, Row, Check, has, odd, fixed?}
use Rattle.machine.specs.declared.Word.{Word}
use Rattle.machine.specs.declared.Word.TheVariants.{None, Spent, Stopped}
use Rattle.machine.specs.Words.{finished}

----------------------------------------------------------------------
-- Forms, marks, states

abbrev pub Form : Type 0
Form = ℕ → Bool

-- The forms of the qubits, and how many guesses are live. A qubit that is not settled has form 0.
pub record Forms : Type 0 where
  pub form : ℕ → Form
  pub live : ℕ

-- Marks: 0 not lost, 1 fixed, 2 peeled, 3 guessed, 4 open.
pub record State : Type 0 where
  pub mark : ℕ → ℕ
  pub forms : Forms
  pub turns : ℕ

abbrev pub is_open : (ℕ → ℕ) → Qubits
is_open mark q = eqb (mark q) 4

abbrev pub is_settled : (ℕ → ℕ) → Qubits
is_settled mark q = not (eqb (mark q) 0) && not (eqb (mark q) 4)

-- A function changed at one place.
abbrev pub put : {A : Type 0} → ℕ → A → (ℕ → A) → ℕ → A
put p v f q = cond (eqb p q) v (f q)

----------------------------------------------------------------------
-- Rows: side, closed, dangling

-- Bit k of a row's side. A qubit that was not lost has form 0, and adds nothing.
abbrev pub side : Forms → Check → Form
side fs c k = (c.lit && eqb k 0) ⊕ odd (λ q. fs.form q k) c.row

abbrev pub keep_if : {A : Type 0} → Bool → A → List A → List A
keep_if true a l = a ∷ l
keep_if false a l = l

-- The qubits of a row that lie in a set.
abbrev pub part : Qubits → Row → List ℕ
part o [] = []
part o (q ∷ r) = keep_if (o q) q (part o r)

abbrev pub empty? : List ℕ → Bool
empty? [] = true
empty? (q ∷ r) = false

-- A row is closed when it has no open qubit.
abbrev pub closed? : Qubits → Check → Bool
closed? o c = empty? (part o c.row)

-- The element of a list of one.
abbrev pub only : List ℕ → Option ℕ
only [] = none
only (p ∷ []) = some p
only (p ∷ (q ∷ r)) = none

abbrev pub or_else : Option ℕ → Check → Option (ℕ × Check) → Option (ℕ × Check)
or_else none c d = d
or_else (some p) c d = some (p, c)

-- A row dangles when it has one open qubit: the lowest such row, and that qubit.
abbrev pub dangling : Qubits → List Check → Option (ℕ × Check)
dangling o [] = none
dangling o (c ∷ cs) = or_else (only (part o c.row)) c (dangling o cs)

abbrev pub some? : {A : Type 0} → Option A → Bool
some? none = false
some? (some a) = true

----------------------------------------------------------------------
-- Taking up closed rows

-- The newest guess in a side, or 0 where there is none.
abbrev pub newest : ℕ → Form → ℕ
newest zero s = 0
newest (suc k) s = cond (s (suc k)) (suc k) (newest k s)

-- A form without its bit k: the later ones move down one bit.
abbrev pub without : ℕ → Form → Form
without zero f j = f (suc j)
without (suc k) f zero = f zero
without (suc k) f (suc j) = without k (λ i. f (suc i)) j

-- Guess k, which is in the side s, is replaced by the rest of the side, and later guesses move down one bit.
abbrev pub replace : ℕ → Form → Form → Form
replace k s f = without k (λ j. f j ⊕ (f k && s j))

abbrev pub one_less : ℕ → ℕ
one_less zero = zero
one_less (suc n) = n

-- Side 0, nothing; side 1 without guesses, the half ends in none; else the newest guess in the side is replaced everywhere.
abbrev pub take_at : ℕ → Form → Forms → Option Forms
take_at zero s fs = cond (s 0) none (some fs)
take_at (suc k) s fs = some (record { form = λ q. replace (suc k) s (fs.form q); live = one_less fs.live })

abbrev pub take_up : Forms → Check → Option Forms
take_up fs c = take_at (newest fs.live (side fs c)) (side fs c) fs

abbrev pub bind : {A B : Type 0} → Option A → (A → Option B) → Option B
bind none f = none
bind (some a) f = f a

abbrev pub take_if : Bool → Forms → Check → Option Forms
take_if true fs c = take_up fs c
take_if false fs c = some fs

-- The rows that pass the test are taken up, ascending.
abbrev pub take_up_all : (Check → Bool) → List Check → Forms → Option Forms
take_up_all t [] fs = some fs
take_up_all t (c ∷ cs) fs = bind (take_if (t c) fs c) (take_up_all t cs)

----------------------------------------------------------------------
-- Start, turn, and the tests before a turn

-- The half goes on, or a row that was taken up ended it in none: then no guess is live.
pub data Stage : Type 0 where
  on : State → Stage
  failed : State → Stage

abbrev pub blank : Forms
blank = record { form = λ q k. false; live = 0 }

abbrev pub stage : (ℕ → ℕ) → ℕ → Option Forms → Stage
stage mark turns none = failed (record { mark = mark; forms = blank; turns = turns })
stage mark turns (some fs) = on (record { mark = mark; forms = fs; turns = turns })

abbrev pub start_mark : Qubits → Qubits → ℕ → ℕ
start_mark lost fixed q = cond (lost q) (cond (fixed q) 1 4) 0

-- Start: fixed qubits are settled with form 0. Then the closed rows are taken up.
unfoldable pub start : List Check → Qubits → Qubits → Stage
start checks lost fixed =
    stage (start_mark lost fixed) 0 (take_up_all (closed? (is_open (start_mark lost fixed))) checks blank)

-- The rows that this turn closed.
abbrev pub closing : (ℕ → ℕ) → (ℕ → ℕ) → Check → Bool
closing mark mark' c = not (closed? (is_open mark) c) && closed? (is_open mark') c

-- Qubit p is settled with mark m, with these forms. Then the rows that this turn closed are taken up.
abbrev pub settle : List Check → State → ℕ → ℕ → Forms → Stage
settle checks st p m fs =
    stage (put p m st.mark) (suc st.turns) (take_up_all (closing st.mark (put p m st.mark)) checks fs)

-- The dangling row gives its open qubit p the row's side.
abbrev pub peel : List Check → State → ℕ → Check → Stage
peel checks st p c = settle checks st p 2 (record { form = put p (side st.forms c) st.forms.form; live = st.forms.live })

-- The open qubit p becomes a new live guess.
abbrev pub guess : List Check → State → ℕ → Stage
guess checks st p =
    settle checks st p 3
    (record { form = put p (λ k. eqb k (suc st.forms.live)) st.forms.form; live = suc st.forms.live })

-- How a half ends: the word, and the state that it ended in.
pub record End : Type 0 where
  pub word : Word
  pub state : State

-- The checks of the half, the number of qubits, and the guess rule: what it names of the open qubits.
module _ (checks : List Check) (n : ℕ) (choose : Qubits → Option ℕ) where
  abbrev pub turn_by : State → Option (ℕ × Check) → Option ℕ → Stage
  turn_by st (some d) p = peel checks st d.0 d.1
  turn_by st none (some p) = guess checks st p
  turn_by st none none = on st

  -- Turn: the lowest dangling row gives its open qubit the row's side. If no row dangles, the qubit that the rule names becomes a new
  -- live guess. Then the rows that this turn closed are taken up.
  abbrev pub turn : State → Stage
  turn st = turn_by st (dangling (is_open st.mark) checks) (choose (is_open st.mark))

  abbrev pub none_open : State → Bool
  none_open st = below n (λ q. not (is_open st.mark q))

  abbrev pub dangles : State → Bool
  dangles st = some? (dangling (is_open st.mark) checks)

  -- Before a turn: no open qubit, the half is finished; else if turns made equal the turn limit, stopped;
  -- else if no row dangles and the live guesses equal the budget, spent.
  abbrev pub before : ℕ → ℕ → State → Option Word
  before budget limit st =
      cond (none_open st) (some (finished st.forms.live))
      (cond (eqb st.turns limit) (some Stopped)
      (cond (not (dangles st) && eqb st.forms.live budget) (some Spent)
      none))

  -- The half ends with the word, or goes on.
  abbrev pub onward : Option Word → State → (Stage → End) → Stage → End
  onward (some w) st more s = record { word = w; state = st }
  onward none st more s = more s

  -- At most m turns more: with one more than the limit, `before` ends the half first.
  unfoldable pub run : ℕ → ℕ → ℕ → Stage → End
  run budget limit zero (on st) = record { word = Stopped; state = st }
  run budget limit zero (failed st) = record { word = None; state = st }
  run budget limit (suc m) (on st) = onward (before budget limit st) st (run budget limit m) (turn st)
  run budget limit (suc m) (failed st) = record { word = None; state = st }

----------------------------------------------------------------------
-- The guess rule (document 02, request g): the open qubit on most rows that have exactly two open qubits; equals are settled by most rows of the half, then
-- by the lowest number

-- How many of the rows pass a test.
abbrev pub passing : (Check → Bool) → List Check → ℕ
passing t [] = 0
passing t (c ∷ cs) = count (t c) (passing t cs)

-- A row has exactly two open qubits: with one of them guessed it dangles.
abbrev pub pair? : Qubits → Check → Bool
pair? o c = eqb (length (part o c.row)) 2

-- The rows on a qubit that have exactly two open qubits, and all rows of the half on it.
abbrev pub pairs : Qubits → List Check → ℕ → ℕ
pairs o cs q = passing (λ c. pair? o c && has c.row q) cs

abbrev pub degree : List Check → ℕ → ℕ
degree cs q = passing (λ c. has c.row q) cs

-- Qubit p is on fewer rows that have exactly two open qubits than q, or on as many and on fewer rows.
abbrev pub fewer : List Check → Qubits → ℕ → ℕ → Bool
fewer cs o p q = ltb (pairs o cs p) (pairs o cs q) || (eqb (pairs o cs p) (pairs o cs q) && ltb (degree cs p) (degree cs q))

-- The better of the qubit found so far and of q, where q is open. On equals the lower one stays.
abbrev pub better : Bool → (ℕ → ℕ → Bool) → ℕ → Option ℕ → Option ℕ
better false behind q b = b
better true behind q none = some q
better true behind q (some p) = cond (behind p q) (some q) (some p)

abbrev pub best : (ℕ → ℕ → Bool) → ℕ → Qubits → Option ℕ
best behind zero o = none
best behind (suc n) o = better (o n) behind n (best behind n o)

abbrev pub freest : List Check → ℕ → Qubits → Option ℕ
freest cs n o = best (fewer cs o) n o

----------------------------------------------------------------------
-- The half of a code and a shot

-- What a half is decoded from. X errors are found from the Z rows, and the X rows are then the other kind; Z errors the other way round.
-- A row is unread when its helper atom was lost.
pub record Half : Type 0 where
  pub size : ℕ
  pub rows : List Row
  pub others : List Row
  pub lost : Qubits
  pub lit : ℕ → Bool
  pub unread : ℕ → Bool

-- From row i on.
abbrev pub readings : ℕ → (ℕ → Bool) → (ℕ → Bool) → List Row → List Check
readings i lit unread [] = []
readings i lit unread (r ∷ rs) = keep_if (not (unread i)) (record { lit = lit i; row = r }) (readings (suc i) lit unread rs)

-- The half's matrix: its rows that were read, in their order, with their readings.
abbrev pub checks : Half → List Check
checks h = readings 0 h.lit h.unread h.rows

abbrev pub fixed_of : Half → Qubits
fixed_of h = fixed? h.size h.others h.lost

abbrev pub rule_of : Half → Qubits → Option ℕ
rule_of h = freest (checks h) h.size

abbrev pub start_of : Half → Stage
start_of h = start (checks h) h.lost (fixed_of h)

unfoldable pub decoded : Half → ℕ → ℕ → End
decoded h budget limit = run (checks h) h.size (rule_of h) budget limit (suc limit) (start_of h)
