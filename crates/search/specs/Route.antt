-- The route of the search: the columns that are not lost are taken one by one, the shortest first, then the lost ones ascending.
--   Stand         how the search stands: the untaken columns that are not lost, the columns that a row has cleared, the rows left
--   column_length  the length of a column: how many rows left have it
--   first         the lowest number below n that passes a test
--   former        the place that the row at j had before row i left
--   cleared       the rows left when row i has cleared column q
--   take_column    column q is taken: the lowest row that has it clears it
--   shortest      the untaken column with the fewest rows in it, the lowest of equals
--   step          the shortest one is taken; steps: so many times
--   ascend        the lost columns below q are taken, ascending
--   begin         at the start no column is taken
--   known         all columns that are not lost are taken
--   route         and then the lost ones
--   empty?        whether no row left has a column; clearable?: an untaken column that a row has
--   Same          two stands but for the untaken columns: the columns that a row has cleared, the rows left
--   step_but       the shortest column that a row has is taken; steps_but: so many times, columns that no row has at any time between, or never
--   EmptyLaw      whenever a column that no row has is taken, or never, the columns that a row clears and the rows left are the route's
use Rattle.std.specs.Prelude.{◌≡◌, Bool, true, false, not, cond, ◌&&◌, List, [], ◌∷◌, ℕ, zero, suc, ◌≤◌, eqb, ltb, length, get_or}
use Rattle.std.proofs.Math.Option.{Option, none, some}
use Rattle.binary.specs.Bits.{◌⊕◌, tally}
use Rattle.binary.specs.Meaning.{Qubits, Row, has}

-- A row that has cleared a column leaves, and the row at the lowest place takes its place; so the rows left stand at the places from the number of rows
-- that have cleared one on, and the places below are empty.
pub record Stand : Type 0 where
  pub untaken : Qubits
  -- The latest first.
  pub columns : List ℕ
  -- By its place.
  pub row : ℕ → Qubits

-- Of so many rows.
abbrev pub column_length : ℕ → Stand → ℕ → ℕ
column_length rows s q = tally rows (λ i. s.row i q)

----------------------------------------------------------------------
-- A column taken

abbrev pub earlier : Option ℕ → Bool → ℕ → Option ℕ
earlier (some i) b n = some i
earlier none b n = cond b (some n) none

abbrev pub first : ℕ → (ℕ → Bool) → Option ℕ
first zero f = none
first (suc n) f = earlier (first n f) (f n) n

-- Whether there is one.
abbrev pub some? : Option ℕ → Bool
some? none = false
some? (some i) = true

abbrev pub former : ℕ → ℕ → ℕ → ℕ
former top i j = cond (eqb j i) top j

-- Row i is added to each other row that has q, and leaves; the row at place top takes its place.
abbrev pub cleared : ℕ → ℕ → ℕ → (ℕ → Qubits) → ℕ → Qubits
cleared top i q row j p = ltb top j && (row (former top i j) p ⊕ (row (former top i j) q && row i p))

abbrev pub without : ℕ → Qubits → Qubits
without q s p = s p && not (eqb q p)

-- By the row that clears it, if there is one.
abbrev pub take_by : Option ℕ → ℕ → Stand → Stand
take_by none q s = record { untaken = without q s.untaken; columns = s.columns; row = s.row }
take_by (some i) q s =
    record { untaken = without q s.untaken; columns = q ∷ s.columns; row = cleared (length s.columns) i q s.row }

abbrev pub clearing : ℕ → ℕ → Stand → Option ℕ
clearing rows q s = first rows (λ i. s.row i q)

abbrev pub take_column : ℕ → ℕ → Stand → Stand
take_column rows q s = take_by (clearing rows q s) q s

----------------------------------------------------------------------
-- The columns that are not lost

abbrev pub shorter : Bool → (ℕ → ℕ) → ℕ → Option ℕ → Option ℕ
shorter false len q r = r
shorter true len q none = some q
shorter true len q (some p) = cond (ltb (len q) (len p)) (some q) (some p)

abbrev pub shortest : (ℕ → ℕ) → ℕ → Qubits → Option ℕ
shortest len zero u = none
shortest len (suc n) u = shorter (u n) len n (shortest len n u)

abbrev pub step_by : ℕ → Option ℕ → Stand → Stand
step_by rows none s = s
step_by rows (some q) s = take_column rows q s

-- Of n columns.
abbrev pub step : ℕ → ℕ → Stand → Stand
step n rows s = step_by rows (shortest (column_length rows s) n s.untaken) s

abbrev pub steps : ℕ → ℕ → ℕ → Stand → Stand
steps n rows zero s = s
steps n rows (suc k) s = step n rows (steps n rows k s)

----------------------------------------------------------------------
-- The lost columns

abbrev pub ascend : ℕ → Qubits → ℕ → Stand → Stand
ascend rows lost zero s = s
ascend rows lost (suc q) s = cond (lost q) (take_column rows q (ascend rows lost q s)) (ascend rows lost q s)

----------------------------------------------------------------------
-- The route

abbrev pub begin : ℕ → List Row → Qubits → Stand
begin n rs lost = record { untaken = λ q. ltb q n && not (lost q); columns = []; row = λ i. has (get_or rs i []) }

abbrev pub known : ℕ → List Row → Qubits → Stand
known n rs lost = steps n (length rs) n (begin n rs lost)

unfoldable pub route : ℕ → List Row → Qubits → Stand
route n rs lost = ascend (length rs) lost n (known n rs lost)

----------------------------------------------------------------------
-- Columns that no row left has

abbrev pub empty? : ℕ → Stand → ℕ → Bool
empty? rows s q = eqb (column_length rows s q) 0

abbrev pub clearable? : ℕ → Stand → Qubits
clearable? rows s q = s.untaken q && not (empty? rows s q)

abbrev pub Same : Stand → Stand → Type 0
Same s t = (s.columns ≡ t.columns) × (s.row ≡ t.row)

abbrev pub step_but : ℕ → ℕ → Stand → Stand
step_but n rows s = step_by rows (shortest (column_length rows s) n (clearable? rows s)) s

-- none: such a step. some q: column q is taken, if no row has it.
abbrev pub steps_but : ℕ → ℕ → List (Option ℕ) → Stand → Stand
steps_but n rows [] s = s
steps_but n rows (none ∷ l) s = steps_but n rows l (step_but n rows s)
steps_but n rows (some q ∷ l) s = steps_but n rows l (cond (empty? rows s q) (take_column rows q s) s)

-- How many are steps.
abbrev pub steps_in : List (Option ℕ) → ℕ
steps_in [] = 0
steps_in (none ∷ l) = suc (steps_in l)
steps_in (some q ∷ l) = steps_in l

-- Of a column that no row has nothing changes when it is taken but that it is taken, and no column that is taken gives it a row. n steps are enough, since each takes one of n columns.
pub record EmptyColumns (n : ℕ) (rs : List Row) (lost : Qubits) : Type 0 where
  pub taken : (rows q : ℕ) (s : Stand) → empty? rows s q ≡ true → take_column rows q s ≡ record { untaken = without q s.untaken; columns = s.columns; row = s.row }
  pub stays : (rows p q : ℕ) (s : Stand) → empty? rows s q ≡ true → empty? rows (take_column rows p s) q ≡ true
  pub knowns : (l : List (Option ℕ)) → n ≤ steps_in l → Same (steps_but n (length rs) l (begin n rs lost)) (known n rs lost)
  pub all : (l : List (Option ℕ)) → n ≤ steps_in l → Same (ascend (length rs) lost n (steps_but n (length rs) l (begin n rs lost))) (route n rs lost)

unfoldable pub EmptyLaw : Type 0
EmptyLaw = (n : ℕ) (rs : List Row) (lost : Qubits) → EmptyColumns n rs lost
