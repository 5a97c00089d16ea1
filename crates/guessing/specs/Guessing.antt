-- The guess rule by numbers that are kept: one for each open qubit, its weight, in the work list from element 9216 on.
--   weight_of      the number that the list has of a qubit
--   weight        1024 for each row on the qubit that has exactly two open qubits, and 1 for each row on it
--   Weighed       the kept numbers of the open qubits are a fresh count over the marks
--   share_of       what a row adds at each of its qubits, by the number of its open qubits
--   change_of      what a row adds when one of its qubits is settled: it comes to two open qubits, or leaves them
--   WeightsAlone  nothing but weights is written
--   AddedRow      a share added at each qubit of a row
--   with_lit      the rows of a half with other readings
--   weighable?    whether sizes are in range and the list long enough for weights; WeighRoom: that they are, part by part
--   Weighs        the promise of `weigh`: the weights counted
--   Renews        the promise of `renew`: the weights after a qubit is settled
--   choice_of      the qubit that the rule names, as an answer
--   heaviest      the promise of `most_open`: the open qubit of the largest weight, the lowest of equals
use Rattle.std.specs.Prelude.{◌≡◌, Bool, true, false, ◌&&◌, cond, List, ℕ, ◌+◌, ◌*◌, ◌%◌, ◌≤◌, ◌<◌, eqb, ltb, leb, length, get_or}
use Rattle.std.specs.Prelude.{Option, Some, None}
use Rattle.std.proofs.Math.Option.{Option as Maybe, none, some}
use Rattle.binary.specs.Meaning.{Qubits, Check, has}
use Rattle.code.specs.declared.Qubit.{Qubit}
use Rattle.code.specs.Tests.{Ascending}
use Rattle.scans.specs.Rows.{RowLists, rows_in, row_checks, GoodRows}
use Rattle.kept.specs.Kept.{Kept, RowsOn}
use Rattle.machine.specs.Machine.{put, is_open, pairs, degree, best}
use Rattle.machine.specs.Lists.{view}

----------------------------------------------------------------------
-- Weights

abbrev pub weight_of : List ℕ → ℕ → ℕ
weight_of work q = get_or work (9216 + q) 0

-- No qubit is on 1024 rows: of two weights the larger has more rows with two open qubits, or as many and more rows.
abbrev pub weight : Qubits → List Check → ℕ → ℕ
weight o cs q = 1024 * pairs o cs q + degree cs q

pub record Weighed (o : Qubits) (c : RowLists) (work : List ℕ) : Type 0 where
  pub weights : (q : ℕ) → o q ≡ true → weight_of work q ≡ weight o (row_checks c) q

abbrev pub share_of : ℕ → ℕ
share_of number = cond (eqb number 0) 0 (cond (eqb number 2) 1025 1)

-- Of the number that is left. Sums are taken modulo 2^32: the second is 1024 taken back.
abbrev pub change_of : ℕ → ℕ
change_of left = cond (eqb left 2) 1024 (cond (eqb left 1) 4294966272 0)

abbrev pub added_at : ℕ → Bool → ℕ → ℕ
added_at share on x = cond on ((x + share) % 4294967296) x

-- The length, and each element but the weights of the n qubits, stay.
pub record WeightsAlone (n : ℕ) (work work' : List ℕ) : Type 0 where
  pub long : length work' ≡ length work
  pub below : (k : ℕ) → k < 9216 → get_or work' k 0 ≡ get_or work k 0
  pub past : (k : ℕ) → 9216 + n ≤ k → get_or work' k 0 ≡ get_or work k 0

-- Of a row without repeats.
pub record AddedRow (n share : ℕ) (row work work' : List ℕ) : Type 0 where
  pub alone : WeightsAlone n work work'
  pub added : Ascending n row → (q : ℕ) → q < n → weight_of work q < 4294967296 → weight_of work' q ≡ added_at share (has row q) (weight_of work q)

----------------------------------------------------------------------
-- Counted, and kept

abbrev pub with_lit : RowLists → List ℕ → RowLists
with_lit r lit = rows_in r.flat r.ends r.first r.count lit

-- From what is kept of the rows, whatever their readings.
pub record WeighedRows (n : ℕ) (r : RowLists) (work work' : List ℕ) : Type 0 where
  pub alone : WeightsAlone n work work'
  pub weighed : (lit : List ℕ) → let c = with_lit r lit in GoodRows n c
      → (o : Qubits) → ((q : ℕ) → o q ≡ true → q < n) → Kept o c work → Weighed o c work'

-- Qubit p was settled, and what is kept of the rows is without it.
pub record RenewedRows (n : ℕ) (r : RowLists) (p : ℕ) (work work' : List ℕ) : Type 0 where
  pub alone : WeightsAlone n work work'
  pub renewed : (lit : List ℕ) → let c = with_lit r lit in GoodRows n c
      → (o : Qubits) → ((q : ℕ) → o q ≡ true → q < n) → o p ≡ true → Kept (put p false o) c work → RowsOn o c work → Weighed o c work → Weighed (put p false o) c work'

unfoldable pub weighable? : ℕ → RowLists → List ℕ → Bool
weighable? n r work = leb n 1024 && leb r.count 512 && leb (r.first + r.count) 1024 && leb 10240 (length work)

pub record WeighRoom (n : ℕ) (r : RowLists) (work : List ℕ) : Type 0 where
  pub size : n ≤ 1024
  pub few : r.count ≤ 512
  pub last : r.first + r.count ≤ 1024
  pub long : 10240 ≤ length work

-- Where sizes are in range and the list long enough; otherwise nothing is written.
pub record Weighs (n : ℕ) (r : RowLists) (work work' : List ℕ) : Type 0 where
  pub refused : weighable? n r work ≡ false → work' ≡ work
  pub weighs : weighable? n r work ≡ true → WeighedRows n r work work'

pub record Renews (n : ℕ) (r : RowLists) (p : ℕ) (work work' : List ℕ) : Type 0 where
  pub refused : weighable? n r work ≡ false → work' ≡ work
  pub renews : weighable? n r work ≡ true → RenewedRows n r p work work'

----------------------------------------------------------------------
-- The guessed qubit

abbrev pub lighter : List ℕ → ℕ → ℕ → Bool
lighter work p q = ltb (weight_of work p) (weight_of work q)

abbrev pub choice_of : Maybe ℕ → Option Qubit
choice_of none = None
choice_of (some p) = Some (record { 0 = p })

unfoldable pub namable? : ℕ → List ℕ → List ℕ → Bool
namable? n marks work = leb n 1024 && leb n (length marks) && leb 10240 (length work)

unfoldable pub heaviest : ℕ → List ℕ → List ℕ → Option Qubit
heaviest n marks work = cond (namable? n marks work) (choice_of (best (lighter work) n (is_open (view n marks)))) None
