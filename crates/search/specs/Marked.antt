-- What `mark_fixed` promises.
--   enough     whether the lists are long enough for the search
--   columns_of  the first columns that the work list has from element 9216 on, the latest first
--   Marked     the fixed qubits of the rows that the work list holds are marked, by the route; if a list is too short, nothing is written
use Rattle.std.specs.Prelude.{◌≡◌, Bool, true, false, cond, ◌&&◌, List, [], ◌∷◌, ℕ, zero, suc, ◌+◌, ◌≤◌, ◌<◌, leb, length, get_or, Option, Some, None}
use Rattle.binary.specs.Meaning.{Row, Below, fixed?}
use Rattle.binary.specs.Words.{listed}
use Rattle.packing.specs.Packed.{words_for, Packed}
use Rattle.search.specs.declared.Cleared.{Cleared}
use Rattle.search.specs.Route.{known, route}

-- For so many rows of n columns.
unfoldable pub enough : ℕ → ℕ → List ℕ → List ℕ → List ℕ → Bool
enough n rows lost work marks = leb n 1024 && leb rows 512 && leb 10240 (length work) && leb n (length lost) && leb n (length marks)

abbrev pub columns_of : List ℕ → ℕ → List ℕ
columns_of work zero = []
columns_of work (suc k) = get_or work (9216 + k) 0 ∷ columns_of work k

-- marks' is marks with a 1 at each fixed qubit of the rows rs. The work list has the columns that a row cleared, in the order of the route: `before` many that
-- are not lost, `all` many with the lost ones.
pub record Searched (n : ℕ) (rs : List Row) (lost marks work' marks' : List ℕ) (before all : ℕ) : Type 0 where
  pub marked : (q : ℕ) → q < n → get_or marks' q 0 ≡ cond (fixed? n rs (listed n lost) q) 1 (get_or marks q 0)
  pub first : columns_of work' before ≡ (known n rs (listed n lost)).columns
  pub taken : columns_of work' all ≡ (route n rs (listed n lost)).columns

-- r is the answer.
pub record Marked (n rows : ℕ) (lost work marks work' marks' : List ℕ) (r : Option Cleared) : Type 0 where
  pub work_size : length work' ≡ length work
  pub size : length marks' ≡ length marks
  pub rest : (k : ℕ) → n ≤ k → get_or marks' k 0 ≡ get_or marks k 0
  pub few : (c : Cleared) → r ≡ Some c → c.all ≤ rows
  pub made : enough n rows lost work marks ≡ true → (before all : ℕ) × (r ≡ Some (record { known = before; all = all }))
      × ((rs : List Row) → length rs ≡ rows → Packed n (words_for n) rs work → Below n rs → Searched n rs lost marks work' marks' before all)
  pub refused : enough n rows lost work marks ≡ false → (r ≡ None) × (work' ≡ work) × (marks' ≡ marks)
