-- The shortest untaken column.
--   Tall         a word that has every column with a bit in one of the planes from 4 up to e
--   Least        the shortest column of a word
--   ShortestOf   the shortest of the untaken columns
--   ShortestFound  the same as an answer
--   room?        whether a list of so many words has the planes and the untaken columns of rows of w words
--   Takes        that column taken; column 0 and 1024 where there is none
--   TakesFound   the promise of `take_shortest`
use Rattle.std.specs.Prelude.{◌≡◌, Bool, true, false, not, ◌&&◌, ◌⊎◌, List, ℕ, ◌+◌, ◌*◌, ◌≤◌, ◌<◌, eqb, leb, length, get_or, Option, Some, None}
use Rattle.binary.specs.Words.{bit}
use Rattle.columns.specs.Planes.{planes, number}
use Rattle.columns.specs.Columns.{untaken}
use Rattle.choosing.specs.declared.Shortest.{Shortest}

-- A column that r has not is 0 in those planes.
abbrev pub Tall : (at e : ℕ) (m : List ℕ) (r : ℕ) → Type 0
Tall at e m r = (b p : ℕ) → 4 ≤ p → p < e → bit r b ≡ false → planes m at b p ≡ false

-- Of the columns of word k that a word has: the lowest of equals.
pub record Least (k word : ℕ) (m : List ℕ) (r : Shortest) : Type 0 where
  pub place : ℕ
  pub within : place < 64
  pub column : r.column ≡ 64 * k + place
  pub has_it : bit word place ≡ true
  pub counted : number m r.column ≡ r.rows
  pub least : (b : ℕ) → b < 64 → bit word b ≡ true → r.rows ≤ number m (64 * k + b)
  pub lowest : (b : ℕ) → b < place → bit word b ≡ true → r.rows < number m (64 * k + b)

-- Of the untaken columns below 64 * w, with how many rows have it; column 0 and 1024 where there is none.
pub record ShortestOf (w : ℕ) (m : List ℕ) (column size : ℕ) : Type 0 where
  pub found : size < 1024 → (column < 64 * w) × (untaken m column ≡ true) × (number m column ≡ size)
  pub least : (c : ℕ) → c < 64 * w → untaken m c ≡ true → (size < 1024) × (size ≤ number m c)
  pub lowest : (c : ℕ) → c < column → untaken m c ≡ true → size < number m c
  pub absent : 1024 ≤ size → (column ≡ 0) × (size ≡ 1024)

-- None where there is none.
abbrev pub ShortestFound : ℕ → List ℕ → Option Shortest → Type 0
ShortestFound w m None = ShortestOf w m 0 1024
ShortestFound w m (Some r) = ShortestOf w m r.column r.rows × (r.rows < 1024)

unfoldable pub room? : ℕ → ℕ → Bool
room? len w = leb w 16 && leb 10240 len

pub record Takes (w : ℕ) (m m' : List ℕ) (r : Shortest) : Type 0 where
  pub long : length m' ≡ length m
  pub shortest : room? (length m) w ≡ true → ShortestOf w m r.column r.rows
  pub taken : room? (length m) w ≡ true → r.rows < 1024 → (c : ℕ) → untaken m' c ≡ (untaken m c && not (eqb r.column c))
  pub kept : (k : ℕ) → (k < 8448) ⊎ (8464 ≤ k) → get_or m' k 0 ≡ get_or m k 0
  pub none : r.rows ≡ 1024 → m' ≡ m
  pub refused : room? (length m) w ≡ false → (r ≡ record { column = 0; rows = 1024 }) × (m' ≡ m)

abbrev pub TakesFound : ℕ → List ℕ → List ℕ → Option Shortest → Type 0
TakesFound w m m' None = Takes w m m' (record { column = 0; rows = 1024 })
TakesFound w m m' (Some r) = Takes w m m' r × (r.rows < 1024)
