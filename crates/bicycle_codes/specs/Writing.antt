-- What the functions that write the rows do.
--   Small      sizes that are not refused
--   shifted    three places, a place moved by three terms, ascending
--   Shifts     they are, and lie in the grid
--   back       terms that move a place back
--   six_of      the six numbers of a row
--   row_by      a row by terms for its left and its right; RowsPut: so many rows written
use Rattle.std.specs.Prelude.{◌≡◌, ◌⊎◌, List, ◌++◌, map, ℕ, ◌+◌, ◌*◌, ◌-◌, ◌/◌, ◌%◌, ◌≤◌, ◌<◌, length, get_or}
use Rattle.binary.specs.Meaning.{Row, All}
use Rattle.bicycle_codes.specs.declared.Term.{Term}
use Rattle.bicycle_codes.specs.declared.Terms.{Terms}
use Rattle.bicycle_codes.specs.Bicycle.{list_of, sorted}

abbrev pub Small : ℕ → ℕ → Type 0
Small l m = (0 < l) × (0 < m) × (l * m ≤ 512)

-- In a grid of l times m.
abbrev pub shifted : ℕ → ℕ → ℕ → Terms → List ℕ
shifted l m p t = sorted (map (λ u. (p / m + u.a) % l * m + (p % m + u.b) % m) (list_of t))

pub record Shifts (l m p : ℕ) (t : Terms) (r : List ℕ) : Type 0 where
  pub is : r ≡ shifted l m p t
  pub below : All (λ q. q < l * m) r

abbrev pub back_of : ℕ → ℕ → Term → Term
back_of l m t = record { a = l - t.a; b = m - t.b }

abbrev pub back : ℕ → ℕ → Terms → Terms
back l m t = record { p = back_of l m t.p; q = back_of l m t.q; r = back_of l m t.r }

-- The right block is so much higher.
abbrev pub six_of : ℕ → List ℕ → List ℕ → List ℕ
six_of lift left right = left ++ map (λ q. lift + q) right

-- A row by terms for its left and its right.
abbrev pub row_by : ℕ → ℕ → Terms → Terms → ℕ → Row
row_by l m left right p = shifted l m p left ++ map (λ q. l * m + q) (shifted l m p right)

-- So many rows of six numbers, written from row `first` on; no other number is.
pub record RowsPut (first count : ℕ) (row : ℕ → Row) (old new : List ℕ) : Type 0 where
  pub long : length new ≡ length old
  pub rows : (p j : ℕ) → p < count → j < 6 → get_or new (6 * (first + p) + j) 0 ≡ get_or (row p) j 0
  pub rest : (k : ℕ) → (k < 6 * first) ⊎ (6 * (first + count) ≤ k) → get_or new k 0 ≡ get_or old k 0
