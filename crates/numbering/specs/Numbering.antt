-- The numbers of the untaken columns, kept as rows are added.
--   Rippled        the planes of 64 numbers after a carry
--   Counted        as many more, or less, as the weight says in columns of word k
--   Stays          the untaken columns, and what follows them, stay
--   inside?        whether row i of w words lies in a list of so many words, before the planes
--   RowsIn         two rows lie in the list, before the planes
--   Joined         row `from` is added to row `to`, and numbers change by a weight
--   Added          and the numbers follow
--   Merged         and row `from` is counted no more
--   JoinedBy       merged or added
--   NumberedBut    the number of each untaken column is how many rows but row i have it
--   WhereInside    a change is made if both rows lie in the list
--   Adds           the promise of `add_row`; Merges: of `merge_row`; Joins: of either
--   KnownWord      the columns of a word that are not lost
--   KnownSet       the untaken columns are those that are not lost
--   NumberedRow    a row counted; NumberedRows: the first rows
--   Starts         the promise of `start`
use Rattle.std.specs.Prelude.{◌≡◌, Bool, true, false, not, cond, ◌&&◌, ◌⊎◌, List, ℕ, ◌+◌, ◌*◌, ◌^◌, ◌≤◌, ◌<◌, leb, ltb, length, get_or}
use Rattle.binary.specs.Bits.{◌⊕◌}
use Rattle.binary.specs.Words.{bit, listed}
use Rattle.packing.specs.Packed.{cell}
use Rattle.columns.specs.Planes.{number_at, Carried, number}
use Rattle.columns.specs.Columns.{untaken, rows_with, Numbered}

----------------------------------------------------------------------
-- Planes

-- Planes `from` up to `end`; r is what goes on.
pub record Rippled (at from end first other : ℕ) (m m' : List ℕ) (r : ℕ) : Type 0 where
  pub long : length m' ≡ length m
  pub sums : (e b : ℕ) → end ≤ e → Carried (bit other b) (cond (bit first b) (2 ^ from) 0) (cond (bit r b) (2 ^ end) 0) (number_at m at b e) (number_at m' at b e)
  pub kept : (k : ℕ) → (k < at + from) ⊎ (at + end ≤ k) → get_or m' k 0 ≡ get_or m k 0

-- Modulo 1024: x says whether it went past the last plane.
pub record Counted (k weight bits : ℕ) (down : ℕ → Bool) (m m' : List ℕ) : Type 0 where
  pub long : length m' ≡ length m
  pub sums : (b : ℕ) → b < 64 → (x : Bool) × Carried (down b) (cond (bit bits b) weight 0) (cond x 1024 0) (number m (64 * k + b)) (number m' (64 * k + b))
  pub kept : (j : ℕ) → (j < 8192 + 16 * k) ⊎ (8192 + 16 * k + 16 ≤ j) → get_or m' j 0 ≡ get_or m j 0

abbrev pub Stays : List ℕ → List ℕ → Type 0
Stays m m' = (k : ℕ) → 8448 ≤ k → get_or m' k 0 ≡ get_or m k 0

----------------------------------------------------------------------
-- A row added

unfoldable pub inside? : ℕ → ℕ → ℕ → Bool
inside? len w i = leb w 16 && ltb i 512 && leb 10240 len

abbrev pub RowsIn : ℕ → ℕ → ℕ → List ℕ → Type 0
RowsIn w from to m = (w ≤ 16) × (from * w + w ≤ 8192) × (to * w + w ≤ 8192) × (10240 ≤ length m)

-- The number of a column in `into` grows by the weight, or shrinks by it if in `down` too; modulo 1024: x says whether it went past. The others stay.
pub record Joined (weight : ℕ) (down into : ℕ → Bool) (w from to : ℕ) (m m' : List ℕ) : Type 0 where
  pub long : length m' ≡ length m
  pub cells : (c : ℕ) → c < 64 * w → cell m' w to c ≡ cell m w to c ⊕ cell m w from c
  pub kept : (k : ℕ) → k < 8192 → (k < to * w) ⊎ (to * w + w ≤ k) → get_or m' k 0 ≡ get_or m k 0
  pub stays : Stays m m'
  pub beyond : (k : ℕ) → 8192 + 16 * w ≤ k → k < 8448 → get_or m' k 0 ≡ get_or m k 0
  pub numbers : (c : ℕ) → c < 64 * w → (x : Bool) × Carried (down c) (cond (into c) weight 0) (cond x 1024 0) (number m c) (number m' c)

-- One more in an untaken column that row `from` has, or one less where row `to` had it too.
abbrev pub Added : ℕ → ℕ → ℕ → List ℕ → List ℕ → Type 0
Added w from to m m' = Joined 1 (cell m w to) (λ c. cell m w from c && untaken m c) w from to m m'

-- Two less in an untaken column that both have.
abbrev pub Merged : ℕ → ℕ → ℕ → List ℕ → List ℕ → Type 0
Merged w from to m m' = Joined 2 (λ c. true) (λ c. cell m w from c && cell m w to c && untaken m c) w from to m m'

-- Whether it merges is told first.
abbrev pub JoinedBy : Bool → ℕ → ℕ → ℕ → List ℕ → List ℕ → Type 0
JoinedBy false w from to m m' = Added w from to m m'
JoinedBy true w from to m m' = Merged w from to m m'

-- Of the rows from place top on.
abbrev pub NumberedBut : ℕ → ℕ → ℕ → ℕ → List ℕ → Type 0
NumberedBut w top rows i m = (c : ℕ) → c < 64 * w → untaken m c ≡ true → number m c + cond (cell m w i c) 1 0 ≡ rows_with m w top rows c

-- If not, nothing changes.
pub record WhereInside (w from to : ℕ) (m m' : List ℕ) (Change : Type 0) : Type 0 where
  pub made : inside? (length m) w from ≡ true → inside? (length m) w to ≡ true → Change
  pub refused : (inside? (length m) w from && inside? (length m) w to) ≡ false → m' ≡ m

abbrev pub Adds : ℕ → ℕ → ℕ → List ℕ → List ℕ → Type 0
Adds w from to m m' = WhereInside w from to m m' (Added w from to m m')

abbrev pub Merges : ℕ → ℕ → ℕ → List ℕ → List ℕ → Type 0
Merges w from to m m' = WhereInside w from to m m' (Merged w from to m m')

abbrev pub Joins : Bool → ℕ → ℕ → ℕ → List ℕ → List ℕ → Type 0
Joins merges w from to m m' = WhereInside w from to m m' (JoinedBy merges w from to m m')

----------------------------------------------------------------------
-- The start

-- The first e columns of word k that are not lost.
pub record KnownWord (n k : ℕ) (lost : List ℕ) (e word : ℕ) : Type 0 where
  pub known : (b : ℕ) → b < e → bit word b ≡ (ltb (64 * k + b) n && not (listed n lost (64 * k + b)))
  pub rest : (b : ℕ) → e ≤ b → bit word b ≡ false

pub record KnownSet (n w : ℕ) (lost m m' : List ℕ) : Type 0 where
  pub long : length m' ≡ length m
  pub known : (c : ℕ) → c < 64 * w → untaken m' c ≡ (ltb c n && not (listed n lost c))
  pub kept : (k : ℕ) → (k < 8448) ⊎ (8464 ≤ k) → get_or m' k 0 ≡ get_or m k 0

pub record NumberedRow (w i : ℕ) (m m' : List ℕ) : Type 0 where
  pub long : length m' ≡ length m
  pub kept : (k : ℕ) → k < 8192 → get_or m' k 0 ≡ get_or m k 0
  pub stays : Stays m m'
  pub numbers : (c : ℕ) → c < 64 * w → (x : Bool) × Carried false (cond (cell m w i c && untaken m c) 1 0) (cond x 1024 0) (number m c) (number m' c)

-- From planes that are clear.
pub record NumberedRows (w rows : ℕ) (m m' : List ℕ) : Type 0 where
  pub long : length m' ≡ length m
  pub kept : (k : ℕ) → k < 8192 → get_or m' k 0 ≡ get_or m k 0
  pub stays : Stays m m'
  pub numbered : ((c : ℕ) → c < 64 * w → number m c ≡ 0) → Numbered w 0 rows m'

unfoldable pub startable? : ℕ → ℕ → ℕ → ℕ → ℕ → Bool
startable? w rows n lost work = leb w 16 && leb rows 512 && leb 10240 work && leb n lost

pub record Started (w rows n : ℕ) (lost m m' : List ℕ) : Type 0 where
  pub long : length m' ≡ length m
  pub kept : (k : ℕ) → k < 8192 → get_or m' k 0 ≡ get_or m k 0
  pub past : (k : ℕ) → 8464 ≤ k → get_or m' k 0 ≡ get_or m k 0
  pub known : (c : ℕ) → c < 64 * w → untaken m' c ≡ (ltb c n && not (listed n lost c))
  pub numbered : Numbered w 0 rows m'

pub record Starts (w rows n : ℕ) (lost m m' : List ℕ) : Type 0 where
  pub started : startable? w rows n (length lost) (length m) ≡ true → Started w rows n lost m m'
  pub refused : startable? w rows n (length lost) (length m) ≡ false → m' ≡ m
