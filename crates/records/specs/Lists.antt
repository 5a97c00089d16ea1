-- The lists that hold code and shot, and how (document 01, "Lists lent to a decode"; docs/LISTS.md).
--   Lists       the lists that hold code and shot: the rows end to end, their ends with the rows on each qubit, and the shot
--   Six         the six lists of a decode
--   Lent        all that a call is lent beside the state
--   short_lists  whether a list of code, shot, window or work is below its least length; short_six: one of the six lists of a decode
--   HeldShot    the shot's list holds this shot
--   Represents  state and lists hold this code and shot
use Rattle.std.specs.Prelude.{◌≡◌, Bool, true, false, not, ◌&&◌, ◌||◌, ◌⊎◌, List, [], ◌++◌, ℕ, ◌+◌, ◌*◌, ◌≤◌, ◌<◌, eqb, ltb, length, get_or}
use Rattle.binary.specs.Meaning.{Row, All, commute?}
use Rattle.code.specs.Lists.{Flat}
use Rattle.code.specs.Tests.{Ascending}
use Rattle.incidence.specs.Incidence.{Listed}
use Rattle.machine.specs.Lists.{HalfLists}
use Rattle.records.specs.declared.Sizes.{Sizes}
use Rattle.records.specs.declared.Phase.TheVariants.{Empty, Loading, Ready}
use Rattle.records.specs.declared.State.{State}
use Rattle.records.specs.declared.Pauli.TheVariants.{X, Z}
use Rattle.records.specs.Records.{Set, lost, lit, unread}
use Rattle.records.specs.History.{Code, sizes_of, Shot, Domain, qubits, rows, domain_of, size_of, already, History, empty, loading, ready}
use Rattle.records.specs.Table.{in_range}

----------------------------------------------------------------------
-- Lists

pub record Lists : Type 0 where
  pub flat : List ℕ
  pub ends : List ℕ
  pub shot : List ℕ

abbrev pub held : List ℕ → List ℕ → List ℕ → Lists
held flat ends shot = record { flat = flat; ends = ends; shot = shot }

pub record Six : Type 0 where
  pub x : HalfLists
  pub z : HalfLists

abbrev pub six_of : List ℕ → List ℕ → List ℕ → List ℕ → List ℕ → List ℕ → Six
six_of x-marks x-forms x-correction z-marks z-forms z-correction = record {
  x = record { marks = x-marks; forms = x-forms; correction = x-correction };
  z = record { marks = z-marks; forms = z-forms; correction = z-correction };
}

pub record Lent : Type 0 where
  pub lists : Lists
  pub window : List ℕ
  pub work : List ℕ
  pub six : Six

abbrev pub lent_of : Lists → List ℕ → List ℕ → Six → Lent
lent_of lists window work six = record { lists = lists; window = window; work = work; six = six }

----------------------------------------------------------------------
-- Least lengths

-- 512 + 512 rows of up to 16 qubits; their ends, and 15 elements for the rows on each of 1,024 qubits; 1,024 qubits and as many rows; ten numbers for each of 256 reports. The first 8,192 elements of the work list are 512 packed rows of 16 words,
-- afterwards 8 words for the rows on each of 1,024 qubits; behind them are the dangling rows of a half, how many they are, of each of 512 rows the number
-- of its open qubits, and 1,024 elements for what a half keeps besides: sums and parities of the rows, or a copy, or weights (docs/LISTS.md).
unfoldable pub short_lists : Lists → ℕ → ℕ → Bool
short_lists l window work =
    ltb (length l.flat) 16384 || ltb (length l.ends) 16384 || ltb (length l.shot) 2048 || ltb window 2560 || ltb work 10240

abbrev pub short_half : HalfLists → ℕ → Bool
short_half l n = ltb (length l.marks) n || ltb (length l.forms) (4 * n) || ltb (length l.correction) n

-- The six lists of a decode have at least n elements, its forms four words a qubit.
unfoldable pub short_six : Six → ℕ → Bool
short_six s n = short_half s.x n || short_half s.z n

----------------------------------------------------------------------
-- State and lists hold code and shot

-- Where the shot's list has its elements: those of the qubits from its start on, those of the rows from element 1024 on, numbered as in the lists of
-- the code, the X rows first.
abbrev pub first_numbers : Domain → Sizes → ℕ
first_numbers qubits z = 0
first_numbers (rows X) z = 1024
first_numbers (rows Z) z = 1024 + z.x

-- The element of a number in a set: 1 of a lost qubit and of a lit row, 2 of an unread row.
abbrev pub element : Set → ℕ
element lost = 1
element (lit p) = 1
element (unread p) = 2

-- The numbers below `count` that a list marks by elements e, from element `first` on.
abbrev pub marks : ℕ → ℕ → ℕ → List ℕ → ℕ → Bool
marks e count first l k = ltb k count && eqb (get_or l (first + k) 0) e

-- The shot's list has its element for each number in a set, and 0 for each qubit and row that is in none.
pub record HeldShot (c : Code) (s : Shot) (shot : List ℕ) : Type 0 where
  pub sets : (u : Set) → s.sets u ≡ marks (element u) (size_of (domain_of u) (sizes_of c)) (first_numbers (domain_of u) (sizes_of c)) shot
  pub zeros : (p : Domain) (k : ℕ) → k < size_of p (sizes_of c) → already p s k ≡ false → get_or shot (first_numbers p (sizes_of c) + k) 0 ≡ 0

-- An empty shot, whatever an earlier one left in the list.
abbrev pub NoShot : Shot → Type 0
NoShot s = (u : Set) → s.sets u ≡ (λ k. false)

abbrev pub ShotIn : Bool → Code → Shot → List ℕ → Type 0
ShotIn true c s shot = NoShot s
ShotIn false c s shot = HeldShot c s shot

-- Rows that a code may have: strictly ascending, below n, at most 16 qubits.
pub record GoodRows (n : ℕ) (rows : List Row) : Type 0 where
  pub ascending : All (Ascending n) rows
  pub weights : All (λ r. length r ≤ 16) rows

pub record Loads (s : Sizes) (xs zs : List Row) (st : State) (l : Lists) : Type 0 where
  pub phase : st.phase ≡ Loading
  pub sizes : st.sizes ≡ s
  pub range : in_range s.n s.x s.z ≡ true
  pub rows : st.rows ≡ length xs + length zs
  pub some_left : length xs + length zs < s.x + s.z
  pub x_few : length xs ≤ s.x
  pub x_first : (zs ≡ []) ⊎ (length xs ≡ s.x)
  pub good_xs : GoodRows s.n xs
  pub good_zs : GoodRows s.n zs
  pub flat : Flat (xs ++ zs) l.flat l.ends
  pub on : Listed s.n (xs ++ zs) l.ends
  pub clash : st.clash ≡ not (commute? zs xs)

pub record Holds (c : Code) (s : Shot) (st : State) (l : Lists) : Type 0 where
  pub phase : st.phase ≡ Ready
  pub sizes : st.sizes ≡ sizes_of c
  pub range : in_range c.n (length c.xs) (length c.zs) ≡ true
  pub good_xs : GoodRows c.n c.xs
  pub good_zs : GoodRows c.n c.zs
  pub commute : commute? c.zs c.xs ≡ true
  pub flat : Flat (c.xs ++ c.zs) l.flat l.ends
  pub on : Listed c.n (c.xs ++ c.zs) l.ends
  pub spoiled : st.spoiled ≡ s.spoiled
  pub shot : ShotIn st.stale c s l.shot

abbrev pub Represents : History → State → Lists → Type 0
Represents empty st l = st.phase ≡ Empty
Represents (loading s xs zs) st l = Loads s xs zs st l
Represents (ready c s) st l = Holds c s st l
