-- Lists that hold rows end to end. Assumes nothing.
use mathlib.Core.Path.{◌≡◌, refl, ap, ap₂, ◌∙◌}
use mathlib.Core.Logic.{⊎_elim}
use mathlib.Core.List.{List, [], ◌∷◌, ◌++◌, append-nil}
use Prim.Native.Nat.{ℕ, zero, suc, ◌+◌, ◌-◌, ◌<◌, ◌≤◌}
use native.Mathlib.Nat.{eq-or-lt_of_le}
use native.Mathlib.Omega.{arith}
use lib.ListN.{length, get_or, length-append, get_or-append}
use lib.Seq.{get_or-append-add}
use Rattle.binary.specs.Meaning.{Row}
use Rattle.code.specs.Lists.{start_of, row_at, rows_from, rows_between, Flat}

----------------------------------------------------------------------
-- No rows

pub flat_none : (flat ends : List ℕ) → Flat [] flat ends
flat_none flat ends = record { count = omega arith; held = λ r h. absurd (omega arith) }

----------------------------------------------------------------------
-- The rows that are held

rows_from_lem : (flat ends : List ℕ) (rows : List Row) (r : ℕ) → ((i : ℕ) → i < length rows → row_at flat ends (r + i) ≡ get_or rows i [])
    → rows_from flat ends r (length rows) ≡ rows
rows_from_lem flat ends [] r h = refl
rows_from_lem flat ends (row ∷ rows) r h =
    ap₂ ◌∷◌ (ap (row_at flat ends) (omega arith) ∙ h 0 (omega arith))
    (rows_from_lem flat ends rows (suc r) (λ i l. ap (row_at flat ends) (omega arith) ∙ h (suc i) (omega arith)))

-- A range holds the rows in the middle.
pub flat_rows_lem : (before rows after : List Row) (flat ends : List ℕ) → Flat (before ++ (rows ++ after)) flat ends
    → (from to : ℕ) → from ≡ length before → to ≡ length before + length rows → rows_between flat ends from to ≡ rows
unfolding rows_between
flat_rows_lem before rows after flat ends f from to a b =
    ap (rows_from flat ends from) count
    ∙ rows_from_lem flat ends rows from
    (λ i l. ap (λ (k : ℕ). row_at flat ends (k + i)) a ∙ (f.held (length before + i) (within i l)).is
    ∙ get_or-append-add before (rows ++ after) i [] ∙ get_or-append rows after [] i l)
  where
    count : to - from ≡ length rows
    count = omega arith

    within : (i : ℕ) → i < length rows → length before + i < length (before ++ (rows ++ after))
    within i l = omega (arith, length-append before (rows ++ after), length-append rows after)

-- The rows of one kind, and after them those of the other.
pub flat_first : (rows more : List Row) (flat ends : List ℕ) → Flat (rows ++ more) flat ends
    → (to : ℕ) → to ≡ length rows → rows_between flat ends 0 to ≡ rows
flat_first rows more flat ends f to e = flat_rows_lem [] rows more flat ends f 0 to refl (omega arith)

pub flat_second : (before rows : List Row) (flat ends : List ℕ) → Flat (before ++ rows) flat ends
    → (from to : ℕ) → from ≡ length before → to ≡ length before + length rows → rows_between flat ends from to ≡ rows
flat_second before rows flat ends f = flat_rows_lem before rows [] flat ends (rw (append-nil rows) f)

-- The same, by how many they are.
pub rows_first : (rows more : List Row) (flat ends : List ℕ) → Flat (rows ++ more) flat ends → rows_from flat ends 0 (length rows) ≡ rows
unfolding rows_between
rows_first rows more flat ends f =
    let e : length rows ≡ length rows - 0 = omega arith in
    ap (rows_from flat ends 0) e ∙ flat_first rows more flat ends f (length rows) refl

pub rows_second : (before rows : List Row) (flat ends : List ℕ) → Flat (before ++ rows) flat ends → rows_from flat ends (length before) (length rows) ≡ rows
unfolding rows_between
rows_second before rows flat ends f =
    let e : length rows ≡ length before + length rows - length before = omega arith in
    ap (rows_from flat ends (length before)) e ∙ flat_second before rows flat ends f (length before) (length before + length rows) refl refl

----------------------------------------------------------------------
-- Where they start

module _ (rows : List Row) (flat ends : List ℕ) (f : Flat rows flat ends) where
  pub start_next : (r : ℕ) → r < length rows → start_of ends (suc r) ≡ start_of ends r + length (get_or rows r [])
  unfolding start_of
  start_next r h = (f.held r h).ends_at

  pub starts_ascend : (r s : ℕ) → r ≤ s → s ≤ length rows → start_of ends r ≤ start_of ends s
  starts_ascend r zero h l = let first : r ≡ 0 = omega arith in rw first (omega arith)
  starts_ascend r (suc s) h l =
      ⊎_elim (λ e. rw e (omega arith))
      (λ (m : r < suc s). omega (arith, starts_ascend r s (omega arith) (omega arith), start_next s l))
      (eq-or-lt_of_le h)
