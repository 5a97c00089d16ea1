-- Bicycle codes from their terms (document 02, request c).
--   place         the number of a grid place
--   moved         a place moved so far; forward: by a term, backward: back by it
--   x_holds        the qubits of an X row, in the rule's order; z_holds: of a Z row
--   sorted        numbers in ascending order
--   x_row          an X row, its six qubits ascending; z_row: a Z row
--   each          a row for each place
--   code_of        the code: X rows and Z rows, each kind by the number of its place
--   flat_rows      the rows end to end, X rows first
--   grid?, term?  the tests of refusals 13 and 14; short?: of 12
--   BicycleAnswer  a refusal, or that the rows are written
--   bicycle_answer the answer: refusal 13, then 14, then 12, or the rows are written
--   Writes        the promise: the answer, and every element of the list, for every input
use Rattle.std.specs.Prelude.{◌≡◌, Bool, ◌&&◌, ◌||◌, cond, List, [], ◌∷◌, ◌++◌, map, ℕ, zero, suc, ◌+◌, ◌*◌, ◌-◌, ◌/◌, ◌%◌, eqb, leb, ltb, length, get_or, Ok, Err}
use Rattle.std.specs.declared.result.Result.{Result}
use Rattle.lists.specs.Filled.{Filled}
use Rattle.binary.specs.Meaning.{Row}
use Rattle.records.specs.History.{Code}
use Rattle.bicycle_codes.specs.declared.Term.{Term}
use Rattle.bicycle_codes.specs.declared.Terms.{Terms}
use Rattle.bicycle_codes.specs.declared.Bicycle.{Bicycle}
use Rattle.bicycle_codes.specs.declared.BicycleRefusal.{BicycleRefusal}
use Rattle.bicycle_codes.specs.declared.BicycleRefusal.TheVariants.{Grid, Short}

----------------------------------------------------------------------
-- The grid

-- A grid place (i, j) is number i × m + j.
abbrev pub place : Bicycle → ℕ → ℕ → ℕ
place g i j = i * g.m + j

-- How many places there are.
abbrev pub places : Bicycle → ℕ
places g = g.l * g.m

-- Place number p is (p / m, p % m). Sums are modulo l and m.
abbrev pub moved : Bicycle → ℕ → ℕ → ℕ → ℕ
moved g p a b = place g ((p / g.m + a) % g.l) ((p % g.m + b) % g.m)

-- (i + a, j + b) of place (i, j) and a term (a, b).
unfoldable pub forward : Bicycle → ℕ → Term → ℕ
forward g p t = moved g p t.a t.b

-- (i − a, j − b): differences too are modulo l and m.
unfoldable pub backward : Bicycle → ℕ → Term → ℕ
backward g p t = moved g p (g.l - t.a) (g.m - t.b)

-- The right block is l × m higher.
abbrev pub on_right : Bicycle → ℕ → ℕ
on_right g q = places g + q

----------------------------------------------------------------------
-- The rows

abbrev pub list_of : Terms → List Term
list_of t = t.p ∷ t.q ∷ t.r ∷ []

-- X row (i, j) holds (i + a, j + b) on the left for each term of the first list and on the right for each term of the second.
abbrev pub x_holds : Bicycle → ℕ → List ℕ
x_holds g p = map (forward g p) (list_of g.first) ++ map (λ t. on_right g (forward g p t)) (list_of g.second)

-- Z row (i, j) holds (i − a, j − b) on the left for the second list and on the right for the first.
abbrev pub z_holds : Bicycle → ℕ → List ℕ
z_holds g p = map (backward g p) (list_of g.second) ++ map (λ t. on_right g (backward g p t)) (list_of g.first)

abbrev pub insert : ℕ → List ℕ → List ℕ
insert q [] = q ∷ []
insert q (p ∷ ps) = cond (leb q p) (q ∷ p ∷ ps) (p ∷ insert q ps)

abbrev pub sorted : List ℕ → List ℕ
sorted [] = []
sorted (q ∷ qs) = insert q (sorted qs)

-- A row's six qubits ascend.
unfoldable pub x_row : Bicycle → ℕ → Row
x_row g p = sorted (x_holds g p)

unfoldable pub z_row : Bicycle → ℕ → Row
z_row g p = sorted (z_holds g p)

-- Of so many places from place i on.
abbrev pub each : (ℕ → Row) → ℕ → ℕ → List Row
each row i zero = []
each row i (suc n) = row i ∷ each row (suc i) n

-- X rows and Z rows, each kind by the number of its place.
abbrev pub code_of : Bicycle → Code
code_of g = record { n = 2 * places g; xs = each (x_row g) 0 (places g); zs = each (z_row g) 0 (places g) }

abbrev pub joined : List Row → List ℕ
joined [] = []
joined (r ∷ rs) = r ++ joined rs

-- X rows come first, then Z rows.
unfoldable pub flat_rows : Bicycle → List ℕ
flat_rows g = joined ((code_of g).xs ++ (code_of g).zs)

----------------------------------------------------------------------
-- Refusals

abbrev pub bicycle_number : BicycleRefusal → ℕ
bicycle_number Grid = 13
bicycle_number BicycleRefusal.Term = 14
bicycle_number Short = 12

-- l or m is 0, or 2 × l × m exceeds 1,024.
abbrev pub grid? : Bicycle → Bool
grid? g = eqb g.l 0 || eqb g.m 0 || ltb 1024 (2 * places g)

-- a is not below l, or b is not below m.
abbrev pub outside? : Bicycle → Term → Bool
outside? g t = leb g.l t.a || leb g.m t.b

abbrev pub same? : Term → Term → Bool
same? t u = eqb t.a u.a && eqb t.b u.b

-- Of one list: a term is outside, or two terms are equal.
abbrev pub bad? : Bicycle → Terms → Bool
bad? g t = outside? g t.p || outside? g t.q || outside? g t.r || same? t.p t.q || same? t.p t.r || same? t.q t.r

abbrev pub term? : Bicycle → Bool
term? g = bad? g g.first || bad? g g.second

-- The output list holds fewer than 12 × l × m numbers.
abbrev pub short? : Bicycle → ℕ → Bool
short? g long = ltb long (12 * places g)

abbrev pub BicycleAnswer : Type 0
BicycleAnswer = Result (Unit {0}) BicycleRefusal

-- 13, then 14, then 12.
unfoldable pub bicycle_answer : Bicycle → ℕ → BicycleAnswer
bicycle_answer g long =
    cond (grid? g) (Err Grid)
    (cond (term? g) (Err BicycleRefusal.Term)
    (cond (short? g long) (Err Short)
    (Ok tt)))

----------------------------------------------------------------------
-- The promise

-- No refusal writes a row; numbers past the rows stay.
abbrev pub RowsIn : BicycleAnswer → Bicycle → List ℕ → List ℕ → Type 0
RowsIn (Err n) g old new = new ≡ old
RowsIn (Ok _) g old new = Filled (λ k. get_or (flat_rows g) k 0) (12 * places g) old new

-- Of the list at entry and at exit.
pub record Writes (g : Bicycle) (old new : List ℕ) (r : BicycleAnswer) : Type 0 where
  pub answer : r ≡ bicycle_answer g (length old)
  pub rows : RowsIn (bicycle_answer g (length old)) g old new
