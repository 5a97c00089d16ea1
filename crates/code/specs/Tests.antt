-- The test of a row (document 01, "Records": refusal 5, row).
--   ascending?  strictly ascending and below n; `Ascending` is a row that passes
--   Distinct    no qubit stands twice in a row: so it is in one that passes
use Rattle.std.specs.Prelude.{◌≡◌, Bool, true, false, ◌&&◌, [], ◌∷◌, ℕ, suc, leb, ltb}
use Rattle.binary.specs.Meaning.{Row, has}

-- Each qubit is below n, the first is `least` or above, and each later one is above the one before it.
unfoldable pub ascending_from : ℕ → ℕ → Row → Bool
ascending_from least n [] = true
ascending_from least n (q ∷ row) = leb least q && ltb q n && ascending_from (suc q) n row

unfoldable pub ascending? : ℕ → Row → Bool
ascending? n row = ascending_from 0 n row

abbrev pub Ascending : ℕ → Row → Type 0
Ascending n row = ascending? n row ≡ true

abbrev pub Distinct : Row → Type 0
Distinct [] = Unit {0}
Distinct (q ∷ row) = (has row q ≡ false) × Distinct row
