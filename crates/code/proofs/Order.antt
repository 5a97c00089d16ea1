-- What the test of ascending qubits tells of a row. Assumes nothing.
use mathlib.Core.Path.{◌≡◌, refl}
use mathlib.Core.Bool.{true, false, ◌&&◌}
use mathlib.Core.List.{List, [], ◌∷◌}
use Prim.Native.Nat.{ℕ, suc, ◌<◌, ◌≤◌}
use native.Mathlib.Omega.{arith}
use borrow.Author.Tests.{ltb-true, leb-true, ne_eqb}
use lib.Dec.{leb, ltb}
use Rattle.binary.specs.Meaning.{Row, All, Below, has}
use Rattle.binary.proofs.Bits.{and_out}
use Rattle.code.specs.Tests.{ascending_from, ascending?, Ascending, Distinct}

pub all_map {ℓ} : {A : Type ℓ} {P Q : A → Type 0} → ((x : A) → P x → Q x) → (xs : List A) → All P xs → All Q xs
all_map f [] a = tt
all_map f (x ∷ xs) a = (f x a.0, all_map f xs a.1)

-- Each qubit is at least `least` and below n.
range : (n least : ℕ) (row : Row) → ascending_from least n row ≡ true → All (λ q. (least ≤ q) × (q < n)) row
unfolding ascending_from
range n least [] t = tt
range n least (q ∷ row) t =
    let a = and_out (leb least q && ltb q n) _ t in
    let b = and_out (leb least q) (ltb q n) a.0 in
    let low = leb-true least q b.0 in
    ((low, ltb-true q n b.1), all_map (λ (p : ℕ) (h : (suc q ≤ p) × (p < n)). (omega (arith, h.0), h.1)) row (range n (suc q) row a.1))

-- A qubit below all others of a row is not among them.
has_below : (n q : ℕ) (row : Row) → All (λ p. (suc q ≤ p) × (p < n)) row → has row q ≡ false
has_below n q [] a = refl
has_below n q (p ∷ row) a = rw (ne_eqb p q (λ e. omega (arith, a.0.0)), has_below n q row a.1)

distinct : (n least : ℕ) (row : Row) → ascending_from least n row ≡ true → Distinct row
unfolding ascending_from
distinct n least [] t = tt
distinct n least (q ∷ row) t =
    let a = and_out (leb least q && ltb q n) _ t in (has_below n q row (range n (suc q) row a.1), distinct n (suc q) row a.1)

pub ascending_below : (n : ℕ) (row : Row) → Ascending n row → All (λ q. q < n) row
unfolding ascending?
ascending_below n row t = all_map (λ (q : ℕ) (h : (0 ≤ q) × (q < n)). h.1) row (range n 0 row t)

pub ascending_distinct : (n : ℕ) (row : Row) → Ascending n row → Distinct row
unfolding ascending?
ascending_distinct n row t = distinct n 0 row t

pub rows_below : (n : ℕ) (rows : List Row) → All (Ascending n) rows → Below n rows
rows_below n rows a = all_map (ascending_below n) rows a
