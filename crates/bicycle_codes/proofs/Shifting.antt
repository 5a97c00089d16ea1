-- A place moved by three terms. Assumes nothing.
use mathlib.Core.Path.{◌≡◌, sym, ap, ap₂, ◌∙◌, subst}
use mathlib.Core.List.{List, [], ◌∷◌, ◌++◌, map}
use Prim.Native.Nat.{ℕ, ◌+◌, ◌*◌, ◌/◌, ◌%◌, ◌≤◌, ◌<◌}
use native.Mathlib.Omega.{arith}
use lib.ListN.{length, length-append, length-map}
use lib.Seq.{sets}
use Rattle.binary.specs.Meaning.{Row, All}
use Rattle.bicycle_codes.specs.declared.Terms.{Terms}
use Rattle.bicycle_codes.specs.Bicycle.{list_of, sorted}
use Rattle.bicycle_codes.specs.Writing.{shifted, Shifts, six_of, row_by, RowsPut}
use Rattle.bicycle_codes.proofs.Grid.{within}
use Rattle.bicycle_codes.proofs.Sorting.{length_sorted, all_sorted}
use Rattle.bicycle_codes.proofs.Stores.{rows_more}

pub shifts : (l m p : ℕ) (t : Terms) (x y z : ℕ) (r : List ℕ) → 0 < l → 0 < m
    → x ≡ (p / m + t.p.a) % l * m + (p % m + t.p.b) % m → y ≡ (p / m + t.q.a) % l * m + (p % m + t.q.b) % m → z ≡ (p / m + t.r.a) % l * m + (p % m + t.r.b) % m
    → r ≡ sorted (x ∷ y ∷ z ∷ []) → Shifts l m p t r
shifts l m p t x y z r h k e f g s =
    record {
      is = s ∙ rw (e, f, g);
      below = subst (All (λ q. q < l * m)) (sym s)
          (all_sorted (λ q. q < l * m) (x ∷ y ∷ z ∷ []) (rw e (within l m (p / m + t.p.a) (p % m + t.p.b) h k), (rw f (within l m (p / m + t.q.a) (p % m + t.q.b) h k), (rw g (within l m (p / m + t.r.a) (p % m + t.r.b) h k), tt))));
    }

pub row_by_lem : (l m p : ℕ) (left right : Terms) (a b : List ℕ) → Shifts l m p left a → Shifts l m p right b → six_of (l * m) a b ≡ row_by l m left right p
row_by_lem l m p left right a b u v = ap₂ (λ (x y : List ℕ). x ++ map (λ q. l * m + q) y) u.is v.is

pub row_six : (l m : ℕ) (left right : Terms) (p : ℕ) → length (row_by l m left right p) ≡ 6
row_six l m left right p =
    length-append (shifted l m p left) (map (λ q. l * m + q) (shifted l m p right))
    ∙ ap₂ ◌+◌ (length_sorted (map (λ u. (p / m + u.a) % l * m + (p % m + u.b) % m) (list_of left)))
    (length-map (shifted l m p right) (λ q. l * m + q) ∙ length_sorted (map (λ u. (p / m + u.a) % l * m + (p % m + u.b) % m) (list_of right)))

-- The row is written by its six numbers.
pub one_more_lem : (l m first p : ℕ) (left right : Terms) (old mid new : List ℕ) (a b : List ℕ) → RowsPut first p (row_by l m left right) old mid → p < l * m
    → 6 * (first + l * m) ≤ length old → Shifts l m p left a → Shifts l m p right b → new ≡ sets mid (6 * (first + p)) (six_of (l * m) a b)
    → RowsPut first (p + 1) (row_by l m left right) old new
one_more_lem l m first p left right old mid new a b v h room u w e =
    rows_more first p (row_by l m left right) old mid new v (row_six l m left right p) (omega arith) (e ∙ ap (sets mid (6 * (first + p))) (row_by_lem l m p left right a b u w))

pub all_rows : (first p count : ℕ) (row : ℕ → Row) (old new : List ℕ) → RowsPut first p row old new → p ≤ count → count ≤ p → RowsPut first count row old new
all_rows first p count row old new v h k = let e : p ≡ count = omega arith in subst (λ (n : ℕ). RowsPut first n row old new) e v

-- What writing a row asks.
pub room : (l m first p : ℕ) (left right : Terms) (old mid : List ℕ) (a : List ℕ) → l * m ≤ 512 → RowsPut first p (row_by l m left right) old mid → p < l * m
    → 6 * (first + l * m) ≤ length old → Shifts l m p right a → (6 * (first + p) + 6 ≤ length mid) × (l * m ≤ 512) × All (λ q. q < l * m) a
room l m first p left right old mid a few v h long u = (omega (arith, v.long), few, u.below)
