-- The rows of sizes and terms that are accepted: each strictly ascending and below 2 × l × m, and every X row shares an even number of qubits with every Z row.
-- Assumes nothing.
use mathlib.Core.Path.{◌≡◌, refl, sym, ap, ap₂, ◌∙◌}
use mathlib.Core.Bool.{Bool, true, false, ◌||◌}
use mathlib.Core.List.{List, [], ◌∷◌, ◌++◌, map}
use Prim.Native.Nat.{ℕ, zero, suc, ◌+◌, ◌*◌, ◌≤◌, ◌<◌}
use native.Mathlib.Omega.{arith}
use lib.Dec.{eqb, leb, ltb}
use borrow.Author.Tests.{leb-false, ltb-false, eqb-false, eqb-true, eq-eqb, ne_eqb}
use Rattle.binary.specs.Bits.{◌⊕◌}
use Rattle.binary.specs.Meaning.{Qubits, Row, All, has, odd, Even, commute?}
use Rattle.binary.proofs.Bits.{bit, never, or_false, iff_eq, xors, ⊕_assoc}
use Rattle.binary.proofs.Tests.{commute_test}
use Rattle.code.specs.Tests.{Ascending, Distinct}
use Rattle.bicycle_codes.specs.declared.Term.{Term}
use Rattle.bicycle_codes.specs.declared.Terms.{Terms}
use Rattle.bicycle_codes.specs.declared.Bicycle.{Bicycle}
use Rattle.bicycle_codes.specs.Bicycle.{places, forward, backward, on_right, list_of, x_holds, z_holds, x_row, z_row, each, code_of, grid?, outside?, same?, bad?, term?}
use Rattle.bicycle_codes.proofs.Grid.{Grid, InGrid, forward_below, backward_below, forward_once, backward_once, meets}
use Rattle.bicycle_codes.proofs.Sorting.{has_sorted, odd_sorted, sorted_ascending}

----------------------------------------------------------------------
-- What is accepted

-- Three terms in the grid, no two of them equal.
pub record Good (g : Bicycle) (t : Terms) : Type 0 where
  pub p : InGrid g t.p
  pub q : InGrid g t.q
  pub r : InGrid g t.r
  pub pq : same? t.p t.q ≡ false
  pub pr : same? t.p t.r ≡ false
  pub qr : same? t.q t.r ≡ false

pub record Accepted (g : Bicycle) : Type 0 where
  pub grid : Grid g
  pub small : 2 * places g ≤ 1024
  pub first : Good g g.first
  pub second : Good g g.second

in_grid : (g : Bicycle) (t : Term) → outside? g t ≡ false → InGrid g t
in_grid g t e = let z = or_false (leb g.l t.a) (leb g.m t.b) e in record { a = leb-false g.l t.a z.0; b = leb-false g.m t.b z.1 }

good : (g : Bicycle) (t : Terms) → bad? g t ≡ false → Good g t
good g t e =
    let z₁ = or_false _ (same? t.q t.r) e in
    let z₂ = or_false _ (same? t.p t.r) z₁.0 in
    let z₃ = or_false _ (same? t.p t.q) z₂.0 in
    let z₄ = or_false _ (outside? g t.r) z₃.0 in
    let z₅ = or_false (outside? g t.p) (outside? g t.q) z₄.0 in
    record { p = in_grid g t.p z₅.0; q = in_grid g t.q z₅.1; r = in_grid g t.r z₄.1; pq = z₃.1; pr = z₂.1; qr = z₁.1 }

pub accepted : (g : Bicycle) → grid? g ≡ false → term? g ≡ false → Accepted g
accepted g e f =
    let z = or_false (eqb g.l 0 || eqb g.m 0) (ltb 1024 (2 * places g)) e in
    let y = or_false (eqb g.l 0) (eqb g.m 0) z.0 in
    let t = or_false (bad? g g.first) (bad? g g.second) f in
    let no-l = eqb-false g.l 0 y.0 in
    let no-m = eqb-false g.m 0 y.1 in
    record { grid = record { l = omega arith; m = omega arith }; small = ltb-false 1024 (2 * places g) z.1; first = good g g.first t.0; second = good g g.second t.1 }

----------------------------------------------------------------------
-- Sets of numbers

-- Of a list in which no number stands twice.
has_odd : (qs : List ℕ) → Distinct qs → (x : ℕ) → has qs x ≡ odd (λ q. eqb q x) qs
has_odd [] d x = refl
has_odd (q ∷ qs) d x =
    bit (eqb q x) (λ e. rw (e, ← has_odd qs d.1 x, ← eqb-true q x e, d.0)) (λ e. rw (e, has_odd qs d.1 x))

-- Numbers below a bound, and others from it on.
has_high : (n x : ℕ) (hs : List ℕ) → x < n → All (λ b. n ≤ b) hs → has hs x ≡ false
has_high n x [] h a = refl
has_high n x (b ∷ hs) h a = rw (ne_eqb b x (λ e. omega (arith, a.0)), has_high n x hs h a.1)

has_join : (n x : ℕ) (ls hs : List ℕ) → x < n → All (λ b. n ≤ b) hs → has (ls ++ hs) x ≡ has ls x
has_join n x [] hs h b = has_high n x hs h b
has_join n x (a ∷ ls) hs h b = ap (λ (t : Bool). eqb a x || t) (has_join n x ls hs h b)

has_low : (n x : ℕ) (ls hs : List ℕ) → All (λ a. a < n) ls → has (ls ++ hs) (n + x) ≡ has hs (n + x)
has_low n x [] hs a = refl
has_low n x (a ∷ ls) hs k = rw (ne_eqb a (n + x) (λ e. omega (arith, k.0)), has_low n x ls hs k.1)

distinct_join : (n : ℕ) (ls hs : List ℕ) → All (λ a. a < n) ls → All (λ b. n ≤ b) hs → Distinct ls → Distinct hs → Distinct (ls ++ hs)
distinct_join n [] hs low high d e = e
distinct_join n (a ∷ ls) hs low high d e = (has_join n a ls hs low.0 high ∙ d.0, distinct_join n ls hs low.1 high d.1 e)

all_join : (P : ℕ → Type 0) (ls hs : List ℕ) → All P ls → All P hs → All P (ls ++ hs)
all_join P [] hs a b = b
all_join P (x ∷ ls) hs a b = (a.0, all_join P ls hs a.1 b)

odd_join : (e : Qubits) (ls hs : List ℕ) → odd e (ls ++ hs) ≡ odd e ls ⊕ odd e hs
odd_join e [] hs = refl
odd_join e (a ∷ ls) hs = ap (λ (b : Bool). e a ⊕ b) (odd_join e ls hs) ∙ sym (⊕_assoc (e a) (odd e ls) (odd e hs))

----------------------------------------------------------------------
-- Three terms

-- A place moved by three terms, forward or backward.
abbrev moved : (Term → ℕ) → Terms → List ℕ
moved f t = map f (list_of t)

pub three_below : (P : ℕ → Type 0) (f : Term → ℕ) (t : Terms) → ((u : Term) → P (f u)) → All P (moved f t)
three_below P f t h = (h t.p, (h t.q, (h t.r, tt)))

-- Where unequal terms move it to unequal places.
three_distinct : (g : Bicycle) (f : Term → ℕ) → ((t u : Term) → InGrid g t → InGrid g u → f t ≡ f u → same? t u ≡ true) → (t : Terms) → Good g t → Distinct (moved f t)
three_distinct g f once t v =
    let ne : (t u : Term) → InGrid g t → InGrid g u → same? t u ≡ false → eqb (f t) (f u) ≡ false = λ t u i j e. ne_eqb (f t) (f u) (λ k. never (once t u i j k) e) in
    let sw : (a b : ℕ) → eqb a b ≡ false → eqb b a ≡ false = λ a b e. ne_eqb b a (λ k. eqb-false a b e (sym k)) in
    (rw (sw _ _ (ne t.p t.q v.p v.q v.pq), sw _ _ (ne t.p t.r v.p v.r v.pr)), (rw (sw _ _ (ne t.q t.r v.q v.r v.qr)), (refl, tt)))

has_raised : (n x : ℕ) (qs : List ℕ) → has (map (λ q. n + q) qs) (n + x) ≡ has qs x
has_raised n x [] = refl
has_raised n x (q ∷ qs) =
    ap₂ ◌||◌ (iff_eq (eqb (n + q) (n + x)) (eqb q x) (λ e. let i = eqb-true (n + q) (n + x) e in eq-eqb q x (omega arith)) (λ e. let i = eqb-true q x e in eq-eqb (n + q) (n + x) (omega arith)))
    (has_raised n x qs)

raised : (n : ℕ) (qs : List ℕ) → Distinct qs → Distinct (map (λ q. n + q) qs)
raised n [] d = tt
raised n (q ∷ qs) d = (has_raised n q qs ∙ d.0, raised n qs d.1)

----------------------------------------------------------------------
-- A row

-- Three places on the left and three on the right, by a way to move a place that stays in the grid and moves it to unequal places by unequal terms.
module _ (g : Bicycle) (f : Term → ℕ) (within : (t : Term) → f t < places g) (once : (t u : Term) → InGrid g t → InGrid g u → f t ≡ f u → same? t u ≡ true)
    (left right : Terms) (left-good : Good g left) (right-good : Good g right) where
  abbrev six : List ℕ
  six = moved f left ++ moved (λ t. on_right g (f t)) right

  low : All (λ q. q < places g) (moved f left)
  low = three_below (λ q. q < places g) f left within

  high : All (λ q. places g ≤ q) (moved (λ t. on_right g (f t)) right)
  high = three_below (λ q. places g ≤ q) (λ t. on_right g (f t)) right (λ t. omega arith)

  six_distinct : Distinct six
  six_distinct =
      distinct_join (places g) (moved f left) (moved (λ t. on_right g (f t)) right) low high (three_distinct g f once left left-good)
      (raised (places g) (moved f right) (three_distinct g f once right right-good))

  six_below : All (λ q. q < 2 * places g) six
  six_below =
      all_join (λ q. q < 2 * places g) (moved f left) (moved (λ t. on_right g (f t)) right) (three_below (λ q. q < 2 * places g) f left (λ t. omega (arith, within t)))
      (three_below (λ q. q < 2 * places g) (λ t. on_right g (f t)) right (λ t. omega (arith, within t)))

module _ (g : Bicycle) (v : Accepted g) (p : ℕ) (here : p < places g) where
  x_distinct : Distinct (x_holds g p)
  x_distinct =
      six_distinct g (forward g p) (forward_below g v.grid p) (forward_once g v.grid p here) g.first g.second v.first v.second

  pub x_ascending : Ascending (2 * places g) (x_row g p)
  unfolding x_row
  x_ascending =
      sorted_ascending (2 * places g) (x_holds g p) x_distinct
      (six_below g (forward g p) (forward_below g v.grid p) (forward_once g v.grid p here) g.first g.second v.first v.second)

  pub z_ascending : Ascending (2 * places g) (z_row g p)
  unfolding z_row
  z_ascending =
      sorted_ascending (2 * places g) (z_holds g p)
      (six_distinct g (backward g p) (backward_below g v.grid p) (backward_once g v.grid p here) g.second g.first v.second v.first)
      (six_below g (backward g p) (backward_below g v.grid p) (backward_once g v.grid p here) g.second g.first v.second v.first)

----------------------------------------------------------------------
-- X rows and Z rows

-- Nine bits summed by columns and by rows.
twice : (a b c d e f g h i : Bool)
    → ((a ⊕ (b ⊕ (c ⊕ false))) ⊕ ((d ⊕ (e ⊕ (f ⊕ false))) ⊕ ((g ⊕ (h ⊕ (i ⊕ false))) ⊕ false)))
    ⊕ ((a ⊕ (d ⊕ (g ⊕ false))) ⊕ ((b ⊕ (e ⊕ (h ⊕ false))) ⊕ ((c ⊕ (f ⊕ (i ⊕ false))) ⊕ false)))
    ≡ false
twice a b c d e f g h i = simp xors

module _ (g : Bicycle) (v : Accepted g) (p q : ℕ) (here : p < places g) where
  -- What the X row has of the Z row's places.
  on_left : (t : Term) → has (x_row g p) (backward g q t) ≡ odd (λ y. eqb y (backward g q t)) (moved (forward g p) g.first)
  unfolding x_row
  on_left t =
      has_sorted (x_holds g p) (backward g q t)
      ∙ has_join (places g) (backward g q t) (moved (forward g p) g.first) (moved (λ t. on_right g (forward g p t)) g.second) (backward_below g v.grid q t)
      (three_below (λ q. places g ≤ q) (λ t. on_right g (forward g p t)) g.second (λ t. omega arith))
      ∙ has_odd (moved (forward g p) g.first) (three_distinct g (forward g p) (forward_once g v.grid p here) g.first v.first) (backward g q t)

  on_right_lem : (t : Term) → has (x_row g p) (on_right g (backward g q t)) ≡ odd (λ y. eqb y (backward g q t)) (moved (forward g p) g.second)
  unfolding x_row
  on_right_lem t =
      has_sorted (x_holds g p) (on_right g (backward g q t))
      ∙ has_low (places g) (backward g q t) (moved (forward g p) g.first) (moved (λ t. on_right g (forward g p t)) g.second)
      (three_below (λ q. q < places g) (forward g p) g.first (forward_below g v.grid p))
      ∙ has_raised (places g) (backward g q t) (moved (forward g p) g.second)
      ∙ has_odd (moved (forward g p) g.second) (three_distinct g (forward g p) (forward_once g v.grid p here) g.second v.second) (backward g q t)

  -- A place of the X row, moved by t, is one of the Z row, moved back by u.
  abbrev hit : Term → Term → Bool
  hit t u = eqb (forward g p t) (backward g q u)

  crossed : (t u : Term) → InGrid g t → InGrid g u → hit t u ≡ hit u t
  crossed t u = meets g v.grid p q t u

  -- They share as many on the left as on the right, by exchanging the two lists.
  pub even : Even (z_row g q) (x_row g p)
  unfolding z_row
  even =
      odd_sorted (has (x_row g p)) (z_holds g q)
      ∙ odd_join (has (x_row g p)) (moved (backward g q) g.second) (moved (λ t. on_right g (backward g q t)) g.first)
      ∙ rw (on_left g.second.p, on_left g.second.q, on_left g.second.r, on_right_lem g.first.p, on_right_lem g.first.q, on_right_lem g.first.r)
      (rw (
        crossed g.second.p g.first.p v.second.p v.first.p,
        crossed g.second.q g.first.p v.second.q v.first.p,
        crossed g.second.r g.first.p v.second.r v.first.p,
        crossed g.second.p g.first.q v.second.p v.first.q,
        crossed g.second.q g.first.q v.second.q v.first.q,
        crossed g.second.r g.first.q v.second.r v.first.q,
        crossed g.second.p g.first.r v.second.p v.first.r,
        crossed g.second.q g.first.r v.second.q v.first.r,
        crossed g.second.r g.first.r v.second.r v.first.r,
      )
      (twice (hit g.first.p g.second.p) (hit g.first.q g.second.p) (hit g.first.r g.second.p) (hit g.first.p g.second.q) (hit g.first.q g.second.q) (hit g.first.r g.second.q) (hit g.first.p g.second.r) (hit g.first.q g.second.r) (hit g.first.r g.second.r)))

----------------------------------------------------------------------
-- All rows

pub each_all : (P : Row → Type 0) (row : ℕ → Row) (i n : ℕ) → ((p : ℕ) → p < i + n → P (row p)) → All P (each row i n)
each_all P row i zero f = tt
each_all P row i (suc n) f = (f i (omega arith), each_all P row (suc i) n (λ p h. f p (omega arith)))

module _ (g : Bicycle) (v : Accepted g) where
  pub x_rows : All (Ascending (2 * places g)) (code_of g).xs
  x_rows = each_all (Ascending (2 * places g)) (x_row g) 0 (places g) (λ p h. x_ascending g v p (omega arith))

  pub z_rows : All (Ascending (2 * places g)) (code_of g).zs
  z_rows = each_all (Ascending (2 * places g)) (z_row g) 0 (places g) (λ p h. z_ascending g v p (omega arith))

  pub commuting : commute? (code_of g).zs (code_of g).xs ≡ true
  commuting =
      (commute_test (code_of g).zs (code_of g).xs).0
      (each_all (λ r. All (Even r) (code_of g).xs) (z_row g) 0 (places g) (λ q h. each_all (Even (z_row g q)) (x_row g) 0 (places g) (λ p k. even g v p q (omega arith))))
