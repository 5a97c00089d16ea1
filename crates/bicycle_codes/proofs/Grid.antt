-- The grid: sums and differences modulo a size, and the number of a place. Assumes nothing.
use mathlib.Core.Path.{◌≡◌, sym, ap, ap₂, ◌∙◌}
use mathlib.Core.Bool.{true}
use Prim.Native.Nat.{ℕ, suc, ◌+◌, ◌*◌, ◌-◌, ◌/◌, ◌%◌, ◌<◌}
use native.Mathlib.Nat.{mod-lt, mod-eq_of_lt, mod-add-mod, add-mod_right, mul-add-div_right, mul-add-mod_self_right, div-eq_of_lt, add-zero, div-lt_iff_lt-mul, mul-le-mul_right, suc-mul}
use native.Mathlib.Omega.{arith}
use lib.Dec.{eqb}
use borrow.Author.Tests.{eqb-true, eq-eqb}
use Rattle.binary.proofs.Bits.{iff_eq}
use Rattle.bicycle_codes.specs.declared.Term.{Term}
use Rattle.bicycle_codes.specs.declared.Bicycle.{Bicycle}
use Rattle.bicycle_codes.specs.Bicycle.{place, places, forward, backward, same?}

----------------------------------------------------------------------
-- One coordinate

shift : (l x y c : ℕ) → x % l ≡ y % l → (x + c) % l ≡ (y + c) % l
shift l x y c e = sym (mod-add-mod x l c) ∙ ap (λ (z : ℕ). (z + c) % l) e ∙ mod-add-mod y l c

rest_of_lem : (l x y : ℕ) → x ≡ y → x % l ≡ y % l
rest_of_lem l x y e = ap (λ (z : ℕ). z % l) e

-- Unequal numbers below the size move a number to unequal ones.
sum_once : (l i a b : ℕ) → i < l → a < l → b < l → (i + a) % l ≡ (i + b) % l → a ≡ b
sum_once l i a b h j k e =
    let s : (a + l) % l ≡ (b + l) % l = rest_of_lem l (a + l) (i + a + (l - i)) (omega arith) ∙ shift l (i + a) (i + b) (l - i) e ∙ rest_of_lem l (i + b + (l - i)) (b + l) (omega arith) in
    sym (mod-eq_of_lt j) ∙ sym (add-mod_right a l) ∙ s ∙ add-mod_right b l ∙ mod-eq_of_lt k

-- And so do differences.
difference_once : (l i a b : ℕ) → i < l → a < l → b < l → (i + (l - a)) % l ≡ (i + (l - b)) % l → a ≡ b
difference_once l i a b h j k e =
    let s : (i + b + l) % l ≡ (i + a + l) % l
    = rest_of_lem l (i + b + l) (i + (l - a) + (a + b)) (omega arith) ∙ shift l (i + (l - a)) (i + (l - b)) (a + b) e ∙ rest_of_lem l (i + (l - b) + (a + b)) (i + a + l) (omega arith) in
    sym (sum_once l i b a h k j (sym (add-mod_right (i + b) l) ∙ s ∙ add-mod_right (i + a) l))

-- A sum by a that is a difference by b: the sum by b is the difference by a.
exchange : (l i k a b : ℕ) → a < l → b < l → (i + a) % l ≡ (k + (l - b)) % l → (i + b) % l ≡ (k + (l - a)) % l
exchange l i k a b h j e =
    let s : (i + b + l) % l ≡ (k + (l - a) + l) % l
    = rest_of_lem l (i + b + l) (i + a + (b + (l - a))) (omega arith) ∙ shift l (i + a) (k + (l - b)) (b + (l - a)) e ∙ rest_of_lem l (k + (l - b) + (b + (l - a))) (k + (l - a) + l) (omega arith) in
    sym (add-mod_right (i + b) l) ∙ s ∙ add-mod_right (k + (l - a)) l

----------------------------------------------------------------------
-- Places

-- Of a grid with rows and columns, and of its places and terms.
pub record Grid (g : Bicycle) : Type 0 where
  pub l : 0 < g.l
  pub m : 0 < g.m

pub record InGrid (g : Bicycle) (t : Term) : Type 0 where
  pub a : t.a < g.l
  pub b : t.b < g.m

module _ (g : Bicycle) (grid : Grid g) where
  place_row : (i j : ℕ) → j < g.m → place g i j / g.m ≡ i
  place_row i j h = mul-add-div_right grid.m i j ∙ ap (λ (x : ℕ). i + x) (div-eq_of_lt h) ∙ add-zero i

  place_column : (i j : ℕ) → j < g.m → place g i j % g.m ≡ j
  place_column i j h = mul-add-mod_self_right i g.m j ∙ mod-eq_of_lt h

  -- A number is that of one place.
  place_once : (i j i' j' : ℕ) → j < g.m → j' < g.m → place g i j ≡ place g i' j' → (i ≡ i') × (j ≡ j')
  place_once i j i' j' h h' e = (
    sym (place_row i j h) ∙ ap (λ (x : ℕ). x / g.m) e ∙ place_row i' j' h',
    sym (place_column i j h) ∙ ap (λ (x : ℕ). x % g.m) e ∙ place_column i' j' h',
  )

  place_below : (i j : ℕ) → i < g.l → j < g.m → place g i j < places g
  place_below i j h k = omega (arith, suc-mul i g.m, mul-le-mul_right {m = suc i} {n = g.l} g.m h)

  row_below : (p : ℕ) → p < places g → p / g.m < g.l
  row_below p h = (div-lt_iff_lt-mul grid.m).1 h

  pub forward_below : (p : ℕ) (t : Term) → forward g p t < places g
  unfolding forward
  forward_below p t = place_below ((p / g.m + t.a) % g.l) ((p % g.m + t.b) % g.m) (mod-lt _ grid.l) (mod-lt _ grid.m)

  pub backward_below : (p : ℕ) (t : Term) → backward g p t < places g
  unfolding backward
  backward_below p t = place_below ((p / g.m + (g.l - t.a)) % g.l) ((p % g.m + (g.m - t.b)) % g.m) (mod-lt _ grid.l) (mod-lt _ grid.m)

  module _ (p : ℕ) (here : p < places g) (t u : Term) (t-in : InGrid g t) (u-in : InGrid g u) where
    same : t.a ≡ u.a → t.b ≡ u.b → same? t u ≡ true
    same e f = rw (eq-eqb t.a u.a e, eq-eqb t.b u.b f)

    -- Unequal terms move a place to unequal ones.
    pub forward_once : forward g p t ≡ forward g p u → same? t u ≡ true
    unfolding forward
    forward_once e =
        let z = place_once _ _ _ _ (mod-lt _ grid.m) (mod-lt _ grid.m) e in
        same (sum_once g.l (p / g.m) t.a u.a (row_below p here) t-in.a u-in.a z.0)
        (sum_once g.m (p % g.m) t.b u.b (mod-lt _ grid.m) t-in.b u-in.b z.1)

    pub backward_once : backward g p t ≡ backward g p u → same? t u ≡ true
    unfolding backward
    backward_once e =
        let z = place_once _ _ _ _ (mod-lt _ grid.m) (mod-lt _ grid.m) e in
        same (difference_once g.l (p / g.m) t.a u.a (row_below p here) t-in.a u-in.a z.0)
        (difference_once g.m (p % g.m) t.b u.b (mod-lt _ grid.m) t-in.b u-in.b z.1)

  -- A place moved by t that is another moved back by u: the two terms can be exchanged.
  forward_exchange : (p q : ℕ) (t u : Term) → InGrid g t → InGrid g u → forward g p t ≡ backward g q u → forward g p u ≡ backward g q t
  unfolding forward backward
  forward_exchange p q t u t-in u-in e =
      let z = place_once _ _ _ _ (mod-lt _ grid.m) (mod-lt _ grid.m) e in
      ap₂ (place g) (exchange g.l (p / g.m) (q / g.m) t.a u.a t-in.a u-in.a z.0)
      (exchange g.m (p % g.m) (q % g.m) t.b u.b t-in.b u-in.b z.1)

  pub meets : (p q : ℕ) (t u : Term) → InGrid g t → InGrid g u → eqb (forward g p t) (backward g q u) ≡ eqb (forward g p u) (backward g q t)
  meets p q t u t-in u-in =
      iff_eq (eqb (forward g p t) (backward g q u)) (eqb (forward g p u) (backward g q t))
      (λ e. eq-eqb _ _ (forward_exchange p q t u t-in u-in (eqb-true _ _ e)))
      (λ e. eq-eqb _ _ (forward_exchange p q u t u-in t-in (eqb-true _ _ e)))

-- In plain numbers.
pub within : (l m i j : ℕ) → 0 < l → 0 < m → i % l * m + j % m < l * m
within l m i j h k =
    let low = mod-lt i h in
    omega (arith, mod-lt j k, suc-mul (i % l) m, mul-le-mul_right {m = suc (i % l)} {n = l} m low)
