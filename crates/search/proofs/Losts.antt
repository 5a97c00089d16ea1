-- The lost columns, ascending: the stand of the search follows the route, and those that a row clears are marked. Assumes nothing.
use mathlib.Core.Path.{◌≡◌, refl, ap, ap₂, ◌∙◌}
use mathlib.Core.Bool.{true, not, cond, ◌&&◌}
use mathlib.Core.Logic.{⊎_elim}
use mathlib.Core.List.{List}
use mathlib.Core.Option.{Option}
use Prim.Native.Nat.{ℕ, suc, ◌+◌, ◌*◌, ◌≤◌, ◌<◌}
use native.Mathlib.Nat.{le_refl}
use native.Mathlib.Numerals.{add-one}
use native.Mathlib.Omega.{arith}
use borrow.Author.Tests.{lt-ltb, eq-eqb, ne_eqb}
use lib.Dec.{eqb}
use lib.ListN.{length, length-set, get_or, set}
use lib.Seq.{get_or-set_same, get_or-set_other}
use Rattle.binary.specs.Meaning.{Qubits}
use Rattle.binary.specs.Words.{listed}
use Rattle.search.specs.Route.{some?, take_column, ascend, first}
use Rattle.search.specs.Search.{Takes, stand_of, LostTaken, Losts}
use Rattle.binary.proofs.WordBits.{order}
use Rattle.search.proofs.Stands.{same_trans, take_if_same, takes_stand, clearing_by}

----------------------------------------------------------------------
-- A lost column

module _ (n w rows : ℕ) (lost : List ℕ) (q top : ℕ) (m marks : List ℕ) (wide : n ≤ 64 * w) (small : q < n) (within : top ≤ rows) where
  listed_at : listed n lost q ≡ eqb (get_or lost q 0) 1
  unfolding listed
  listed_at = rw (lt-ltb q n small)

  pub not_lost : (get_or lost q 0 ≡ 1 → ⊥) → LostTaken n w rows lost q top m marks top m marks
  not_lost t =
      let e = listed_at ∙ ne_eqb (get_or lost q 0) 1 t in
      record {
        long = refl;
        size = refl;
        low = le_refl top;
        within = within;
        order = λ k h. refl;
        stands = rw e (refl, refl);
        marked = rw e;
        kept = λ p d. refl;
      }

  module _ (l : get_or lost q 0 ≡ 1) (m' : List ℕ) (r : ℕ) (x : Takes w top rows q m m' r) where
    is_lost : listed n lost q ≡ true
    is_lost = listed_at ∙ eq-eqb (get_or lost q 0) 1 l

    lost_taken : (marks' : List ℕ) → length marks' ≡ length marks → get_or marks' q 0 ≡ cond (not (eqb r top)) 1 (get_or marks q 0)
        → ((p : ℕ) → (p ≡ q → ⊥) → get_or marks' p 0 ≡ get_or marks p 0) → LostTaken n w rows lost q top m marks r m' marks'
    lost_taken marks' size here other =
        record {
          long = ⊎_elim (λ y. ap length y.1) (λ y. y.1.long) x;
          size = size;
          low = ⊎_elim (λ y. omega (arith, y.0)) (λ y. omega (arith, y.0)) x;
          within = ⊎_elim (λ y. omega (arith, y.0)) (λ y. omega (arith, y.0, y.1.column.start, y.1.column.within)) x;
          order = λ k h. ⊎_elim (λ y. ap (λ (z : List ℕ). get_or z (9216 + k) 0) y.1) (λ y. y.1.stays (9216 + k) (omega arith) (λ e. omega arith)) x;
          stands = rw is_lost (takes_stand n w rows top q m m' r wide small x);
          marked = rw (is_lost, clearing_by n w rows top q m m' r wide small x) here;
          kept = other;
        }

    pub lost_blank : r ≡ top → LostTaken n w rows lost q top m marks top m' marks
    lost_blank e = rw e at (lost_taken marks refl (rw (eq-eqb r top e)) (λ p d. refl))

    pub lost_marked : (r ≡ top → ⊥) → n ≤ length marks → LostTaken n w rows lost q top m marks r m' (set marks q 1)
    lost_marked d room =
        lost_taken (set marks q 1) (length-set marks q 1) (get_or-set_same marks q 1 0 (omega arith) ∙ rw (ne_eqb r top d))
        (λ p e. get_or-set_other marks q p 1 0 e)

----------------------------------------------------------------------
-- The lost columns, ascending

module _ (n w rows : ℕ) (lost : List ℕ) (top : ℕ) (m marks : List ℕ) where
  pub losts_none : top ≤ rows → Losts n w rows lost top m marks 0 top m marks
  losts_none h =
      record {
        long = refl;
        size = refl;
        low = le_refl top;
        within = h;
        order = λ k l. refl;
        stands = (refl, refl);
        marked = λ p l. absurd (omega arith);
        kept = λ p l. refl;
      }

  pub losts_more : (q r₁ : ℕ) (m₁ marks₁ : List ℕ) (r₂ : ℕ) (m₂ marks₂ : List ℕ) → Losts n w rows lost top m marks q r₁ m₁ marks₁
      → LostTaken n w rows lost q r₁ m₁ marks₁ r₂ m₂ marks₂ → Losts n w rows lost top m marks (q + 1) r₂ m₂ marks₂
  losts_more q r₁ m₁ marks₁ r₂ m₂ marks₂ s x =
      record {
        long = x.long ∙ s.long;
        size = x.size ∙ s.size;
        low = omega (arith, x.low, s.low);
        within = x.within;
        order = λ k h. x.order k (omega (arith, s.low)) ∙ s.order k h;
        stands = rw add-one (same_trans (stand_of n w rows r₂ m₂) (cond (listed n lost q) (take_column rows q (stand_of n w rows r₁ m₁)) (stand_of n w rows r₁ m₁)) (ascend rows (listed n lost) (suc q) (stand_of n w rows top m)) x.stands
            (take_if_same rows q (stand_of n w rows r₁ m₁) (ascend rows (listed n lost) q (stand_of n w rows top m)) (listed n lost q) s.stands));
        marked = λ p h. ⊎_elim
            (λ (g : p < q). x.kept p (λ e. omega arith) ∙ s.marked p g)
            (λ (g : q ≤ p). let e : p ≡ q = omega arith in
            rw e (x.marked ∙ ap₂ (λ (b : Option ℕ) (k : ℕ). cond (listed n lost q && some? b) 1 k) (ap (λ (y : ℕ → Qubits). first rows (λ i. y i q)) s.stands.1) (s.kept q (le_refl q))))
            (order p q);
        kept = λ p h. x.kept p (λ e. omega arith) ∙ s.kept p (omega arith);
      }
