-- Sets that a list marks by an element. Assumes nothing.
--   MarkedBy  the set is what the list marks, or empty where the list is an earlier shot's
use mathlib.Core.Path.{◌≡◌, refl, ap, fun_ext}
use mathlib.Core.Bool.{Bool, true, false, ◌&&◌}
use mathlib.Core.Logic.{⊎_elim}
use mathlib.Core.List.{List}
use Prim.Native.Nat.{ℕ, ◌+◌, ◌≤◌, ◌<◌}
use native.Mathlib.Omega.{arith}
use native.Mathlib.Decide.{ℕ_discrete}
use lib.Dec.{eqb, ltb}
use lib.ListN.{length, get_or, set}
use lib.Seq.{get_or-set_same, get_or-set_other}
use borrow.Author.Tests.{lt-ltb, le-ltb, eq-eqb, ne_eqb}
use Rattle.binary.proofs.WordBits.{order}
use Rattle.machine.specs.Machine.{put}
use Rattle.records.specs.Lists.{marks}

abbrev pub MarkedBy : Bool → ℕ → ℕ → ℕ → List ℕ → (ℕ → Bool) → Type 0
MarkedBy true e count first l f = f ≡ (λ i. false)
MarkedBy false e count first l f = f ≡ marks e count first l

module _ (e count first : ℕ) where
  -- Two lists mark the same that have element e at the same places.
  marks_same : (l l' : List ℕ) → ((i : ℕ) → i < count → eqb (get_or l (first + i) 0) e ≡ eqb (get_or l' (first + i) 0) e) → marks e count first l ≡ marks e count first l'
  marks_same l l' h =
      fun_ext (λ i. ⊎_elim (λ (j : i < count). ap (λ (b : Bool). ltb i count && b) (h i j)) (λ j. rw (le-ltb i count j)) (order i count))

  pub marks_at : (l : List ℕ) (i : ℕ) → i < count → marks e count first l i ≡ eqb (get_or l (first + i) 0) e
  marks_at l i h = rw (lt-ltb i count h)

  -- A list that is 0 there marks nothing.
  pub marks_zero : 1 ≤ e → (l : List ℕ) → ((i : ℕ) → i < count → get_or l (first + i) 0 ≡ 0) → (λ i. false) ≡ marks e count first l
  marks_zero some-e l z =
      fun_ext (λ i. ⊎_elim (λ (j : i < count). rw (z i j, ne_eqb 0 e (λ t. omega arith)) (nothing (ltb i count))) (λ j. rw (le-ltb i count j)) (order i count))
    where
      nothing : (b : Bool) → false ≡ (b && false)
      nothing true = refl
      nothing false = refl

  -- One number more.
  pub marks_put : (l : List ℕ) (k : ℕ) → k < count → first + k < length l → put k true (marks e count first l) ≡ marks e count first (set l (first + k) e)
  marks_put l k h j = fun_ext (λ i. at i (ℕ_discrete k i))
    where
      at : (i : ℕ) → Dec (k ≡ i) → put k true (marks e count first l) i ≡ marks e count first (set l (first + k) e) i
      at i (yes t) = rw (← t, eq-eqb k k refl, lt-ltb k count h, get_or-set_same l (first + k) e 0 j, eq-eqb e e refl)
      at i (no t) = rw (ne_eqb k i t, get_or-set_other l (first + k) (first + i) e 0 (λ u. t (omega arith)))

  -- An element that the set does not read, or that is another's before and after.
  pub marks_past : (l : List ℕ) (k v : ℕ) → k < length l → ((i : ℕ) → i < count → first + i ≡ k → (get_or l k 0 ≡ e → ⊥) × (v ≡ e → ⊥))
      → marks e count first l ≡ marks e count first (set l k v)
  marks_past l k v m h = marks_same l (set l k v) (λ i j. at i j (ℕ_discrete (first + i) k))
    where
      at : (i : ℕ) → i < count → Dec (first + i ≡ k) → eqb (get_or l (first + i) 0) e ≡ eqb (get_or (set l k v) (first + i) 0) e
      at i j (yes t) = rw (t, get_or-set_same l k v 0 m, ne_eqb (get_or l k 0) e (h i j t).0, ne_eqb v e (h i j t).1)
      at i j (no t) = rw (get_or-set_other l k (first + i) v 0 t)
