-- Numbers written one after the other. Assumes nothing.
use mathlib.Core.Path.{◌≡◌, refl, sym, ap, ◌∙◌, subst}
use mathlib.Core.Logic.{◌⊎◌, inl, inr, ⊎_elim}
use mathlib.Core.List.{List, [], ◌∷◌}
use Prim.Native.Nat.{ℕ, zero, suc, ◌+◌, ◌*◌, ◌≤◌, ◌<◌}
use native.Mathlib.Nat.{add-zero, add-suc, suc-add}
use native.Mathlib.Numerals.{add-one, add-two, add-three, add-four, add_five}
use native.Mathlib.Omega.{arith}
use lib.ListN.{length, get_or, set, length-set}
use lib.Seq.{sets, length-sets, get_or-set_same, get_or-set_other}
use Rattle.binary.specs.Meaning.{Row}
use Rattle.binary.proofs.WordBits.{order}
use Rattle.bicycle_codes.specs.Writing.{six_of, RowsPut}

pub six_stores : (l : List ℕ) (k lift : ℕ) (xs ys : List ℕ) → length xs ≡ 3 → length ys ≡ 3
    → set (set (set (set (set (set l k (get_or xs 0 0)) (k + 1) (get_or xs 1 0)) (k + 2) (get_or xs 2 0)) (k + 3) (lift + get_or ys 0 0)) (k + 4) (lift + get_or ys 1 0)) (k + 5) (lift + get_or ys 2 0)
    ≡ sets l k (six_of lift xs ys)
six_stores l k lift (a ∷ b ∷ c ∷ []) (d ∷ e ∷ f ∷ []) h i = rw (add-one k, add-two k, add-three k, add-four k, add_five k)
six_stores l k lift _ _ h i = absurd (omega arith)

sets_outside : (l : List ℕ) (i : ℕ) (vs : List ℕ) (k : ℕ) → (k < i) ⊎ (i + length vs ≤ k) → get_or (sets l i vs) k 0 ≡ get_or l k 0
sets_outside l i [] k h = refl
sets_outside l i (v ∷ vs) k h =
    sets_outside (set l i v) (suc i) vs k (⊎_elim (λ w. inl (omega arith)) (λ w. inr (omega arith)) h)
    ∙ get_or-set_other l i k v 0 (λ e. ⊎_elim (λ w. omega arith) (λ w. omega arith) h)

sets_inside : (l : List ℕ) (i : ℕ) (vs : List ℕ) → i + length vs ≤ length l → (j : ℕ) → j < length vs → get_or (sets l i vs) (i + j) 0 ≡ get_or vs j 0
sets_inside l i [] room j h = absurd (omega arith)
sets_inside l i (v ∷ vs) room zero h =
    subst (λ (k : ℕ). get_or (sets (set l i v) (suc i) vs) k 0 ≡ v) (sym (add-zero i))
    (sets_outside (set l i v) (suc i) vs i (inl (omega arith)) ∙ get_or-set_same l i v 0 (omega arith))
sets_inside l i (v ∷ vs) room (suc j) h =
    subst (λ (k : ℕ). get_or (sets (set l i v) (suc i) vs) k 0 ≡ get_or vs j 0) (suc-add i j ∙ sym (add-suc i j))
    (sets_inside (set l i v) (suc i) vs (rw (length-set l i v) (omega arith)) j (omega arith))

----------------------------------------------------------------------
-- Rows

pub rows_none : (first : ℕ) (row : ℕ → Row) (l : List ℕ) → RowsPut first 0 row l l
rows_none first row l = record { long = refl; rows = λ p j h k. absurd (omega arith); rest = λ k h. refl }

-- One row more.
pub rows_more : (first i : ℕ) (row : ℕ → Row) (old mid new : List ℕ) → RowsPut first i row old mid → length (row i) ≡ 6 → 6 * (first + i) + 6 ≤ length old
    → new ≡ sets mid (6 * (first + i)) (row i) → RowsPut first (i + 1) row old new
rows_more first i row old mid new v six room e =
    record {
      long = ap length e ∙ length-sets mid (6 * (first + i)) (row i) ∙ v.long;
      rows = λ p j h k. ap (λ (l : List ℕ). get_or l (6 * (first + p) + j) 0) e ∙ ⊎_elim (λ (w : p < i). earlier p j w k) (λ (w : i ≤ p). here p j (omega arith) k) (order p i);
      rest = λ k h. ap (λ (l : List ℕ). get_or l k 0) e
          ∙ sets_outside mid (6 * (first + i)) (row i) k (⊎_elim (λ w. inl (omega arith)) (λ w. inr (omega arith)) h)
          ∙ v.rest k (⊎_elim (λ w. inl w) (λ w. inr (omega arith)) h);
    }
  where
    earlier : (p j : ℕ) → p < i → j < 6 → get_or (sets mid (6 * (first + i)) (row i)) (6 * (first + p) + j) 0 ≡ get_or (row p) j 0
    earlier p j w k = sets_outside mid (6 * (first + i)) (row i) (6 * (first + p) + j) (inl (omega arith)) ∙ v.rows p j w k

    here : (p j : ℕ) → p ≡ i → j < 6 → get_or (sets mid (6 * (first + i)) (row i)) (6 * (first + p) + j) 0 ≡ get_or (row p) j 0
    here p j w k = rw w (sets_inside mid (6 * (first + i)) (row i) (rw (six, v.long) room) j (rw six k))
