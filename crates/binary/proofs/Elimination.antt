-- Elimination: clearing a column keeps just the products that are 0 there, so the fixed qubits are found column by column: first the columns
-- that are not lost, in any order, then the lost ones ascending. A lost qubit is fixed just if some row has it when its turn comes.
-- The rows left are known by membership alone: neither their order nor the choice of the row that clears a column matters. Assumes nothing.
use mathlib.Core.Path.{◌≡◌, refl, sym, ap, ap₂, ◌∙◌}
use mathlib.Core.Bool.{Bool, true, false, ◌&&◌}
use mathlib.Core.Logic.{◌⊎◌, inl, inr, ⊎_elim}
use mathlib.Core.List.Memᴰ
use mathlib.Core.List.{List, [], ◌∷◌, Memᴰ}
use Prim.Native.Nat.{ℕ, suc, ◌<◌}
use Rattle.binary.specs.Bits.{◌⊕◌}
use Rattle.binary.specs.Meaning.{Qubits, Row, Below, has, product, IsProduct, fixed?}
use Rattle.binary.specs.Elimination.{Sums, empty, plus, Left}
use Rattle.binary.proofs.Bits.{⊕_false, ⊕_shuffle, ⊕_self, ⊕_comm, ⊕_assoc, ⊕_cancel, &&_⊕, &&_true, bit, never}
use Rattle.binary.proofs.Rows.{choice, empty_product, sum_product}
use Rattle.binary.proofs.Tests.{fixed_out, fixed_in_lem}

----------------------------------------------------------------------
-- Sums of members

pub sums_same : (M : Qubits → Type 0) (s t : Qubits) → ((q : ℕ) → s q ≡ t q) → Sums M t → Sums M s
sums_same M s t h (empty e) = empty (λ q. h q ∙ e q)
sums_same M s t h (plus a b m u e) = plus a b m u (λ q. h q ∙ e q)

pub sums_map : (M M' : Qubits → Type 0) → ((a : Qubits) → M a → M' a) → (s : Qubits) → Sums M s → Sums M' s
sums_map M M' f s (empty e) = empty e
sums_map M M' f s (plus a b m t e) = plus a b (f a m) (sums_map M M' f b t) e

pub sums_one : (M : Qubits → Type 0) (a : Qubits) → M a → Sums M a
sums_one M a m = plus a (λ q. false) m (empty (λ q. refl)) (λ q. sym (⊕_false (a q)))

-- A column in which no member has anything.
pub sums_none : (M : Qubits → Type 0) (q : ℕ) → ((a : Qubits) → M a → a q ≡ false) → (s : Qubits) → Sums M s → s q ≡ false
sums_none M q h s (empty e) = e q
sums_none M q h s (plus a b m t e) = e q ∙ ap₂ ◌⊕◌ (h a m) (sums_none M q h b t)

----------------------------------------------------------------------
-- Products are sums of rows

abbrev pub RowOf : List Row → Qubits → Type 0
RowOf rows a = (r : Row) × Memᴰ r rows × ((q : ℕ) → a q ≡ has r q)

row_product : (rows : List Row) (r : Row) → Memᴰ r rows → IsProduct rows (has r)
row_product [] r m = absurd (Memᴰ.not-nil m)
row_product (k ∷ rows) r m =
    ⊎_elim
    (λ e. let z = empty_product rows in
    (choice true z.0, λ q. ap (λ (x : Row). has x q) e ∙ sym (⊕_false (has k q)) ∙ ap (has k q ⊕◌) (z.1 q)))
    (λ i. let z = row_product rows r i in (choice false z.0, z.1)) (Memᴰ.cases_cons m)

pub sums_product : (rows : List Row) (s : Qubits) → Sums (RowOf rows) s → IsProduct rows s
sums_product rows s (empty e) = let z = empty_product rows in (z.0, λ q. e q ∙ z.1 q)
sums_product rows s (plus a b m t e) =
    let x = row_product rows m.0 m.1 in
    let y = sum_product rows x (sums_product rows b t) in
    (y.0, λ q. e q ∙ ap (◌⊕ b q) (m.2 q) ∙ y.1 q)

product_sums : (rows : List Row) (c : ℕ → Bool) → Sums (RowOf rows) (product rows c)
product_sums [] c = empty (λ q. refl)
product_sums (k ∷ rows) c =
    let rest =
    sums_map (RowOf rows) (RowOf (k ∷ rows)) (λ a m. (m.0, Memᴰ.tail m.1, m.2)) (product rows (λ i. c (suc i))) (product_sums rows (λ i. c (suc i))) in
    bit (c 0) (λ t. plus (has k) (product rows (λ i. c (suc i))) (k, Memᴰ.head refl, λ q. refl) rest (λ q. rw t))
    (λ t. sums_same (RowOf (k ∷ rows)) (product (k ∷ rows) c) (product rows (λ i. c (suc i))) (λ q. rw t) rest)

----------------------------------------------------------------------
-- A column cleared

-- Row u has q. It leaves, and every other row that has q gets u added.
pub record Cleared (q : ℕ) (u : Qubits) (old new : Qubits → Type 0) : Type 0 where
  pub pivot : old u
  pub has_it : u q ≡ true
  pub from : (b : Qubits) → new b → (a : Qubits) × old a × ((p : ℕ) → b p ≡ a p ⊕ (a q && u p))
  pub to : (a : Qubits) → old a → ((p : ℕ) → a p ≡ u p) ⊎ ((b : Qubits) × new b × ((p : ℕ) → b p ≡ a p ⊕ (a q && u p)))

module _ (q : ℕ) (u : Qubits) (old new : Qubits → Type 0) (cleared : Cleared q u old new) where
  pub cleared_sums : (s : Qubits) → Sums new s → Sums old s × (s q ≡ false)
  cleared_sums s (empty e) = (empty e, e q)
  cleared_sums s (plus b c m t e) =
      let z = cleared.from b m in
      let y = cleared_sums c t in (
        bit (z.0 q)
            (λ i. plus z.0 (λ p. u p ⊕ c p) z.1 (plus u c cleared.pivot y.0 (λ p. refl))
            (λ p. e p ∙ ap (◌⊕ c p) (z.2 p) ∙ rw i (⊕_assoc (z.0 p) (u p) (c p))))
            (λ i. plus z.0 c z.1 y.0 (λ p. e p ∙ ap (◌⊕ c p) (z.2 p) ∙ rw i (ap (◌⊕ c p) (⊕_false (z.0 p))))),
        e q ∙ ap₂ ◌⊕◌ (z.2 q ∙ ap (z.0 q ⊕◌) (&&_true (z.0 q) cleared.has_it) ∙ ⊕_self (z.0 q)) y.1,
      )

  -- Each sum of the old rows is one of the new rows, but for u where it has q.
  rest_sums : (s : Qubits) → Sums old s → (t : Qubits) × Sums new t × ((p : ℕ) → t p ≡ s p ⊕ (s q && u p))
  rest_sums s (empty e) = (s, empty e, λ p. rw (e q) (sym (⊕_false (s p))))
  rest_sums s (plus a b m t e) =
      let y = rest_sums b t in
      ⊎_elim
      (λ same. (y.0, y.1, λ p. y.2 p ∙ sym (rw (e p, e q, same p, same q, cleared.has_it) (drop (u p) (b p) (b q)))))
      (λ z. (λ p. z.0 p ⊕ y.0 p, plus z.0 y.0 z.1 y.1 (λ p. refl), λ p. rw (z.2 p, y.2 p, e p, e q) (join (a p) (b p) (a q) (b q) (u p))))
      (cleared.to a m)
    where
      drop : (x y z : Bool) → (x ⊕ y) ⊕ ((true ⊕ z) && x) ≡ y ⊕ (z && x)
      drop x y true = ⊕_false (x ⊕ y) ∙ ⊕_comm x y
      drop x y false = ⊕_comm (x ⊕ y) x ∙ ⊕_cancel x y ∙ sym (⊕_false y)

      join : (a b c d x : Bool) → (a ⊕ (c && x)) ⊕ (b ⊕ (d && x)) ≡ (a ⊕ b) ⊕ ((c ⊕ d) && x)
      join a b c d x = rw (&&_⊕ c d x) (⊕_shuffle a (c && x) b (d && x))

  pub sums_cleared : (s : Qubits) → Sums old s → s q ≡ false → Sums new s
  sums_cleared s t e = let z = rest_sums s t in sums_same new s z.0 (λ p. sym (z.2 p ∙ rw e (⊕_false (s p)))) z.1

----------------------------------------------------------------------
-- The rows left

pub left_start : (rows : List Row) → Left rows (λ q. ⊥) (RowOf rows)
left_start rows =
    record {
      products = sums_product rows;
      zeros = λ s t q h. absurd h;
      whole = λ s p h. sums_same (RowOf rows) s (product rows p.0) p.1 (product_sums rows p.0);
    }

abbrev pub And : (ℕ → Type 0) → ℕ → ℕ → Type 0
And taken q p = taken p ⊎ (p ≡ q)

-- One column more: a row clears it, or no row has it.
pub left_cleared : (rows : List Row) (taken : ℕ → Type 0) (old new : Qubits → Type 0) (q : ℕ) (u : Qubits)
    → Cleared q u old new → Left rows taken old → Left rows (And taken q) new
left_cleared rows taken old new q u c v =
    record {
      products = λ s t. v.products s (cleared_sums q u old new c s t).0;
      zeros = λ s t p h. let z = cleared_sums q u old new c s t in
          ⊎_elim (v.zeros s z.0 p) (λ e. ap s e ∙ z.1) h;
      whole = λ s p h. sums_cleared q u old new c s (v.whole s p (λ r i. h r (inl i))) (h q (inr refl));
    }

pub left_blank : (rows : List Row) (taken : ℕ → Type 0) (M : Qubits → Type 0) (q : ℕ) → ((a : Qubits) → M a → a q ≡ false)
    → Left rows taken M → Left rows (And taken q) M
left_blank rows taken M q none v =
    record {
      products = v.products;
      zeros = λ s t p h. ⊎_elim (v.zeros s t p) (λ e. ap s e ∙ sums_none M q none s t) h;
      whole = λ s p h. v.whole s p (λ r i. h r (inl i));
    }

-- The same rows left, the same columns taken, said otherwise.
pub left_iff : (rows : List Row) (taken taken' : ℕ → Type 0) (M : Qubits → Type 0) → ((q : ℕ) → taken q → taken' q)
    → ((s : Qubits) → IsProduct rows s → ((q : ℕ) → taken q → s q ≡ false) → (q : ℕ) → taken' q → s q ≡ false)
    → Left rows taken M → Left rows taken' M
left_iff rows taken taken' M to from v =
    record {
      products = v.products;
      zeros = λ s t. from s (v.products s t) (v.zeros s t);
      whole = λ s p h. v.whole s p (λ q i. h q (to q i));
    }

pub left_same : (rows : List Row) (taken : ℕ → Type 0) (M M' : Qubits → Type 0) → ((a : Qubits) → M a → M' a) → ((a : Qubits) → M' a → M a)
    → Left rows taken M → Left rows taken M'
left_same rows taken M M' to from v =
    record {
      products = λ s t. v.products s (sums_map M' M from s t);
      zeros = λ s t. v.zeros s (sums_map M' M from s t);
      whole = λ s p h. sums_map M M' to s (v.whole s p h);
    }

----------------------------------------------------------------------
-- The fixed qubits

-- The columns taken before the lost qubit q: those not lost, then the lost ones below q.
abbrev pub Before : Qubits → ℕ → ℕ → Type 0
Before lost q p = (lost p ≡ false) ⊎ (p < q)

module _ (n : ℕ) (others : List Row) (lost : Qubits) (rows_below : Below n others) (q : ℕ) (M : Qubits → Type 0)
    (v : Left others (Before lost q) M) where
  -- Some row left has q: it is fixed.
  pub fixed_yes : (a : Qubits) → M a → a q ≡ true → fixed? n others lost q ≡ true
  fixed_yes a m t =
      let s = sums_one M a m in
      fixed_in_lem n others lost rows_below q
      (a, v.products a s, λ p e. bit (lost p) (λ i. i) (λ i. never e (v.zeros a s p (inl i))), (t, λ p l. v.zeros a s p (inr l)))

  -- No row left has q: it is not fixed.
  pub fixed_no : ((a : Qubits) → M a → a q ≡ false) → fixed? n others lost q ≡ false
  fixed_no none = bit (fixed? n others lost q) (λ t. let f = fixed_out n others lost rows_below q t in
      never f.3.0 (sums_none M q none f.0 (v.whole f.0 f.1 (λ p. ⊎_elim (λ e. out f.0 f.2 p e) (f.3.1 p))))) (λ t. t)
    where
      out : (s : Qubits) → ((p : ℕ) → s p ≡ true → lost p ≡ true) → (p : ℕ) → lost p ≡ false → s p ≡ false
      out s h p e = bit (s p) (λ t. never (h p t) e) (λ t. t)

-- A qubit that was not lost is not fixed.
pub fixed_lost : (n : ℕ) (others : List Row) (lost : Qubits) → Below n others → (q : ℕ) → lost q ≡ false → fixed? n others lost q ≡ false
fixed_lost n others lost rows_below q e =
    bit (fixed? n others lost q) (λ t. let f = fixed_out n others lost rows_below q t in never (f.2 q f.3.0) e) (λ t. t)
