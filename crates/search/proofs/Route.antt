-- The route leaves just the products that are 0 on the columns taken, so a lost column that a row clears is a fixed qubit. Assumes nothing.
use mathlib.Core.Path.{◌≡◌, refl, sym, ap, ◌∙◌}
use mathlib.Core.Bool.{Bool, true, false, not, cond, ◌&&◌}
use mathlib.Core.Logic.{◌⊎◌, inl, inr, ⊎_elim}
use mathlib.Core.List.Memᴰ
use mathlib.Core.List.{List, [], ◌∷◌, Memᴰ}
use mathlib.Core.Option.{Option, none, some}
use Prim.Native.Nat.{ℕ, zero, suc, ◌-◌, ◌≤◌, ◌<◌}
use native.Mathlib.Nat.{le_refl, not-suc-le-zero, le_of_suc-le-suc}
use native.Mathlib.Decide.{ℕ_discrete}
use native.Mathlib.Omega.{arith}
use borrow.Author.Tests.{eq-eqb, ne_eqb, lt-ltb, le-ltb}
use lib.Dec.{eqb, ltb}
use lib.ListN.{length, get_or}
use Rattle.binary.specs.Bits.{◌⊕◌, tally}
use Rattle.binary.specs.Meaning.{Qubits, Row, Below, has, IsProduct, fixed?}
use Rattle.binary.specs.Elimination.{Left}
use Rattle.search.specs.Route.{Stand, column_length, some?, former, without, take_by, clearing, take_column, shortest, step_by, step, steps, ascend, begin, known}
use Rattle.binary.proofs.Bits.{bit, never, and_out, not_out, &&_true, &&_false, tally_few, none_counted, below_out, counted_none, below_in, eqb_eq}
use Rattle.binary.proofs.Weights.{tally_up}
use Rattle.binary.proofs.Rows.{product_below}
use Rattle.binary.proofs.WordBits.{order}
use Rattle.binary.proofs.Elimination.{Cleared, RowOf, And, Before, left_start, left_cleared, left_blank, left_iff, left_same, fixed_yes, fixed_no, fixed_lost}
use Rattle.search.proofs.Choices.{First?, first_out, Among, shortest_out}
use Rattle.search.proofs.Stands.{take_untaken}

-- The rows left.
abbrev LeftIn : ℕ → Stand → Qubits → Type 0
LeftIn rows s a = (i : ℕ) × (length s.columns ≤ i) × (i < rows) × ((q : ℕ) → a q ≡ s.row i q)

-- Where a row has left, none stands.
abbrev Emptied : Stand → Type 0
Emptied s = (j : ℕ) → j < length s.columns → (q : ℕ) → s.row j q ≡ false

----------------------------------------------------------------------
-- A column cleared

module _ (rows q i : ℕ) (s : Stand) (low : length s.columns ≤ i) (within : i < rows) (found : s.row i q ≡ true) where
  new_row : (j k : ℕ) → former (length s.columns) i j ≡ k → length s.columns < j → (p : ℕ)
      → (take_by (some i) q s).row j p ≡ s.row k p ⊕ (s.row k q && s.row i p)
  new_row j k e l p = rw (lt-ltb (length s.columns) j l) (ap (λ (x : ℕ). s.row x p ⊕ (s.row x q && s.row i p)) e)

  former_in : (j : ℕ) → length s.columns < j → j < rows
      → (length s.columns ≤ former (length s.columns) i j) × (former (length s.columns) i j < rows)
  former_in j l b = bit (eqb j i) (λ e. rw e (le_refl (length s.columns), omega arith)) (λ e. rw e (omega arith, b))

  column_cleared : Cleared q (s.row i) (LeftIn rows s) (LeftIn rows (take_by (some i) q s))
  column_cleared =
      record {
        pivot = (i, low, within, λ p. refl);
        has_it = found;
        from = λ b x. let l : length s.columns < x.0 = omega (arith, x.1) in
            let z = former_in x.0 l x.2 in
            (s.row (former (length s.columns) i x.0), (former (length s.columns) i x.0, z.0, z.1, λ p. refl), λ p. x.3 p ∙ new_row x.0 _ refl l p);
        to = λ a x. to a x (ℕ_discrete x.0 i) (ℕ_discrete x.0 (length s.columns));
      }
    where
      new : (a : Qubits) (x : LeftIn rows s a) (j : ℕ) → former (length s.columns) i j ≡ x.0 → length s.columns < j → j < rows
          → (b : Qubits) × LeftIn rows (take_by (some i) q s) b × ((p : ℕ) → b p ≡ a p ⊕ (a q && s.row i p))
      new a x j e l b = (
        (take_by (some i) q s).row j,
        (j, omega arith, b, λ p. refl),
        λ p. rw (x.3 p, x.3 q) (new_row j x.0 e l p),
      )

      to : (a : Qubits) (x : LeftIn rows s a) → Dec (x.0 ≡ i) → Dec (x.0 ≡ length s.columns)
          → ((p : ℕ) → a p ≡ s.row i p) ⊎ ((b : Qubits) × LeftIn rows (take_by (some i) q s) b × ((p : ℕ) → b p ≡ a p ⊕ (a q && s.row i p)))
      to a x (yes e) d = inl (λ p. rw (← e) (x.3 p))
      to a x (no f) (yes e) = inr (new a x i (rw (eq-eqb i i refl) (sym e)) (omega (arith, low)) within)
      to a x (no f) (no g) = inr (new a x x.0 (rw (ne_eqb x.0 i f)) (omega (arith, x.1)) x.2)

emptied_taken : (rows q : ℕ) (s : Stand) → Emptied s → Emptied (take_column rows q s)
emptied_taken rows q s h = by (clearing rows q s)
  where
    by : (c : Option ℕ) → Emptied (take_by c q s)
    by none = h
    by (some i) = λ j l p. rw (le-ltb (length s.columns) j (omega arith))

-- One column more is taken, cleared or not.
module _ (rs : List Row) (rows q : ℕ) (s : Stand) (T T' : ℕ → Type 0) (to : (p : ℕ) → And T q p → T' p) (from : (p : ℕ) → T' p → And T q p)
    (empty : Emptied s) (v : Left rs T (LeftIn rows s)) where
  pub left_taken : Left rs T' (LeftIn rows (take_column rows q s))
  left_taken = by (clearing rows q s) (first_out rows (λ i. s.row i q))
    where
      columns : (M : Qubits → Type 0) → Left rs (And T q) M → Left rs T' M
      columns M x = left_iff rs (And T q) T' M to (λ a p h r t. h r (from r t)) x

      by : (c : Option ℕ) → First? rows (λ i. s.row i q) c → Left rs T' (LeftIn rows (take_by c q s))
      by none f = columns (LeftIn rows s) (left_blank rs T (LeftIn rows s) q (λ a x. x.3 q ∙ f x.0 x.2) v)
      by (some i) f =
          columns (LeftIn rows (take_by (some i) q s)) (left_cleared rs T (LeftIn rows s) (LeftIn rows (take_by (some i) q s)) q (s.row i)
          (column_cleared rows q i s (⊎_elim (λ (l : i < length s.columns). never f.1 (empty i l q)) (λ l. l) (order i (length s.columns))) f.0 f.1) v)

----------------------------------------------------------------------
-- Columns taken one by one

module _ (n : ℕ) (rs : List Row) (lost : Qubits) where
  -- Each step takes one, so that after n steps none is untaken.
  fewer_untaken : (k : ℕ) → tally n (steps n (length rs) k (begin n rs lost)).untaken ≤ n - k
  fewer_untaken zero = omega (arith, tally_few n (begin n rs lost).untaken)
  fewer_untaken (suc k) =
      by (fewer_untaken k) (shortest (column_length (length rs) s) n s.untaken) (shortest_out (column_length (length rs) s) s.untaken n)
    where
      s : Stand
      s = steps n (length rs) k (begin n rs lost)

      by : tally n s.untaken ≤ n - k → (r : Option ℕ) → Among (column_length (length rs) s) s.untaken n r
          → tally n (step_by (length rs) r s).untaken ≤ n - suc k
      by few none h = let z = counted_none n s.untaken (below_in n (λ p. not (s.untaken p)) (λ p l. ap not (h p l))) in omega (arith, z)
      by few (some q) h =
          let e = take_untaken (length rs) q s in
          let u = tally_up n q (without q s.untaken) s.untaken h.0 (ap (λ (b : Bool). s.untaken q && not b) (eq-eqb q q refl) ∙ &&_false (s.untaken q)) h.1
          (λ p d. sym (&&_true (s.untaken p) (ap not d))) in
          omega (arith, few, u, ap (tally n) e)

  pub none_untaken : (p : ℕ) → p < n → (known n rs lost).untaken p ≡ false
  none_untaken p h =
      not_out ((known n rs lost).untaken p) (below_out n (λ p. not ((known n rs lost).untaken p))
      (none_counted n (known n rs lost).untaken (omega (arith, fewer_untaken n))) p h)

----------------------------------------------------------------------
-- The rows at the start

pub row_at_lem : (rs : List Row) (i : ℕ) → i < length rs → Memᴰ (get_or rs i []) rs
row_at_lem [] i h = absurd (not-suc-le-zero h)
row_at_lem (r ∷ rs) zero h = Memᴰ.head refl
row_at_lem (r ∷ rs) (suc i) h = Memᴰ.tail (row_at_lem rs i (le_of_suc-le-suc h))

place_of_lem : (rs : List Row) (r : Row) → Memᴰ r rs → (i : ℕ) × (i < length rs) × (r ≡ get_or rs i [])
place_of_lem [] r m = absurd (Memᴰ.not-nil m)
place_of_lem (k ∷ rs) r m =
    ⊎_elim (λ e. (0, omega arith, e)) (λ t. let z = place_of_lem rs r t in (suc z.0, omega (arith, z.1), z.2)) (Memᴰ.cases_cons m)

module _ (n : ℕ) (rs : List Row) (rows_below : Below n rs) (lost : Qubits) where
  -- A product has no column from n on.
  past : (s : Qubits) → IsProduct rs s → (p : ℕ) → n ≤ p → s p ≡ false
  past s x p l = bit (s p) (λ t. let k = product_below n rs rows_below x.0 p (sym (x.1 p) ∙ t) in absurd (omega arith)) (λ t. t)

  -- The columns taken, of those that are not lost.
  abbrev Taken : Stand → ℕ → Type 0
  Taken s p = (lost p ≡ false) × (s.untaken p ≡ false)

  left_begin : Left rs (Taken (begin n rs lost)) (LeftIn (length rs) (begin n rs lost))
  left_begin =
      left_iff rs (λ q. ⊥) (Taken (begin n rs lost)) (LeftIn (length rs) (begin n rs lost)) (λ p. absurd)
      (λ s x h p t. past s x p (⊎_elim (λ (l : p < n). never refl (rw (lt-ltb p n l, t.0) at t.1)) (λ l. l) (order p n)))
      (left_same rs (λ q. ⊥) (RowOf rs) (LeftIn (length rs) (begin n rs lost))
      (λ a x. let z = place_of_lem rs x.0 x.1 in (z.0, omega arith, z.1, λ q. x.2 q ∙ ap (λ (r : Row). has r q) z.2))
      (λ a x. (get_or rs x.0 [], row_at_lem rs x.0 x.2, x.3)) (left_start rs))

  ----------------------------------------------------------------------
  -- The columns that are not lost

  record Standing (s : Stand) : Type 0 where
    left : Left rs (Taken s) (LeftIn (length rs) s)
    empty : Emptied s
    inside : (p : ℕ) → s.untaken p ≡ true → lost p ≡ false

  take_standing : (q : ℕ) (s : Stand) → s.untaken q ≡ true → Standing s → Standing (take_column (length rs) q s)
  take_standing q s u x =
      record {
        left = left_taken rs (length rs) q s (Taken s) (Taken (take_column (length rs) q s)) to from x.empty x.left;
        empty = emptied_taken (length rs) q s x.empty;
        inside = λ p t. x.inside p (and_out (s.untaken p) (not (eqb q p)) (sym (untaken_then p) ∙ t)).0;
      }
    where
      untaken_then : (p : ℕ) → (take_column (length rs) q s).untaken p ≡ without q s.untaken p
      untaken_then p = ap (λ (f : Qubits). f p) (take_untaken (length rs) q s)

      to : (p : ℕ) → And (Taken s) q p → Taken (take_column (length rs) q s) p
      to p (inl t) = (t.0, untaken_then p ∙ ap (◌&& not (eqb q p)) t.1)
      to p (inr e) = (
        ap lost e ∙ x.inside q u,
        untaken_then p ∙ ap (λ (b : Bool). s.untaken p && not b) (eq-eqb q p (sym e)) ∙ &&_false (s.untaken p),
      )

      from : (p : ℕ) → Taken (take_column (length rs) q s) p → And (Taken s) q p
      from p t = bit (eqb q p) (λ e. inr (sym (eqb_eq q p e)))
          (λ e. inl (t.0, sym (&&_true (s.untaken p) (ap not e)) ∙ sym (untaken_then p) ∙ t.1))

  step_standing : (s : Stand) → Standing s → Standing (step n (length rs) s)
  step_standing s x = by (shortest (column_length (length rs) s) n s.untaken) (shortest_out (column_length (length rs) s) s.untaken n)
    where
      by : (r : Option ℕ) → Among (column_length (length rs) s) s.untaken n r → Standing (step_by (length rs) r s)
      by none h = x
      by (some q) h = take_standing q s h.1 x

  steps_standing : (k : ℕ) → Standing (steps n (length rs) k (begin n rs lost))
  steps_standing zero = record { left = left_begin; empty = λ j l. absurd (not-suc-le-zero l); inside = λ p t. not_out (lost p) (and_out (ltb p n) (not (lost p)) t).1 }
  steps_standing (suc k) = step_standing (steps n (length rs) k (begin n rs lost)) (steps_standing k)

  ----------------------------------------------------------------------
  -- The lost columns

  record Ascending (q : ℕ) (s : Stand) : Type 0 where
    left : Left rs (Before lost q) (LeftIn (length rs) s)
    empty : Emptied s

  ascending : (q : ℕ) → Ascending q (ascend (length rs) lost q (known n rs lost))
  ascending zero =
      record {
        left = left_iff rs (Taken (known n rs lost)) (Before lost 0) (LeftIn (length rs) (known n rs lost)) (λ p t. inl t.0)
            (λ s x h p. ⊎_elim (λ e. ⊎_elim (λ (l : p < n). h p (e, none_untaken n rs lost p l)) (λ (l : n ≤ p). past s x p l) (order p n)) (λ l. absurd (not-suc-le-zero l)))
            (steps_standing n).left;
        empty = (steps_standing n).empty;
      }
  ascending (suc q) = by (ascending q) (lost q) refl
    where
      s : Stand
      s = ascend (length rs) lost q (known n rs lost)

      by : Ascending q s → (b : Bool) → lost q ≡ b → Ascending (suc q) (cond b (take_column (length rs) q s) s)
      by rest true e =
          record {
            left = left_taken rs (length rs) q s (Before lost q) (Before lost (suc q))
                (λ p. ⊎_elim (⊎_elim inl (λ l. inr (omega arith))) (λ d. inr (omega arith)))
                (λ p. ⊎_elim (λ t. inl (inl t)) (λ l. ⊎_elim (λ g. inl (inr g)) (λ (g : q ≤ p). inr (omega arith)) (order p q)))
                rest.empty rest.left;
            empty = emptied_taken (length rs) q s rest.empty;
          }
      by rest false e =
          record {
            left = left_iff rs (Before lost q) (Before lost (suc q)) (LeftIn (length rs) s) (λ p. ⊎_elim inl (λ l. inr (omega arith)))
                (λ a x h p. ⊎_elim (λ t. h p (inl t)) (λ l. ⊎_elim (λ g. h p (inr g)) (λ (g : q ≤ p). let d : p ≡ q = omega arith in h p (inl (ap lost d ∙ e))) (order p q)))
                rest.left;
            empty = rest.empty;
          }

  -- A qubit is fixed just if it is lost and a row clears its column.
  pub fixed_cleared : (q : ℕ) → fixed? n rs lost q ≡ (lost q && some? (clearing (length rs) q (ascend (length rs) lost q (known n rs lost))))
  fixed_cleared q = by (lost q) refl (clearing (length rs) q s) (first_out (length rs) (λ i. s.row i q))
    where
      s : Stand
      s = ascend (length rs) lost q (known n rs lost)

      x : Ascending q s
      x = ascending q

      by : (b : Bool) → lost q ≡ b → (c : Option ℕ) → First? (length rs) (λ i. s.row i q) c → fixed? n rs lost q ≡ (b && some? c)
      by false e c f = fixed_lost n rs lost rows_below q e
      by true e none f = fixed_no n rs lost rows_below q (LeftIn (length rs) s) x.left (λ a y. y.3 q ∙ f y.0 y.2)
      by true e (some i) f =
          fixed_yes n rs lost rows_below q (LeftIn (length rs) s) x.left (s.row i)
          (i, ⊎_elim (λ (l : i < length s.columns). never f.1 (x.empty i l q)) (λ l. l) (order i (length s.columns)), f.0, λ p. refl) f.1
