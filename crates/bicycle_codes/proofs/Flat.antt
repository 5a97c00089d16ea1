-- The rows end to end, and the rows as the code writes them. Assumes nothing.
use mathlib.Core.Path.{◌≡◌, sym, ap, ◌∙◌, subst}
use mathlib.Core.Logic.{inl, inr, ⊎_elim}
use mathlib.Core.List.{List, [], ◌∷◌, ◌++◌, map}
use Prim.Native.Nat.{ℕ, zero, suc, ◌+◌, ◌*◌, ◌-◌, ◌/◌, ◌%◌, ◌≤◌, ◌<◌}
use native.Mathlib.Nat.{add-zero, zero-add}
use native.Mathlib.Omega.{arith}
use lib.ListN.{length, get_or, length-append, get_or-append}
use lib.Seq.{get_or-append-add}
use Rattle.binary.specs.Meaning.{Row, All}
use Rattle.binary.proofs.WordBits.{order}
use Rattle.lists.specs.Filled.{Filled}
use Rattle.bicycle_codes.specs.declared.Term.{Term}
use Rattle.bicycle_codes.specs.declared.Terms.{Terms}
use Rattle.bicycle_codes.specs.declared.Bicycle.{Bicycle}
use Rattle.bicycle_codes.specs.Bicycle.{places, forward, backward, list_of, sorted, x_row, z_row, each, joined, code_of, flat_rows}
use Rattle.bicycle_codes.specs.Writing.{row_by, back, RowsPut}
use Rattle.bicycle_codes.proofs.Grid.{Grid, forward_below, backward_below}
use Rattle.bicycle_codes.proofs.Sorting.{sorted_join, sorted_raised}
use Rattle.bicycle_codes.proofs.Rows.{three_below}
use Rattle.bicycle_codes.proofs.Law.{length_each, all_six}

-- Number j of row r, where each row has six.
joined_at : (rs : List Row) → All (λ r. length r ≡ 6) rs → (r j : ℕ) → r < length rs → j < 6 → get_or (joined rs) (6 * r + j) 0 ≡ get_or (get_or rs r []) j 0
joined_at [] a r j h k = absurd (omega arith)
joined_at (s ∷ rs) a zero j h k = ap (λ (x : ℕ). get_or (s ++ joined rs) x 0) (omega arith) ∙ get_or-append s (joined rs) 0 j (rw a.0 k)
joined_at (s ∷ rs) a (suc r) j h k =
    subst (λ (x : ℕ). get_or (s ++ joined rs) x 0 ≡ get_or (get_or rs r []) j 0) (let six = a.0 in omega arith)
    (get_or-append-add s (joined rs) (6 * r + j) 0 ∙ joined_at rs a.1 r j (omega arith) k)

each_at : (row : ℕ → Row) (i n r : ℕ) → r < n → get_or (each row i n) r [] ≡ row (i + r)
each_at row i zero r h = absurd (omega arith)
each_at row i (suc n) zero h = ap row (sym (add-zero i))
each_at row i (suc n) (suc r) h = each_at row (suc i) n r (omega arith) ∙ ap row (omega arith)

----------------------------------------------------------------------
-- The numbers of a row

module _ (g : Bicycle) where
  flat_x : (p j : ℕ) → p < places g → j < 6 → get_or (flat_rows g) (6 * (0 + p) + j) 0 ≡ get_or (x_row g p) j 0
  unfolding flat_rows
  flat_x p j h k =
      ap (λ (x : ℕ). get_or (joined ((code_of g).xs ++ (code_of g).zs)) (6 * x + j) 0) (zero-add p)
      ∙ joined_at ((code_of g).xs ++ (code_of g).zs) (all_six g) p j (omega (arith, length-append (code_of g).xs (code_of g).zs, length_each (x_row g) 0 (places g))) k
      ∙ ap (λ (r : Row). get_or r j 0) (get_or-append (code_of g).xs (code_of g).zs [] p (omega (arith, length_each (x_row g) 0 (places g))) ∙ each_at (x_row g) 0 (places g) p h ∙ ap (x_row g) (zero-add p))

  flat_z : (p j : ℕ) → p < places g → j < 6 → get_or (flat_rows g) (6 * (places g + p) + j) 0 ≡ get_or (z_row g p) j 0
  unfolding flat_rows
  flat_z p j h k =
      joined_at ((code_of g).xs ++ (code_of g).zs) (all_six g) (places g + p) j
      (omega (arith, length-append (code_of g).xs (code_of g).zs, length_each (x_row g) 0 (places g), length_each (z_row g) 0 (places g))) k
      ∙ ap (λ (r : Row). get_or r j 0)
      (ap (λ (x : ℕ). get_or ((code_of g).xs ++ (code_of g).zs) (x + p) []) (sym (length_each (x_row g) 0 (places g)))
      ∙ get_or-append-add (code_of g).xs (code_of g).zs p [] ∙ each_at (z_row g) 0 (places g) p h ∙ ap (z_row g) (zero-add p))

----------------------------------------------------------------------
-- As the code makes them

-- The left three and the right three sorted, the left below the right.
split : (n : ℕ) (f : Term → ℕ) → ((t : Term) → f t < n) → (a b : Terms)
    → sorted (map f (list_of a) ++ map (λ t. n + f t) (list_of b)) ≡ sorted (map f (list_of a)) ++ map (λ q. n + q) (sorted (map f (list_of b)))
split n f within a b =
    sorted_join n (map f (list_of a)) (map (λ t. n + f t) (list_of b)) (three_below (λ q. q < n) f a within) (three_below (λ q. n ≤ q) (λ t. n + f t) b (λ t. omega arith))
    ∙ ap (λ (r : List ℕ). sorted (map f (list_of a)) ++ r) (sorted_raised n (map f (list_of b)))

module _ (g : Bicycle) (v : Grid g) where
  x_by : (p : ℕ) → x_row g p ≡ row_by g.l g.m g.first g.second p
  unfolding x_row forward
  x_by p = split (places g) (forward g p) (forward_below g v p) g.first g.second

  z_by : (p : ℕ) → z_row g p ≡ row_by g.l g.m (back g.l g.m g.second) (back g.l g.m g.first) p
  unfolding z_row backward
  z_by p = split (places g) (backward g p) (backward_below g v p) g.second g.first

  -- X rows written, and then Z rows.
  pub filled : (old mid new : List ℕ) → RowsPut 0 (places g) (row_by g.l g.m g.first g.second) old mid
      → RowsPut (places g) (places g) (row_by g.l g.m (back g.l g.m g.second) (back g.l g.m g.first)) mid new
      → Filled (λ k. get_or (flat_rows g) k 0) (12 * places g) old new
  filled old mid new x z =
      record {
        long = z.long ∙ x.long;
        first = λ k h. ⊎_elim (λ (w : k < 6 * places g). z.rest k (inl w) ∙ on_x k w) (λ (w : 6 * places g ≤ k). on_z k w h) (order k (6 * places g));
        rest = λ k h. z.rest k (inr (omega arith)) ∙ x.rest k (inr (omega arith));
      }
    where
      on_x : (k : ℕ) → k < 6 * places g → get_or mid k 0 ≡ get_or (flat_rows g) k 0
      on_x k w =
          subst (λ (i : ℕ). get_or mid i 0 ≡ get_or (flat_rows g) i 0) (omega arith)
          (x.rows (k / 6) (k % 6) (omega arith) (omega arith) ∙ ap (λ (r : Row). get_or r (k % 6) 0) (sym (x_by (k / 6))) ∙ sym (flat_x g (k / 6) (k % 6) (omega arith) (omega arith)))

      on_z : (k : ℕ) → 6 * places g ≤ k → k < 12 * places g → get_or new k 0 ≡ get_or (flat_rows g) k 0
      on_z k low high =
          subst (λ (i : ℕ). get_or new i 0 ≡ get_or (flat_rows g) i 0) (omega arith)
          (z.rows (k / 6 - places g) (k % 6) (omega arith) (omega arith) ∙ ap (λ (r : Row). get_or r (k % 6) 0) (sym (z_by (k / 6 - places g)))
          ∙ sym (flat_z g (k / 6 - places g) (k % 6) (omega arith) (omega arith)))
