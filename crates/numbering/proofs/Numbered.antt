-- The numbers of the untaken columns stay how many rows have them. Assumes nothing.
use mathlib.Core.Path.{◌≡◌, refl, sym, ap, ◌∙◌}
use mathlib.Core.Bool.{Bool, true, false, not, cond, ◌&&◌}
use mathlib.Core.List.{List}
use Prim.Native.Nat.{ℕ, ◌+◌, ◌*◌, ◌/◌, ◌%◌, ◌≤◌, ◌<◌}
use native.Mathlib.Numerals.{add-one}
use native.Mathlib.Omega.{arith}
use borrow.Author.Tests.{eq-eqb, ne_eqb, le-leb}
use lib.Dec.{eqb, leb}
use lib.ListN.{get_or}
use Rattle.binary.specs.Bits.{◌⊕◌, tally}
use Rattle.binary.specs.Words.{bit}
use Rattle.binary.proofs.Bits.{&&_true, tally_same, tally_few}
use Rattle.packing.specs.Packed.{cell}
use Rattle.packing.proofs.Rows.{beside}
use Rattle.columns.specs.Planes.{Carried, number}
use Rattle.columns.specs.Columns.{untaken, rows_with, Numbered}
use Rattle.binary.proofs.Weights.{count_plus, tally_change}
use Rattle.columns.proofs.Numbers.{number_few}
use Rattle.numbering.specs.Numbering.{Stays, Joined, Added, Merged, NumberedBut, NumberedRow, NumberedRows}
use Rattle.numbering.proofs.Counting.{row_ends}

pub untaken_same : (m m' : List ℕ) → Stays m m' → (c : ℕ) → untaken m' c ≡ untaken m c
unfolding untaken
untaken_same m m' s c = ap (λ (x : ℕ). bit x (c % 64)) (s (8448 + c / 64) (omega arith))

pub cell_same : (w i c : ℕ) (m m' : List ℕ) → c < 64 * w → get_or m' (i * w + c / 64) 0 ≡ get_or m (i * w + c / 64) 0 → cell m' w i c ≡ cell m w i c
unfolding cell
cell_same w i c m m' h e = ap (λ (x : ℕ). bit x (c % 64)) e

----------------------------------------------------------------------
-- The rows counted one by one

module _ (w : ℕ) (wide : w ≤ 16) where
  pub rows_none : (m : List ℕ) → NumberedRows w 0 m m
  rows_none m = record { long = refl; kept = λ k h. refl; stays = λ k h. refl; numbered = λ z c h u. z c h }

  pub rows_more : (i : ℕ) (m₀ m m' : List ℕ) → i < 512 → NumberedRows w i m₀ m → NumberedRow w i m m' → NumberedRows w (i + 1) m₀ m'
  rows_more i m₀ m m' few s t =
      record {
        long = t.long ∙ s.long;
        kept = λ k h. t.kept k h ∙ s.kept k h;
        stays = λ k h. t.stays k h ∙ s.stays k h;
        numbered = λ z c h u. let u' = sym (untaken_same m m' t.stays c) ∙ u in
            let n = s.numbered z c h u' in
            let y = t.numbers c h in
            step c h y.0 n (rw (u', &&_true (cell m w i c) refl) at y.1);
      }
    where
      cells : (c : ℕ) → c < 64 * w → (j : ℕ) → j < 512 → cell m' w j c ≡ cell m w j c
      cells c h j l = cell_same w j c m m' h (t.kept (j * w + c / 64) (omega (arith, row_ends w j wide l)))

      grown : (c : ℕ) → c < 64 * w → rows_with m' w 0 (i + 1) c ≡ rows_with m w 0 i c + cond (cell m w i c) 1 0
      grown c h =
          rw (add-one, count_plus (leb 0 i && cell m' w i c) (tally i (λ j. leb 0 j && cell m' w j c)), le-leb 0 i (omega arith), cells c h i few)
          (ap (◌+ cond (cell m w i c) 1 0) (tally_same i (λ j. leb 0 j && cell m w j c) (λ j. leb 0 j && cell m' w j c)
          (λ j l. ap (λ (b : Bool). leb 0 j && b) (cells c h j (omega arith)))))

      step : (c : ℕ) → c < 64 * w → (x : Bool) → number m c ≡ rows_with m w 0 i c
          → Carried false (cond (cell m w i c) 1 0) (cond x 1024 0) (number m c) (number m' c) → number m' c ≡ rows_with m' w 0 (i + 1) c
      step c h x n e =
          let a = tally_few i (λ j. leb 0 j && cell m w j c) in
          rw (grown c h) (past x (cell m w i c) (number m c) (number m' c) (rows_with m w 0 i c) (omega arith) n e)
        where
          past : (x b : Bool) (old new r : ℕ) → r ≤ 512 → old ≡ r → new + cond x 1024 0 ≡ old + cond b 1 0 → new ≡ r + cond b 1 0
          past true true old new r l n e = absurd (omega (arith, n, e))
          past true false old new r l n e = absurd (omega (arith, n, e))
          past false b old new r l n e = omega (arith, n, e)

----------------------------------------------------------------------
-- A row added

-- The cells of the other rows.
pub joined_other : {weight : ℕ} {down into : ℕ → Bool} (w from to : ℕ) (m m' : List ℕ) → w ≤ 16 → Joined weight down into w from to m m'
    → (j c : ℕ) → j < 512 → (j ≡ to → ⊥) → c < 64 * w → cell m' w j c ≡ cell m w j c
joined_other w from to m m' wide s j c few n h =
    cell_same w j c m m' h (s.kept (j * w + c / 64) (omega (arith, row_ends w j wide few)) (beside w to j c n h))

-- The row to which another is added, and how often one of its columns is counted: t before, u in the other row. The numbers leave out `left` rows.
followed : (x t u : Bool) (left old new a a' : ℕ) → a ≤ 512 → new < 1024 → left ≤ a' → old + left ≡ a → a' + cond t 1 0 ≡ a + cond (t ⊕ u) 1 0
    → Carried t (cond u 1 0) (cond x 1024 0) old new → new + left ≡ a'
followed true true true left old new a a' l b d n s e = absurd (omega (arith, n, s, e))
followed true true false left old new a a' l b d n s e = absurd (omega (arith, n, s, e))
followed true false true left old new a a' l b d n s e = absurd (omega (arith, n, s, e))
followed true false false left old new a a' l b d n s e = absurd (omega (arith, n, s, e))
followed false true true left old new a a' l b d n s e = omega (arith, n, s, e)
followed false true false left old new a a' l b d n s e = omega (arith, n, s, e)
followed false false true left old new a a' l b d n s e = omega (arith, n, s, e)
followed false false false left old new a a' l b d n s e = omega (arith, n, s, e)

-- The other row is left out from now on.
left_out : (x t u : Bool) (old new a a' : ℕ) → a ≤ 512 → new < 1024 → cond u 1 0 ≤ a' → old ≡ a → a' + cond t 1 0 ≡ a + cond (t ⊕ u) 1 0
    → Carried true (cond (u && t) 2 0) (cond x 1024 0) old new → new + cond u 1 0 ≡ a'
left_out true true true old new a a' l b d n s e = absurd (omega (arith, n, s, e))
left_out true true false old new a a' l b d n s e = absurd (omega (arith, n, s, e))
left_out true false true old new a a' l b d n s e = absurd (omega (arith, n, s, e))
left_out true false false old new a a' l b d n s e = absurd (omega (arith, n, s, e))
left_out false true true old new a a' l b d n s e = omega (arith, n, s, e)
left_out false true false old new a a' l b d n s e = omega (arith, n, s, e)
left_out false false true old new a a' l b d n s e = omega (arith, n, s, e)
left_out false false false old new a a' l b d n s e = omega (arith, n, s, e)

counted_in : (rows i : ℕ) (f : ℕ → Bool) → i < rows → cond (f i) 1 0 ≤ tally rows f
counted_in rows i f h =
    let z = rw (eq-eqb i i refl) at (tally_change rows i f (λ j. not (eqb i j) && f j) h (λ j d l. rw (ne_eqb i j (λ e. d (sym e))))) in
    omega (arith, z)

module _ (w top rows from to : ℕ) (m m' : List ℕ) (wide : w ≤ 16) (few : rows ≤ 512) (low : top ≤ to) (within : to < rows) where
  changed : {weight : ℕ} {down into : ℕ → Bool} → Joined weight down into w from to m m' → (c : ℕ) → c < 64 * w
      → rows_with m' w top rows c + cond (cell m w to c) 1 0 ≡ rows_with m w top rows c + cond (cell m w to c ⊕ cell m w from c) 1 0
  changed s c h =
      rw (← s.cells c h) (rw (le-leb top to low) at (tally_change rows to (λ i. leb top i && cell m w i c) (λ i. leb top i && cell m' w i c) within
      (λ i e l. ap (λ (b : Bool). leb top i && b) (joined_other w from to m m' wide s i c (omega arith) e h))))

  -- Row `from`, if it is another one, is counted in as many columns as before.
  from_in : {weight : ℕ} {down into : ℕ → Bool} → Joined weight down into w from to m m' → top ≤ from → from < rows → (from ≡ to → ⊥) → (c : ℕ) → c < 64 * w
      → cond (cell m w from c) 1 0 ≤ rows_with m' w top rows c
  from_in s a b n c h =
      rw (← joined_other w from to m m' wide s from c (omega arith) n h)
      (rw (le-leb top from a) at (counted_in rows from (λ i. leb top i && cell m' w i c) b))

  follows : Added w from to m m' → (c : ℕ) → c < 64 * w → untaken m' c ≡ true → (left : ℕ) → left ≤ rows_with m' w top rows c
      → (untaken m c ≡ true → number m c + left ≡ rows_with m w top rows c) → number m' c + left ≡ rows_with m' w top rows c
  follows s c h u left l n =
      let u' = sym (untaken_same m m' s.stays c) ∙ u in
      let y = s.numbers c h in
      followed y.0 (cell m w to c) (cell m w from c) left (number m c) (number m' c) (rows_with m w top rows c) (rows_with m' w top rows c)
      (omega (arith, tally_few rows (λ i. leb top i && cell m w i c))) (number_few m' c) l (n u') (changed s c h) (rw (u', &&_true (cell m w from c) refl) at y.1)

  pub numbered_added : Added w from to m m' → Numbered w top rows m → Numbered w top rows m'
  numbered_added s n c h u =
      let z = follows s c h u 0 (omega arith) (λ u'. let d = n c h u' in omega (arith, d)) in
      omega (arith, z)

  module _ (start : top ≤ from) (ends : from < rows) (other : from ≡ to → ⊥) where
    pub but_added : Added w from to m m' → NumberedBut w top rows from m → NumberedBut w top rows from m'
    but_added s n c h u =
        rw (joined_other w from to m m' wide s from c (omega arith) other h)
        (follows s c h u (cond (cell m w from c) 1 0) (from_in s start ends other c h) (λ u'. n c h u'))

    pub but_merged : Merged w from to m m' → Numbered w top rows m → NumberedBut w top rows from m'
    but_merged s n c h u =
        let u' = sym (untaken_same m m' s.stays c) ∙ u in
        let y = s.numbers c h in
        rw (joined_other w from to m m' wide s from c (omega arith) other h)
        (left_out y.0 (cell m w to c) (cell m w from c) (number m c) (number m' c) (rows_with m w top rows c) (rows_with m' w top rows c)
        (omega (arith, tally_few rows (λ i. leb top i && cell m w i c))) (number_few m' c) (from_in s start ends other c h) (n c h u') (changed s c h)
        (rw (u', &&_true (cell m w from c && cell m w to c) refl) at y.1))
