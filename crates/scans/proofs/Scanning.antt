-- Marks read and counted, and the open qubits of a row. Assumes nothing.
use mathlib.Core.Path.{◌≡◌, refl, sym, ap, ◌∙◌, fun_ext, subst}
use mathlib.Core.Bool.{true, false, not, cond}
use mathlib.Core.List.{List, [], ◌∷◌}
use mathlib.Core.Logic.{⊎_elim}
use Prim.Native.Nat.{ℕ, suc, ◌+◌, ◌≤◌, ◌<◌}
use native.Mathlib.Numerals.{add-one}
use native.Mathlib.Omega.{arith}
use borrow.Author.Tests.{lt-ltb, le-ltb, ltb-true, le-leb, ne_eqb}
use borrow.Author.Tests
use lib.Dec.{eqb, ltb}
use lib.ListN.{length, get_or, set, drop, drop_of_length-le, get_or-eq_default}
use lib.Seq.{drop-cons, get_or-set_same, get_or-set_other}
use Rattle.binary.specs.Meaning.{Qubits}
use Rattle.binary.specs.Bits.{below}
use Rattle.binary.proofs.Bits.{bit, never, eqb_eq, eq_eqb, counted_none}
use Rattle.binary.proofs.Weights.{tally_up}
use Rattle.binary.proofs.WordBits.{order}
use Rattle.machine.specs.Machine.{put, is_open, part}
use Rattle.machine.specs.Report.{marked}
use Rattle.machine.specs.Lists.{view}
use Rattle.scans.specs.Scans.{OpenFrom, count_marks, OneLess}

----------------------------------------------------------------------
-- Marks read

pub open_past : (n : ℕ) (marks : List ℕ) (q : ℕ) → n ≤ q → false ≡ is_open (view n marks) q
open_past n marks q h = rw (le-ltb q n h)

pub open_read : (n : ℕ) (marks : List ℕ) (q : ℕ) → q < n → eqb (get_or marks q 0) 4 ≡ is_open (view n marks) q
open_read n marks q h = rw (lt-ltb q n h)

-- An open qubit is below n.
pub open_below_lem : (n : ℕ) (marks : List ℕ) (q : ℕ) → is_open (view n marks) q ≡ true → q < n
open_below_lem n marks q e = bit (ltb q n) (λ t. ltb-true q n t) (λ t. never e (rw t))

-- And has its mark in the list.
pub open_inside : (n : ℕ) (marks : List ℕ) (q : ℕ) → is_open (view n marks) q ≡ true → q < length marks
open_inside n marks q e = ⊎_elim (λ (h : q < length marks). h) (λ (h : length marks ≤ q). never (open_read n marks q (open_below_lem n marks q e) ∙ e) (rw (get_or-eq_default {A = ℕ} marks 0 h))) (order q (length marks))

----------------------------------------------------------------------
-- Marks counted

pub counted : (n : ℕ) (marks : List ℕ) (m total : ℕ) → n ≤ length marks → total ≡ marked n (view n marks) m → total ≡ count_marks n marks m
counted n marks m total h e = rw (le-leb n (length marks) h) e

module _ (n : ℕ) (marks : List ℕ) (m q : ℕ) (h : q < n) where
  pub marked_yes : (total : ℕ) → total ≡ marked q (view n marks) m → get_or marks q 0 ≡ m
      → total + 1 ≡ marked (q + 1) (view n marks) m
  marked_yes total t e = rw (add-one total, add-one q, lt-ltb q n h, Tests.eq-eqb (get_or marks q 0) m e) (ap suc t)

  pub marked_no : (total : ℕ) → total ≡ marked q (view n marks) m → (get_or marks q 0 ≡ m → ⊥)
      → total ≡ marked (q + 1) (view n marks) m
  marked_no total t e = rw (add-one q, lt-ltb q n h, ne_eqb (get_or marks q 0) m e) t

----------------------------------------------------------------------
-- An element stored

pub view_set : (n : ℕ) (l : List ℕ) (p v : ℕ) → p < n → p < length l → view n (set l p v) ≡ put p v (view n l)
view_set n l p v i j = fun_ext λ q. bit (eqb p q) (λ e. rw e (at q (eqb_eq p q e))) (λ e. rw e (off q e))
  where
    at : (q : ℕ) → p ≡ q → view n (set l p v) q ≡ v
    at q e = subst (λ (x : ℕ). view n (set l p v) x ≡ v) e (rw (lt-ltb p n i) (get_or-set_same l p v 0 j))

    off : (q : ℕ) → eqb p q ≡ false → view n (set l p v) q ≡ view n l q
    off q e = ap (λ (x : ℕ). cond (ltb q n) x 0) (get_or-set_other l p q v 0 (λ k. never (subst (λ (x : ℕ). eqb p x ≡ true) (sym k) (eq_eqb p)) e))

pub rest_set : (n : ℕ) (l : List ℕ) (p v : ℕ) → p < n → (q : ℕ) → n ≤ q → get_or (set l p v) q 0 ≡ get_or l q 0
rest_set n l p v i q j = get_or-set_other l p q v 0 (λ k. absurd (omega arith))

----------------------------------------------------------------------
-- Open qubits counted

pub some_open_lem : (n left : ℕ) (marks : List ℕ) → left ≡ marked n (view n marks) 4 → 0 < left → below n (λ q. not (is_open (view n marks) q)) ≡ false
some_open_lem n left marks e l =
    bit (below n (λ q. not (is_open (view n marks) q))) (λ t. let z = counted_none n (is_open (view n marks)) t in absurd (omega arith)) (λ t. t)

-- An open qubit gets another mark.
pub one_less_lem : (n : ℕ) (marks : List ℕ) (p m : ℕ) → is_open (view n marks) p ≡ true → eqb m 4 ≡ false → OneLess n marks (set marks p m)
one_less_lem n marks p m is_open_lem other = tally_up n p (is_open (view n (set marks p m))) (is_open (view n marks)) below (now p ∙ rw (eq_eqb p) other) is_open_lem (λ q e. sym (now q ∙ rw e))
  where
    below : p < n
    below = open_below_lem n marks p is_open_lem

    now : (q : ℕ) → is_open (view n (set marks p m)) q ≡ is_open (put p m (view n marks)) q
    now q = ap (λ (f : ℕ → ℕ). is_open f q) (view_set n marks p m below (open_inside n marks p is_open_lem))

----------------------------------------------------------------------
-- A row's open qubits

module _ (o : Qubits) (row : List ℕ) where
  part_yes : (i : ℕ) → i < length row → o (get_or row i 0) ≡ true → part o (drop i row) ≡ get_or row i 0 ∷ part o (drop (i + 1) row)
  part_yes i h e = rw (add-one, drop-cons row i 0, e)

  pub part_no : (i : ℕ) → i < length row → o (get_or row i 0) ≡ false → part o (drop i row) ≡ part o (drop (i + 1) row)
  part_no i h e = rw (add-one, drop-cons row i 0, e)

  part_end : (i : ℕ) → length row ≤ i → part o (drop i row) ≡ []
  part_end i h = rw (drop_of_length-le row h)

  -- Of a row with one open qubit, its first open one is that.
  module _ (i : ℕ) (f : OpenFrom o row 0 i) (one : length (part o row) ≡ 1) where
    pub one_inside : i < length row
    one_inside = ⊎_elim (λ (l : i < length row). l) (λ (l : length row ≤ i). let z = rw (f.skipped, part_end i l) at one in absurd (omega arith)) (order i (length row))

    pub one_open : part o row ≡ get_or row i 0 ∷ []
    one_open =
        let first = f.skipped ∙ part_yes i one_inside (f.found one_inside) in
        first ∙ ap (get_or row i 0 ∷◌) (none (part o (drop (i + 1) row)) (rw first at one))
      where
        none : (l : List ℕ) → suc (length l) ≡ 1 → l ≡ []
        none [] e = refl
        none (x ∷ l) e = absurd (omega arith)
