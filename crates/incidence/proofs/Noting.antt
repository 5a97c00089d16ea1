-- The list after a row: turns of the loops that write it. Assumes nothing.
use mathlib.Core.Path.{◌≡◌, refl, sym, ap, ◌∙◌}
use mathlib.Core.Bool.{cond}
use mathlib.Core.List.{List, [], ◌∷◌}
use Prim.Native.Nat.{ℕ, zero, suc, ◌+◌, ◌≤◌, ◌<◌}
use native.Mathlib.Numerals.{add-one}
use borrow.Author.Tests.{lt-ltb, le-ltb, le-leb, lt-leb, eq-eqb, ne_eqb}
use lib.Dec.{eqb, leb, ltb}
use lib.ListN.{length, get_or, set, drop, length-set, drop_of_length-le}
use Rattle.binary.specs.Meaning.{Row}
use Rattle.binary.proofs.Bits.{bit}
use Rattle.code.proofs.Turns.{drop_turn}
use Rattle.incidence.specs.Incidence.{slot, number_on, note_on, note_all, emptied, noted}

----------------------------------------------------------------------
-- The ways through one qubit

module _ (i : ℕ) (l : List ℕ) (q : ℕ) where
  pub note_off : length l < slot q + 15 → l ≡ note_on i l q
  unfolding note_on
  note_off h = rw (lt-leb (slot q + 15) (length l) h)

  pub note_place : slot q + 15 ≤ length l → (number : ℕ) → number ≡ number_on l q → number < 14
      → set (set l (slot q + 1 + number) i) (slot q) (number + 1) ≡ note_on i l q
  unfolding note_on
  note_place h number e few = rw (le-leb (slot q + 15) (length l) h, ← e, lt-ltb number 14 few)

  pub note_full : slot q + 15 ≤ length l → (number : ℕ) → number ≡ number_on l q → 14 ≤ number → set l (slot q) 15 ≡ note_on i l q
  unfolding note_on
  note_full h number e many = rw (le-leb (slot q + 15) (length l) h, ← e, le-ltb number 14 many)

  pub note_long : length (note_on i l q) ≡ length l
  unfolding note_on
  note_long =
      bit (leb (slot q + 15) (length l))
      (λ t. rw t (bit (ltb (number_on l q) 14)
      (λ u. rw u (length-set (set l (slot q + 1 + number_on l q) i) (slot q) (number_on l q + 1) ∙ length-set l (slot q + 1 + number_on l q) i))
      (λ u. rw u (length-set l (slot q) 15))))
      (λ t. rw t)

----------------------------------------------------------------------
-- A row's qubits, one after the other

pub all_turn : (i : ℕ) (row : List ℕ) (old l : List ℕ) (j : ℕ) → j < length row → note_all i (drop j row) l ≡ note_all i row old
    → note_all i (drop (j + 1) row) (note_on i l (get_or row j 0)) ≡ note_all i row old
unfolding note_all
all_turn i row old l j h e = sym (ap (λ (r : Row). note_all i r l) (drop_turn row j h)) ∙ e

pub all_done : (i : ℕ) (row old l : List ℕ) (j : ℕ) → length row ≤ j → note_all i (drop j row) l ≡ note_all i row old → l ≡ note_all i row old
unfolding note_all
all_done i row old l j h e = sym (ap (λ (r : Row). note_all i r l) (drop_of_length-le row h)) ∙ e

pub empty_turn : (old l : List ℕ) (q : ℕ) → l ≡ emptied q old → set l (slot q) 0 ≡ emptied (q + 1) old
unfolding emptied
empty_turn old l q e = rw (e, add-one q)

----------------------------------------------------------------------
-- As many elements as before

pub all_long : (i : ℕ) (row : Row) (l : List ℕ) → length (note_all i row l) ≡ length l
unfolding note_all
all_long i [] l = refl
all_long i (q ∷ row) l = all_long i row (note_on i l q) ∙ note_long i l q

pub emptied_long : (n : ℕ) (l : List ℕ) → length (emptied n l) ≡ length l
unfolding emptied
emptied_long zero l = refl
emptied_long (suc n) l = length-set (emptied n l) (slot n) 0 ∙ emptied_long n l

----------------------------------------------------------------------
-- The first row, and any

module _ (n i : ℕ) (l : List ℕ) where
  module _ (row : Row) (l' : List ℕ) where
    pub noted_first : i ≡ 0 → (mid : List ℕ) → mid ≡ emptied n l → l' ≡ note_all i row mid → l' ≡ noted n i row l
    unfolding noted
    noted_first h mid e f = f ∙ ap (note_all i row) (e ∙ rw (eq-eqb i 0 h))

    pub noted_later : (i ≡ 0 → ⊥) → l' ≡ note_all i row l → l' ≡ noted n i row l
    unfolding noted
    noted_later h f = f ∙ ap (note_all i row) (rw (ne_eqb i 0 h))

  pub noted_long : (row : Row) → length (noted n i row l) ≡ length l
  unfolding noted
  noted_long row = all_long i row (cond (eqb i 0) (emptied n l) l) ∙ bit (eqb i 0) (λ t. rw t (emptied_long n l)) (λ t. rw t)
