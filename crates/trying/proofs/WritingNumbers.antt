-- A row's numbers written: each kind of them has 512 elements of the work list, the number of open qubits those from 512 × 17 on, the sum from 512 × 18 on, the parity from
-- 512 × 19 on. Assumes nothing.
use mathlib.Core.Path.{◌≡◌, refl, ap, ◌∙◌}
use mathlib.Core.Bool.{Bool, true, false, ◌&&◌, cond}
use mathlib.Core.List.{List}
use Prim.Native.Nat.{ℕ, ◌+◌, ◌*◌, ◌≤◌, ◌<◌}
use native.Mathlib.Omega.{arith}
use lib.Dec.{eqb}
use lib.ListN.{length, get_or, set}
use lib.Seq.{get_or-set_same, get_or-set_other}
use borrow.Author.Tests.{eqb-true, eqb-false}
use Rattle.binary.proofs.Bits.{bit}
use Rattle.kept.specs.Kept.{Numbered}
use Rattle.trying.specs.Entries.{Entry, entry_in, EntryPut}
use Rattle.trying.proofs.RowNumbers.{same_entry}

-- The number of open qubits.
pub number_put : (i number : ℕ) (old mid : List ℕ) → Numbered i number old mid → ((k : ℕ) → 9216 ≤ k → get_or mid k 0 ≡ get_or old k 0)
    → EntryPut i (record { number = number; sum = get_or old (9216 + i) 0; parity = get_or old (9728 + i) 0 }) old mid
number_put i number old mid v past j h =
    bit (eqb i j)
    (λ e. let s = eqb-true i j e in
    rw e (same_entry (entry_in mid j) (record { number = number; sum = get_or old (9216 + i) 0; parity = get_or old (9728 + i) 0 }) (v j h ∙ rw e)
    (past (9216 + j) (omega arith) ∙ rw s) (past (9728 + j) (omega arith) ∙ rw s)))
    (λ e. rw e (same_entry (entry_in mid j) (entry_in old j) (v j h ∙ rw e) (past (9216 + j) (omega arith)) (past (9728 + j) (omega arith))))

----------------------------------------------------------------------
-- Then the sum, or the parity

-- An element of one kind, and one of any kind.
set_at_lem : (l : List ℕ) (b i x m j : ℕ) → i < 512 → j < 512 → 512 * b + i < length l → get_or (set l (512 * b + i) x) (512 * m + j) 0 ≡ cond (eqb b m && eqb i j) x (get_or l (512 * m + j) 0)
set_at_lem l b i x m j h k inside =
    bit (eqb b m)
    (λ e. bit (eqb i j)
    (λ f. let d = eqb-true b m e in let g = eqb-true i j f in rw (e, f, ← d, ← g) (get_or-set_same l (512 * b + i) x 0 inside))
    (λ f. rw (e, f) (get_or-set_other l (512 * b + i) (512 * m + j) x 0 (λ t. eqb-false i j f (let d = eqb-true b m e in omega arith)))))
    (λ e. rw e (get_or-set_other l (512 * b + i) (512 * m + j) x 0 (λ t. eqb-false b m e (omega arith))))

-- A row's numbers, that of kind b another.
abbrev with_number : ℕ → ℕ → Entry → Entry
with_number b x e = record { number = cond (eqb b 17) x e.number; sum = cond (eqb b 18) x e.sum; parity = cond (eqb b 19) x e.parity }

module _ (i : ℕ) (e : Entry) (old mid : List ℕ) (v : EntryPut i e old mid) (few : i < 512) (b x : ℕ) (far : 18 ≤ b) (inside : 512 * b + i < length mid) where
  abbrev new : List ℕ
  new = set mid (512 * b + i) x

  -- Row j's number of kind m.
  at : (m j : ℕ) → j < 512 → get_or new (512 * m + j) 0 ≡ cond (eqb b m && eqb i j) x (get_or mid (512 * m + j) 0)
  at m j h = set_at_lem mid b i x m j few h inside

  own : (t : Bool) (y z : ℕ) → y ≡ z → cond (t && true) x y ≡ cond t x z
  own true y z d = refl
  own false y z d = d

  other : (t : Bool) (y : ℕ) → cond (t && false) x y ≡ y
  other true y = refl
  other false y = refl

  pub element_put : EntryPut i (with_number b x e) old new
  element_put j h =
      bit (eqb i j)
      (λ t. let w : entry_in mid j ≡ e = v j h ∙ rw t in
      rw t (same_entry (entry_in new j) (with_number b x e)
      (at 17 j h ∙ rw t (own (eqb b 17) (get_or mid (8704 + j) 0) e.number (ap (λ (y : Entry). y.number) w)))
      (at 18 j h ∙ rw t (own (eqb b 18) (get_or mid (9216 + j) 0) e.sum (ap (λ (y : Entry). y.sum) w)))
      (at 19 j h ∙ rw t (own (eqb b 19) (get_or mid (9728 + j) 0) e.parity (ap (λ (y : Entry). y.parity) w)))))
      (λ t. rw t (same_entry (entry_in new j) (entry_in mid j)
      (at 17 j h ∙ rw t (other (eqb b 17) (get_or mid (8704 + j) 0)))
      (at 18 j h ∙ rw t (other (eqb b 18) (get_or mid (9216 + j) 0)))
      (at 19 j h ∙ rw t (other (eqb b 19) (get_or mid (9728 + j) 0))) ∙ v j h ∙ rw t))
