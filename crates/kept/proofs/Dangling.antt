-- The lowest dangling row by the kept numbers is the machine's. Assumes nothing.
use mathlib.Core.Path.{◌≡◌, refl, sym, ap, ◌∙◌}
use mathlib.Core.Bool.{Bool, true, false, cond}
use mathlib.Core.Option.{none, some}
use mathlib.Core.List.{List, [], ◌∷◌}
use Prim.Native.Nat.{ℕ, zero, suc, ◌+◌, ◌-◌, ◌≤◌, ◌<◌}
use native.Mathlib.Omega.{arith}
use lib.Dec.{eqb}
use lib.ListN.{length, get_or}
use borrow.Author.Tests.{eqb-true}
use Rattle.binary.specs.Meaning.{Qubits, Check}
use Rattle.binary.proofs.Bits.{never}
use Rattle.machine.specs.Machine.{keep_if, part, only, or_else, dangling}
use Rattle.scans.specs.Rows.{RowLists, check_in, read_in?, checks_from, row_checks}
use Rattle.scans.specs.Scans.{OpenFrom}
use Rattle.scans.proofs.Scanning.{one_inside, one_open}
use Rattle.scans.proofs.Checks.{from, from_all, from_none}
use Rattle.kept.specs.Kept.{row_in, dangles?}

only_not : (l : List ℕ) → eqb (length l) 1 ≡ false → only l ≡ none
only_not [] e = refl
only_not (p ∷ []) e = never refl e
only_not (p ∷ (q ∷ l)) e = refl

dangling_kept : (o : Qubits) (b : Bool) (c : Check) (cs : List Check) → dangling o (keep_if b c cs) ≡ or_else (only (part o (cond b c.row []))) c (dangling o cs)
dangling_kept o true c cs = refl
dangling_kept o false c cs = refl

module _ (o : Qubits) (c : RowLists) where
  from_here : (i : ℕ) → i < c.count → dangling o (from c i) ≡ or_else (only (part o (row_in c i))) (check_in c i) (dangling o (from c (i + 1)))
  from_here i h =
      let e : c.count - i ≡ suc (c.count - (i + 1)) = omega arith in
      let d : suc (c.first + i) ≡ c.first + (i + 1) = omega arith in
      rw (e, ← d) (dangling_kept o (read_in? c i) (check_in c i) (checks_from c.flat c.ends c.lit (suc (c.first + i)) (c.count - (i + 1))))

  -- Rows that do not dangle are passed over.
  passed : (i d : ℕ) → i + d ≤ c.count → ((j : ℕ) → i ≤ j → j < i + d → dangles? o c j ≡ false) → dangling o (from c i) ≡ dangling o (from c (i + d))
  passed i zero h f = let e : i + 0 ≡ i = omega arith in rw e
  passed i (suc d) h f =
      let e : i + 1 + d ≡ i + suc d = omega arith in
      from_here i (omega arith) ∙ rw (only_not (part o (row_in c i)) (f i (omega arith) (omega arith)))
      (passed (i + 1) d (omega arith) (λ j a b. f j (omega arith) (omega arith)) ∙ ap (λ (k : ℕ). dangling o (from c k)) e)

  to : (r : ℕ) → r ≤ c.count → ((j : ℕ) → j < r → dangles? o c j ≡ false) → dangling o (row_checks c) ≡ dangling o (from c r)
  to r h f =
      let e : 0 + r ≡ r = omega arith in
      sym (ap (dangling o) (from_all c)) ∙ passed 0 r (omega arith) (λ j a b. f j (omega arith)) ∙ ap (λ (k : ℕ). dangling o (from c k)) e

  pub dangling_none : ((j : ℕ) → j < c.count → dangles? o c j ≡ false) → dangling o (row_checks c) ≡ none
  dangling_none f = to c.count (omega arith) f ∙ ap (dangling o) (from_none c c.count (omega arith))

  -- A dangling row was read.
  one_read : (b : Bool) (row : List ℕ) → length (part o (cond b row [])) ≡ 1 → cond b row [] ≡ row
  one_read true row e = refl
  one_read false row e = absurd (omega arith)

  module _ (r : ℕ) (h : r < c.count) (dangles : dangles? o c r ≡ true) (f : (j : ℕ) → j < r → dangles? o c j ≡ false) where
    pub row_is : row_in c r ≡ (check_in c r).row
    row_is = one_read (read_in? c r) (check_in c r).row (eqb-true _ 1 dangles)

    -- The row whose open qubit is p.
    pub dangling_only : (p : ℕ) → part o (check_in c r).row ≡ p ∷ [] → dangling o (row_checks c) ≡ some (p, check_in c r)
    dangling_only p e = to r (omega arith) f ∙ from_here r h ∙ rw (row_is, e)

    module _ (i : ℕ) (first : OpenFrom o (check_in c r).row 0 i) where
      one : length (part o (check_in c r).row) ≡ 1
      one = sym (ap (λ (x : List ℕ). length (part o x)) row_is) ∙ eqb-true _ 1 dangles

      pub found_inside : i < length (check_in c r).row
      found_inside = one_inside o (check_in c r).row i first one

      pub dangling_found : dangling o (row_checks c) ≡ some (get_or (check_in c r).row i 0, check_in c r)
      dangling_found = dangling_only (get_or (check_in c r).row i 0) (one_open o (check_in c r).row i first one)
