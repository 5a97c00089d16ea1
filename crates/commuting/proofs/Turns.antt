-- The turns of the loops: what is left of a row, or of the rows, decides. Assumes nothing.
use mathlib.Core.Path.{refl, ◌≡◌, sym, ap, ◌∙◌}
use mathlib.Core.Bool.{Bool, true, false, not, ◌&&◌}
use mathlib.Core.List.{List, [], ◌∷◌}
use native.Mathlib.Nat.{zero-add}
use native.Mathlib.Omega.{arith}
use borrow.Author.Tests.{eqb-true, eqb-false, eq-eqb, ne_eqb}
use lib.Dec.{eqb}
use Rattle.std.proofs.Common.{cond, count_by}
use Rattle.std.proofs.lemmas.List.Sums.{sum_by-cons}
use Prim.Native.Nat.{ℕ, ◌+◌, ◌%◌, ◌<◌, ◌≤◌}
use Rattle.binary.specs.Bits.{◌⊕◌}
use Rattle.binary.specs.Meaning.{Row, Qubits, odd}
use Rattle.binary.proofs.Bits.{bit}
use Rattle.code.specs.Lists.{row_at, rows_between}
use Rattle.code.proofs.Lists.{between_turn, between_none}
use Rattle.commuting.specs.Even.{even_for?}

one_more : (n : ℕ) → eqb ((1 + n) % 2) 1 ≡ (true ⊕ eqb (n % 2) 1)
one_more n =
    bit (eqb (n % 2) 1) (λ t. let e = eqb-true (n % 2) 1 t in rw (t, ne_eqb ((1 + n) % 2) 1 (λ o. absurd (omega arith))))
    (λ t. let e = eqb-false (n % 2) 1 t in rw (t, eq-eqb ((1 + n) % 2) 1 (omega arith)))

pub odd_counted : (set : Qubits) (row : Row) → eqb (count_by set row % 2) 1 ≡ odd set row
odd_counted set [] = refl
odd_counted set (q ∷ row) =
    ap (λ (n : ℕ). eqb (n % 2) 1) (sum_by-cons (λ (p : ℕ). cond (set p) 1 0) q row)
    ∙ bit (set q) (λ t. rw t (one_more (count_by set row) ∙ ap (true ⊕◌) (odd_counted set row))) (λ t. rw (t, zero-add) (odd_counted set row))

module _ (set : Qubits) (flat ends : List ℕ) (from to r : ℕ) (left : even_for? set (rows_between flat ends r to) ≡ even_for? set (rows_between flat ends from to)) where
  pub even_end : to ≤ r → true ≡ even_for? set (rows_between flat ends from to)
  unfolding even_for?
  even_end h = sym (ap (even_for? set) (between_none flat ends r to h)) ∙ left

  module _ (part : Row) (is : part ≡ row_at flat ends r) (h : r < to) (told : Bool) (tells : told ≡ odd set part) where
    even_next : (not told && even_for? set (rows_between flat ends (r + 1) to)) ≡ even_for? set (rows_between flat ends from to)
    unfolding even_for?
    even_next = rw (tells, is) (sym (ap (even_for? set) (between_turn flat ends r to h)) ∙ left)

    pub even_odd : told ≡ true → false ≡ even_for? set (rows_between flat ends from to)
    even_odd o = rw (← even_next, o)

    pub even_turn : told ≡ false → even_for? set (rows_between flat ends (r + 1) to) ≡ even_for? set (rows_between flat ends from to)
    even_turn o = rw (← even_next, o)
