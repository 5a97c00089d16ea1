-- A set of qubits, taken one qubit after another. Assumes nothing.
use mathlib.Core.Path.{◌≡◌, refl, sym, ◌∙◌, subst, fun_ext}
use mathlib.Core.Bool.{true, false}
use mathlib.Core.Logic.{⊎_elim}
use mathlib.Core.List.{[], ◌∷◌}
use Prim.Native.Nat.{ℕ, ◌+◌, ◌≤◌, ◌<◌}
use native.Mathlib.Omega.{arith}
use lib.Dec.{eqb}
use borrow.Author.Tests.{eqb-true}
use Rattle.binary.specs.Meaning.{Qubits, no_qubit, Row}
use Rattle.binary.proofs.Bits.{bit, never}
use Rattle.binary.proofs.UpTo.{up_to, up_below, up_from, up_pass, up_on}
use Rattle.binary.proofs.WordBits.{order}
use Rattle.machine.specs.Machine.{put, part}

pub part_none : (r : Row) → part no_qubit r ≡ []
part_none [] = refl
part_none (p ∷ r) = part_none r

-- Those below q.
abbrev pub open_below : Qubits → ℕ → Qubits
open_below o q = up_to q o no_qubit

module _ (o : Qubits) where
  pub below_none : open_below o 0 ≡ no_qubit
  below_none = fun_ext λ p. up_from o no_qubit 0 p (omega arith)

  module _ (q : ℕ) where
    pub below_own : open_below o q q ≡ false
    below_own = up_from o no_qubit q q (omega arith)

    pub below_inside : (n : ℕ) → q ≤ n → (p : ℕ) → open_below o q p ≡ true → p < n
    below_inside n h p t = ⊎_elim (λ (l : p < q). omega arith) (λ (l : q ≤ p). never t (up_from o no_qubit q p l)) (order p q)

    -- Qubit q, which is in the set or not.
    pub below_pass : o q ≡ false → open_below o q ≡ open_below o (q + 1)
    below_pass e = fun_ext (up_pass o no_qubit q (q + 1) (omega arith) (λ j a b. let d : q ≡ j = omega arith in subst (λ (x : ℕ). o x ≡ false) d e))

    pub below_put : o q ≡ true → put q true (open_below o q) ≡ open_below o (q + 1)
    below_put e = fun_ext λ p. bit (eqb q p)
        (λ t. let d = eqb-true q p t in rw (t, ← d) (sym (up_below o no_qubit (q + 1) q (omega arith) ∙ e)))
        (λ t. rw t (sym (up_on o no_qubit q p t)))

    pub below_all : ((p : ℕ) → q ≤ p → o p ≡ false) → open_below o q ≡ o
    below_all past = fun_ext λ p. ⊎_elim (λ (l : p < q). up_below o no_qubit q p l) (λ (l : q ≤ p). up_from o no_qubit q p l ∙ sym (past p l)) (order p q)
