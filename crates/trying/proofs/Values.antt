-- A qubit's form becomes a plain bit. Assumes nothing.
use mathlib.Core.Path.{◌≡◌, refl, sym, subst, fun_ext}
use mathlib.Core.Bool.{false}
use mathlib.Core.List.{List}
use Prim.Native.Nat.{ℕ, zero, suc, ◌*◌, ◌≤◌, ◌<◌}
use native.Mathlib.Omega.{arith}
use lib.Dec.{eqb}
use lib.ListN.{length}
use borrow.Author.Tests.{eqb-true, eq-eqb, ne_eqb}
use Rattle.binary.proofs.Bits.{bit}
use Rattle.machine.specs.Lists.{forms_of}
use Rattle.forms.specs.Forms.{Topped, PutsGuess}
use Rattle.forms.proofs.Putting.{guess_put, guess_rest}
use Rattle.trying.specs.Turns.{ValuePut}

module _ (n p v : ℕ) (old : List ℕ) (below : p < n) (room : 4 * n ≤ length old) where
  pub value_one : v ≡ 1 → (new : List ℕ) → PutsGuess n 0 p old new → ValuePut n p v old new
  value_one e new w =
      record {
        long = w.long;
        rest = guess_rest n 0 p old new w below room (omega arith);
        puts = λ topped blank. rw (eq-eqb v 1 e) (guess_put n 0 p old new w below room (omega arith) topped);
      }

  pub value_zero : (v ≡ 1 → ⊥) → ValuePut n p v old old
  value_zero f = record { long = refl; rest = λ i h. refl; puts = λ topped blank. rw (ne_eqb v 1 f) (sym (fun_ext λ q. fun_ext λ k. bit (eqb p q) (λ e. rw e (sym (at q k (eqb-true p q e) topped blank))) (λ e. rw e))) }
    where
      at : (q k : ℕ) → p ≡ q → Topped n 0 old → forms_of n old p 0 ≡ false → forms_of n old q k ≡ false
      at q zero e topped blank = subst (λ (x : ℕ). forms_of n old x 0 ≡ false) e blank
      at q (suc k) e topped blank = topped q (suc k) (omega arith)
