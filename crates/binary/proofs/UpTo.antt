-- One function below a number, another from it on. Assumes nothing.
use mathlib.Core.Path.{◌≡◌, sym}
use mathlib.Core.Bool.{false, cond}
use mathlib.Core.Logic.{⊎_elim}
use Prim.Native.Nat.{ℕ, ◌+◌, ◌≤◌, ◌<◌}
use native.Mathlib.Omega.{arith}
use borrow.Author.Tests.{lt-ltb, le-ltb, eqb-false}
use lib.Dec.{eqb, ltb}
use Rattle.binary.proofs.WordBits.{order}

abbrev pub up_to : {A : Type 0} → ℕ → (ℕ → A) → (ℕ → A) → ℕ → A
up_to i f g j = cond (ltb j i) (f j) (g j)

module _ {A : Type 0} (f g : ℕ → A) where
  pub up_below : (i j : ℕ) → j < i → up_to i f g j ≡ f j
  up_below i j l = rw (lt-ltb j i l)

  pub up_from : (i j : ℕ) → i ≤ j → up_to i f g j ≡ g j
  up_from i j l = rw (le-ltb j i l)

  -- Where the two are the same from i on up to i'.
  pub up_pass : (i i' : ℕ) → i ≤ i' → ((j : ℕ) → i ≤ j → j < i' → f j ≡ g j) → (j : ℕ) → up_to i f g j ≡ up_to i' f g j
  up_pass i i' a same j =
      ⊎_elim (λ (l : j < i). rw (lt-ltb j i l, lt-ltb j i' (omega arith)))
      (λ (l : i ≤ j). ⊎_elim (λ (m : j < i'). rw (le-ltb j i l, lt-ltb j i' m) (sym (same j l m))) (λ (m : i' ≤ j). rw (le-ltb j i l, le-ltb j i' m)) (order j i')) (order j i)

  -- One number on, at any other.
  pub up_on : (i j : ℕ) → eqb i j ≡ false → up_to (i + 1) f g j ≡ up_to i f g j
  up_on i j e =
      ⊎_elim (λ (l : j < i). rw (lt-ltb j i l, lt-ltb j (i + 1) (omega arith)))
      (λ (l : i ≤ j). rw (le-ltb j i l, le-ltb j (i + 1) (⊎_elim (λ (m : j < i + 1). absurd (eqb-false i j e (omega arith))) (λ (m : i + 1 ≤ j). m) (order j (i + 1))))) (order j i)
