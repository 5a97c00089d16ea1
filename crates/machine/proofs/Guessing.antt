-- The guess rule names an open qubit, if there is one. Assumes nothing.
use mathlib.Core.Path.{◌≡◌, refl}
use mathlib.Core.Bool.{Bool, true, false, cond}
use mathlib.Core.Logic.{⊎_elim}
use mathlib.Core.Option.{Option, none, some}
use Prim.Native.Nat.{ℕ, zero, suc, ◌<◌}
use native.Mathlib.Nat.{not-suc-le-zero, le_of_suc-le-suc, eq-or-lt_of_le}
use Rattle.binary.specs.Meaning.{Qubits}
use Rattle.binary.proofs.Bits.{never}
use Rattle.machine.specs.Machine.{better, best}
use Rattle.machine.proofs.Runs.{Rule}

best_open : (behind : ℕ → ℕ → Bool) (n : ℕ) (o : Qubits) (p : ℕ) → best behind n o ≡ some p → o p ≡ true
best_open behind zero o p e = cc
best_open behind (suc n) o p e = look (o n) (best behind n o) refl (best_open behind n o) p e
  where
    look : (b : Bool) (r : Option ℕ) → o n ≡ b → ((i : ℕ) → r ≡ some i → o i ≡ true) → (i : ℕ) → better b behind n r ≡ some i → o i ≡ true
    look false r t h i j = h i j
    look true none t h i j = let z : n ≡ i = cc in rw (← z) t
    look true (some k) t h i j = pick (behind k n) j
      where
        pick : (b : Bool) → cond b (some n) (some k) ≡ some i → o i ≡ true
        pick true u = let z : n ≡ i = cc in rw (← z) t
        pick false u = h i u

best_none : (behind : ℕ → ℕ → Bool) (n : ℕ) (o : Qubits) → best behind n o ≡ none → (q : ℕ) → q < n → o q ≡ false
best_none behind zero o e q l = absurd (not-suc-le-zero l)
best_none behind (suc n) o e q l =
    let z = look (o n) (best behind n o) refl e in
    ⊎_elim (λ (i : q ≡ n). rw i z.0) (λ (i : q < n). best_none behind n o z.1 q i) (eq-or-lt_of_le (le_of_suc-le-suc l))
  where
    look : (b : Bool) (r : Option ℕ) → o n ≡ b → better b behind n r ≡ none → (o n ≡ false) × (r ≡ none)
    look false r t u = (t, u)
    look true none t u = let z : ◌≡◌ {A = Bool} true false = cc in never refl z
    look true (some k) t u = pick (behind k n) u
      where
        pick : (b : Bool) → cond b (some n) (some k) ≡ none → (o n ≡ false) × (some k ≡ none)
        pick true v = let z : ◌≡◌ {A = Bool} true false = cc in never refl z
        pick false v = let z : ◌≡◌ {A = Bool} true false = cc in never refl z

-- Whatever it compares by, of the open qubits.
pub best_rule : (behind : Qubits → ℕ → ℕ → Bool) (n : ℕ) → Rule n (λ o. best (behind o) n o)
best_rule behind n = record { names_open = λ o. best_open (behind o) n o; names_one = λ o. best_none (behind o) n o }
