-- The refusal that is given (document 01, "Records": "The lowest number that applies is given"), over the refusals that a call may meet, each with its test.
--   lowest        the first whose test passes
--   Applies       a refusal among them passes its test
--   LowestNumber  it applies, and none of a lower number does; Numbered: the same, or where none is given, none applies
use Rattle.std.specs.Prelude.{Bool, true, cond, ℕ, ◌≤◌}
use Rattle.std.proofs.Math.Option.{Option, none, some}
use mathlib.Core.List.{List, [], ◌∷◌, Memᴰ}

abbrev pub lowest : {R : Type 0} → List (R × Bool) → Option R
lowest [] = none
lowest (t ∷ ts) = cond t.1 (some t.0) (lowest ts)

abbrev pub Applies : {R : Type 0} → List (R × Bool) → R → Type 0
Applies ts n = Memᴰ (n, true) ts

pub record LowestNumber {R : Type 0} (number : R → ℕ) (ts : List (R × Bool)) (n : R) : Type 0 where
  pub applies : Applies ts n
  pub least : (m : R) → Applies ts m → number n ≤ number m

abbrev pub Numbered : {R : Type 0} → (R → ℕ) → List (R × Bool) → Option R → Type 0
Numbered {R} number ts (some n) = LowestNumber number ts n
Numbered {R} number ts none = (m : R) → Applies ts m → ⊥
