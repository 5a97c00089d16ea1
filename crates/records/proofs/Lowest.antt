-- Tests that are listed by number: the first that passes has the lowest number. Assumes nothing.
use mathlib.Core.Path.{◌≡◌, refl, sym, ap}
use mathlib.Core.Bool.{Bool, true, false, cond}
use mathlib.Core.Option.{Option, none, some}
use mathlib.Core.List.Memᴰ
use mathlib.Core.List.{List, [], ◌∷◌}
use mathlib.Core.Logic.{⊎_elim}
use Prim.Native.Nat.{ℕ, ◌≤◌}
use native.Mathlib.Nat.{le_refl, le_trans}
use Rattle.binary.proofs.Bits.{never}
use Rattle.records.specs.Lowest.{lowest, Applies, LowestNumber, Numbered}

module _ {R : Type 0} (number : R → ℕ) where
  -- The numbers ascend, from a number on.
  abbrev pub From : ℕ → List (R × Bool) → Type 0
  From b [] = Unit {0}
  From b (t ∷ ts) = (b ≤ number t.0) × From (number t.0) ts

  no_lower : (b : ℕ) (ts : List (R × Bool)) → From b ts → (m : R) → Applies ts m → b ≤ number m
  no_lower b [] f m h = absurd (Memᴰ.not-nil h)
  no_lower b (t ∷ ts) f m h =
      ⊎_elim (λ (e : (m, true) ≡ t). rw (ap (λ (u : R × Bool). u.0) e) f.0)
      (λ (i : Applies ts m). le_trans f.0 (no_lower (number t.0) ts f.1 m i)) (Memᴰ.cases_cons h)

  -- A test that fails is no refusal's that applies.
  later : (t : R × Bool) (ts : List (R × Bool)) → t.1 ≡ false → (m : R) → Applies (t ∷ ts) m → Applies ts m
  later t ts e m h = ⊎_elim (λ (i : (m, true) ≡ t). never (sym (ap (λ (u : R × Bool). u.1) i)) e) (λ i. i) (Memᴰ.cases_cons h)

  pub numbered : (b : ℕ) (ts : List (R × Bool)) → From b ts → Numbered number ts (lowest ts)
  numbered b [] f = λ m h. Memᴰ.not-nil h
  numbered b (t ∷ ts) f = by t.1 refl (numbered (number t.0) ts f.1)
    where
      first : t.1 ≡ true → LowestNumber number (t ∷ ts) t.0
      first e = record {
        applies = rw (← e) (Memᴰ.head refl);
        least = λ m h. ⊎_elim (λ (i : (m, true) ≡ t). rw (ap (λ (u : R × Bool). u.0) i) (le_refl (number t.0)))
            (λ (i : Applies ts m). no_lower (number t.0) ts f.1 m i) (Memᴰ.cases_cons h);
      }

      more : t.1 ≡ false → (n : Option R) → Numbered number ts n → Numbered number (t ∷ ts) n
      more e none h = λ m i. h m (later t ts e m i)
      more e (some n) h = record { applies = Memᴰ.tail h.applies; least = λ m i. h.least m (later t ts e m i) }

      by : (c : Bool) → t.1 ≡ c → Numbered number ts (lowest ts) → Numbered number (t ∷ ts) (cond c (some t.0) (lowest ts))
      by true e h = first e
      by false e h = more e (lowest ts) h
