-- A list filled from its start, one store a turn. Assumes nothing.
use mathlib.Core.Path.{◌≡◌, refl, ◌∙◌, subst}
use mathlib.Core.List.{List}
use Prim.Native.Nat.{ℕ, ◌+◌, ◌≤◌, ◌<◌}
use native.Mathlib.Nat.{le_antisymm}
use native.Mathlib.Decide.{ℕ_discrete}
use native.Mathlib.Omega.{arith}
use lib.ListN.{length, get_or, set, length-set}
use lib.Seq.{get_or-set_same, get_or-set_other}
use Rattle.lists.specs.Filled.{Filled}

pub fill_none : (f : ℕ → ℕ) (l : List ℕ) → Filled f 0 l l
fill_none f l = record { long = refl; first = λ q h. absurd (omega arith); rest = λ q h. refl }

pub fill_turn : (f : ℕ → ℕ) (i v : ℕ) (l l' : List ℕ) → Filled f i l l' → i < length l' → v ≡ f i → Filled f (i + 1) l (set l' i v)
fill_turn f i v l l' F h e =
    record {
      long = length-set l' i v ∙ F.long;
      first = λ q k. at q k (ℕ_discrete q i);
      rest = λ q k. get_or-set_other l' i q v 0 (omega arith) ∙ F.rest q (omega arith);
    }
  where
    at : (q : ℕ) → q < i + 1 → Dec (q ≡ i) → get_or (set l' i v) q 0 ≡ f q
    at q k (yes j) = rw j (get_or-set_same l' i v 0 h ∙ e)
    at q k (no j) = get_or-set_other l' i q v 0 j ∙ F.first q (omega arith)

pub fill_end : (f : ℕ → ℕ) (i n : ℕ) (l l' : List ℕ) → Filled f i l l' → i ≤ n → n ≤ i → Filled f n l l'
fill_end f i n l l' F h k = subst (λ (m : ℕ). Filled f m l l') (le_antisymm h k) F
