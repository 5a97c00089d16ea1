-- A shot begun. Assumes nothing.
use mathlib.Core.Path.{◌≡◌, refl, ◌∙◌}
use mathlib.Core.Bool.{true, false}
use mathlib.Core.Logic.{◌⊎◌, inl, inr}
use mathlib.Core.List.{List}
use Prim.Native.Nat.{ℕ, ◌+◌, ◌≤◌, ◌<◌}
use native.Mathlib.Omega.{arith}
use lib.ListN.{get_or}
use Rattle.binary.proofs.Bits.{never}
use Rattle.binary.proofs.WordBits.{order}
use Rattle.lists.specs.Cleared.{Cleared}
use Rattle.records.specs.declared.State.{State}
use Rattle.readout.specs.Readout.{Begun}

module _ (st : State) where
  pub begun_stale : (old mid new : List ℕ) → st.stale ≡ true → Cleared 0 st.sizes.n old mid
      → Cleared 1024 (1024 + (st.sizes.x + st.sizes.z)) mid new → Begun st old new
  begun_stale old mid new e d g =
      record {
        long = g.long ∙ d.long;
        still = λ f. never e f;
        qubits = λ t q h. both q h (order q 1024) (order q (1024 + (st.sizes.x + st.sizes.z)));
        rows = λ t r h. g.inside (1024 + r) (omega arith) (omega arith);
        rest = λ k h o. g.outside k o ∙ d.outside k (inr h);
      }
    where
      both : (q : ℕ) → q < st.sizes.n → (q < 1024) ⊎ (1024 ≤ q)
          → (q < 1024 + (st.sizes.x + st.sizes.z)) ⊎ (1024 + (st.sizes.x + st.sizes.z) ≤ q) → get_or new q 0 ≡ 0
      both q h (inl i) j = g.outside q (inl i) ∙ d.inside q (omega arith) h
      both q h (inr i) (inl j) = g.inside q i j
      both q h (inr i) (inr j) = g.outside q (inr j) ∙ d.inside q (omega arith) h

  pub begun_still : (l : List ℕ) → st.stale ≡ false → Begun st l l
  begun_still l e =
      record { long = refl; still = λ f. refl; qubits = λ t. never t e; rows = λ t. never t e; rest = λ k h o. refl }
