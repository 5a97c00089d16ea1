-- A number flipped in a set. Assumes nothing.
use mathlib.Core.Path.{◌≡◌, refl, sym, ap, ap₂, ◌∙◌}
use mathlib.Core.Bool.{Bool, false, ◌&&◌}
use mathlib.Core.List.{List}
use Prim.Native.Nat.{ℕ, ◌+◌, ◌*◌, ◌/◌, ◌%◌, ◌^◌, ◌<◌}
use native.Mathlib.Omega.{arith}
use native.Mathlib.Decide.{ℕ_discrete}
use lib.Bits.{bit_xor}
use lib.Dec.{eqb}
use lib.ListN.{length, get_or, set, length-set}
use lib.Seq.{get_or-set_same, get_or-set_other}
use borrow.Author.Tests.{eq-eqb, eqb-true}
use Rattle.binary.specs.Bits.{◌⊕◌}
use Rattle.binary.specs.Words
use Rattle.binary.proofs.Bits.{⊕_false, and_out, bit, eqb_sym}
use Rattle.binary.proofs.WordBits.{bit_flipped, same_digit}
use Rattle.bitsets.specs.Bitsets.{in_set, Flipped}

module _ (s i : ℕ) (old : List ℕ) where
  abbrev at : ℕ
  at = 8 * s + i / 64

  abbrev word : ℕ
  word = bit_xor (get_or old at 0) (1 * 2 ^ (i % 64) % 2 ^ 64)

  apart : (t j : ℕ) → (8 * t + j / 64 ≡ at → ⊥) → (eqb t s && eqb j i) ≡ false
  apart t j e = bit (eqb t s && eqb j i)
      (λ u. let v = and_out (eqb t s) (eqb j i) u in let a = eqb-true t s v.0 in let b = eqb-true j i v.1 in absurd (e (omega arith)))
      (λ u. u)

  pub flip_done : i < 512 → at < length old → Flipped s i old (set old at word)
  unfolding in_set
  flip_done few inside =
      record {
        long = length-set old at word;
        flipped = λ a b t j h. by t j h (ℕ_discrete (8 * t + j / 64) at);
        rest = λ k h. get_or-set_other old at k word 0 (λ e. omega arith);
        beyond = λ k h. get_or-set_other old at k word 0 (λ e. omega arith);
      }
    where
      by : (t j : ℕ) → j < 512 → Dec (8 * t + j / 64 ≡ at) → in_set (set old at word) t j ≡ in_set old t j ⊕ (eqb t s && eqb j i)
      by t j h (yes e) =
          let same : t ≡ s = omega arith in
          let digit : eqb (i % 64) (j % 64) ≡ eqb j i = same_digit i j (omega arith) ∙ eqb_sym i j in
          ap (λ (x : ℕ). Words.bit (get_or (set old at word) x 0) (j % 64)) e ∙ ap (λ (x : ℕ). Words.bit x (j % 64)) (get_or-set_same old at word 0 inside) ∙ bit_flipped (get_or old at 0) (i % 64) (j % 64) (omega arith)
          ∙ ap₂ ◌⊕◌ (ap (λ (x : ℕ). Words.bit (get_or old x 0) (j % 64)) (sym e)) (digit ∙ ap (λ (b : Bool). b && eqb j i) (sym (eq-eqb t s same)))
      by t j h (no e) =
          ap (λ (x : ℕ). Words.bit x (j % 64)) (get_or-set_other old at (8 * t + j / 64) word 0 e)
          ∙ sym (ap (λ (b : Bool). in_set old t j ⊕ b) (apart t j e) ∙ ⊕_false (in_set old t j))

  pub flip_none : (i < 512 → at < length old → ⊥) → Flipped s i old old
  flip_none none = record { long = refl; flipped = λ a b. absurd (none a b); rest = λ k h. refl; beyond = λ k h. refl }
