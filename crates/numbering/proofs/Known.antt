-- The columns that are not lost, as the bits of words. Assumes nothing.
use mathlib.Core.Path.{◌≡◌, refl, sym, ap, ◌∙◌}
use mathlib.Core.Bool.{Bool, true, false, not, ◌&&◌, ◌||◌}
use mathlib.Core.Logic.{inl, inr, ⊎_elim}
use mathlib.Core.List.{List}
use Prim.Native.Nat.{ℕ, ◌+◌, ◌*◌, ◌/◌, ◌%◌, ◌^◌, ◌≤◌, ◌<◌}
use native.Mathlib.Omega.{arith}
use borrow.Author.Tests.{eq-eqb, ne_eqb, leb-true}
use lib.Bits.{bit_or}
use lib.Dec.{leb, ltb}
use lib.ListN.{length, length-set, get_or, set}
use lib.Seq.{get_or-set_same, get_or-set_other}
use Rattle.binary.specs.Words.{bit, listed}
use Rattle.binary.proofs.Bits.{and_out, never}
use Rattle.binary.proofs.WordBits.{order, bit_set, bit_zero}
use Rattle.lists.specs.Cleared.{Cleared}
use Rattle.columns.specs.Planes.{planes}
use Rattle.columns.specs.Columns.{untaken}
use Rattle.binary.proofs.Weights.{weigh_none}
use Rattle.numbering.specs.Numbering.{KnownWord, KnownSet, NumberedRows, startable?, Starts}

module _ (n k : ℕ) (lost : List ℕ) where
  pub known_none : KnownWord n k lost 0 0
  known_none = record { known = λ b h. absurd (omega arith); rest = λ b h. bit_zero b }

  module _ (e word : ℕ) (s : KnownWord n k lost e word) (r : Bool) (told : r ≡ (ltb (64 * k + e) n && not (listed n lost (64 * k + e)))) where
    known_more : (word' : ℕ) → bit word' e ≡ r → ((b : ℕ) → (b ≡ e → ⊥) → bit word' b ≡ bit word b) → KnownWord n k lost (e + 1) word'
    known_more word' here other =
        record {
          known = λ b h. ⊎_elim (λ (l : b < e). other b (λ d. omega arith) ∙ s.known b l) (λ (l : e ≤ b). let d : b ≡ e = omega arith in rw d (here ∙ told)) (order b e);
          rest = λ b h. other b (λ d. omega arith) ∙ s.rest b (omega arith);
        }

    pub known_yes : e < 64 → r ≡ true → KnownWord n k lost (e + 1) (bit_or word (1 * 2 ^ e % 2 ^ 64))
    known_yes h t =
        known_more (bit_or word (1 * 2 ^ e % 2 ^ 64)) (bit_set word e e h ∙ rw (eq-eqb e e refl, t) (or_one (bit word e)))
        (λ b d. bit_set word e b h ∙ rw (ne_eqb e b (λ x. d (sym x))) (or_none (bit word b)))
      where
        or_one : (x : Bool) → (x || true) ≡ true
        or_one true = refl
        or_one false = refl

        or_none : (x : Bool) → (x || false) ≡ x
        or_none true = refl
        or_none false = refl

    pub known_no : r ≡ false → KnownWord n k lost (e + 1) word
    known_no f = known_more word (s.rest e (omega arith) ∙ sym f) (λ b d. refl)

----------------------------------------------------------------------
-- The words of the list

module _ (n : ℕ) (lost m₀ : List ℕ) where
  pub set_none : KnownSet n 0 lost m₀ m₀
  set_none = record { long = refl; known = λ c h. absurd (omega arith); kept = λ k h. refl }

  pub set_more : (k : ℕ) (m : List ℕ) (word : ℕ) → KnownSet n k lost m₀ m → k < 16 → 10240 ≤ length m → KnownWord n k lost 64 word
      → KnownSet n (k + 1) lost m₀ (set m (8448 + k) word)
  unfolding untaken
  set_more k m word s h room w =
      record {
        long = length-set m (8448 + k) word ∙ s.long;
        known = λ c l. ⊎_elim
            (λ (g : c < 64 * k). ap (λ (x : ℕ). bit x (c % 64)) (get_or-set_other m (8448 + k) (8448 + c / 64) word 0 (λ e. omega arith)) ∙ s.known c g)
            (λ (g : 64 * k ≤ c). let d : c / 64 ≡ k = omega arith in
            let e : 64 * k + c % 64 ≡ c = omega arith in
            ap (λ (x : ℕ). bit (get_or (set m (8448 + k) word) (8448 + x) 0) (c % 64)) d
            ∙ ap (λ (x : ℕ). bit x (c % 64)) (get_or-set_same m (8448 + k) word 0 (omega arith))
            ∙ w.known (c % 64) (omega arith) ∙ ap (λ (x : ℕ). ltb x n && not (listed n lost x)) e)
            (order c (64 * k));
        kept = λ j l. get_or-set_other m (8448 + k) j word 0 (λ e. ⊎_elim (λ (p : j < 8448). omega arith) (λ (p : 8464 ≤ j). omega arith) l) ∙ s.kept j l;
      }

----------------------------------------------------------------------
-- The start

pub startable_out : (w rows n lost work : ℕ) → startable? w rows n lost work ≡ true → (w ≤ 16) × (rows ≤ 512) × (10240 ≤ work) × (n ≤ lost)
unfolding startable?
startable_out w rows n lost work t =
    let a = and_out _ (leb n lost) t in
    let b = and_out _ (leb 10240 work) a.0 in
    let d = and_out (leb w 16) (leb rows 512) b.0 in
    (leb-true w 16 d.0, leb-true rows 512 d.1, leb-true 10240 work b.1, leb-true n lost a.1)

pub not_started : (w rows n : ℕ) (lost m : List ℕ) → startable? w rows n (length lost) (length m) ≡ false → Starts w rows n lost m m
not_started w rows n lost m f = record { started = λ t. never t f; refused = λ _. refl }

-- The planes cleared, the untaken columns set, the rows counted.
pub all_started : (w rows n : ℕ) (lost m m₁ m₂ m' : List ℕ) → startable? w rows n (length lost) (length m) ≡ true
    → Cleared 8192 (8192 + 16 * w) m m₁ → KnownSet n w lost m₁ m₂ → NumberedRows w rows m₂ m' → Starts w rows n lost m m'
unfolding untaken planes
all_started w rows n lost m m₁ m₂ m' t a b d =
    record {
      started = λ _. record {
        long = d.long ∙ b.long ∙ a.long;
        kept = λ k h. d.kept k h ∙ b.kept k (inl (omega arith)) ∙ a.outside k (inl h);
        past = λ k h. d.stays k (omega arith) ∙ b.kept k (inr h) ∙ a.outside k (inr (omega (arith, (startable_out w rows n (length lost) (length m) t).0)));
        known = λ c h. ap (λ (x : ℕ). bit x (c % 64)) (d.stays (8448 + c / 64) (omega arith)) ∙ b.known c h;
        numbered = d.numbered (λ c h. weigh_none (λ p. 2 ^ p) 10 _ (λ p l. ap (λ (x : ℕ). bit x (c % 64))
            (b.kept (8192 + 16 * (c / 64) + p) (inl (omega (arith, (startable_out w rows n (length lost) (length m) t).0))) ∙ a.inside (8192 + 16 * (c / 64) + p) (omega arith) (omega arith)) ∙ bit_zero (c % 64)));
      };
      refused = λ f. never t f;
    }
