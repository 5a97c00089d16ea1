-- The numbers of a row as one of its qubits becomes open or is settled. Assumes nothing.
use mathlib.Core.Path.{◌≡◌, refl, sym, ap, ap₂, ◌∙◌, subst}
use mathlib.Core.Bool.{Bool, true, false}
use mathlib.Core.List.{List, [], ◌∷◌}
use Prim.Native.Nat.{ℕ, ◌+◌, ◌%◌, ◌<◌}
use native.Mathlib.Omega.{arith}
use lib.Dec.{eqb}
use lib.ListN.{length}
use borrow.Author.Tests.{eqb-true, eqb-false, eq-eqb, ne_eqb}
use Rattle.binary.specs.Bits.{◌⊕◌}
use Rattle.binary.specs.Meaning.{Qubits, Row, has, odd}
use Rattle.binary.proofs.Bits.{bit, never, ⊕_left_comm}
use Rattle.code.specs.Tests.{Distinct}
use Rattle.machine.specs.Machine.{put}
use Rattle.machine.specs.Lists.{digit}
use Rattle.kept.proofs.Lowering.{not_has, one_less_lem, summed_less}
use Rattle.kept.proofs.Raising.{same_open, one_more_lem, summed_more}
use Rattle.trying.specs.Entries.{Entry, entry_of, total, opened, settled}

pub same_entry : (a b : Entry) → a.number ≡ b.number → a.sum ≡ b.sum → a.parity ≡ b.parity → a ≡ b
same_entry a b d e f i = record { number = d i; sum = e i; parity = f i }

----------------------------------------------------------------------
-- Parities

odd_off : (x : Qubits) (p : ℕ) (b : Bool) (r : Row) → has r p ≡ false → odd (put p b x) r ≡ odd x r
odd_off x p b [] e = refl
odd_off x p b (q ∷ r) e =
    let other : eqb q p ≡ false = bit (eqb q p) (λ t. never (rw t) e) (λ t. t) in
    rw (ne_eqb p q (λ i. eqb-false q p other (sym i)), odd_off x p b r (rw other at e))

-- A qubit of the row that had no value.
odd_on : (x : Qubits) (p : ℕ) (b : Bool) (r : Row) → Distinct r → x p ≡ false → has r p ≡ true → odd (put p b x) r ≡ b ⊕ odd x r
odd_on x p b [] d f e = never e refl
odd_on x p b (q ∷ r) d f e =
    bit (eqb q p)
    (λ u. let s = eqb-true q p u in
    let gone : has r p ≡ false = subst (λ (y : ℕ). has r y ≡ false) s d.0 in
    rw (s, eq-eqb p p refl, f, odd_off x p b r gone))
    (λ u. rw (ne_eqb p q (λ i. eqb-false q p u (sym i)), odd_on x p b r d.1 f (rw u at e)) (⊕_left_comm (x q) b (odd x r)))

parity_on : (a : Bool) (v : ℕ) → v < 2 → (digit a % 2 + v) % 2 ≡ digit (eqb v 1 ⊕ a)
parity_on a v h =
    bit (eqb v 1) (λ e. let d = eqb-true v 1 e in rw d (one a))
    (λ e. let f = eqb-false v 1 e in let d : v ≡ 0 = omega arith in rw d (zero_more a))
  where
    one : (a : Bool) → (digit a % 2 + 1) % 2 ≡ digit (true ⊕ a)
    one true = refl
    one false = refl

    zero_more : (a : Bool) → (digit a % 2 + 0) % 2 ≡ digit a
    zero_more true = refl
    zero_more false = refl

pub same_digit : (a b : Bool) → digit a ≡ digit b → a ≡ b
same_digit true true e = refl
same_digit true false e = absurd (omega arith)
same_digit false true e = absurd (omega arith)
same_digit false false e = refl

----------------------------------------------------------------------
-- A qubit becomes open

module _ (o x : Qubits) (q : ℕ) (r : Row) (shut : o q ≡ false) where
  pub open_off : has r q ≡ false → entry_of o x r ≡ entry_of (put q true o) x r
  open_off e = sym (ap (λ (l : List ℕ). record { number = length l; sum = total l % 65536; parity = digit (odd x r) }) (same_open o q r shut e))

  pub open_on : Distinct r → has r q ≡ true → opened q (entry_of o x r) ≡ entry_of (put q true o) x r
  open_on d e =
      let more = summed_more (λ p. p) o q r d shut e in
      same_entry (opened q (entry_of o x r)) (entry_of (put q true o) x r) (omega (arith, one_more_lem o q r d shut e)) (omega (arith, more)) refl

----------------------------------------------------------------------
-- An open qubit is settled

module _ (o x : Qubits) (p v : ℕ) (r : Row) where
  pub settle_off : has r p ≡ false → entry_of o x r ≡ entry_of (put p false o) (put p (eqb v 1) x) r
  settle_off e =
      sym (ap₂ (λ (l : List ℕ) (b : Bool). record { number = length l; sum = total l % 65536; parity = digit b }) (not_has o p r e) (odd_off x p (eqb v 1) r e))

  pub settle_on : p < 65536 → v < 2 → Distinct r → o p ≡ true → x p ≡ false → has r p ≡ true
      → settled p v (entry_of o x r) ≡ entry_of (put p false o) (put p (eqb v 1) x) r
  settle_on small bound d t f e =
      let less = summed_less (λ q. q) o p r d t e in
      same_entry (settled p v (entry_of o x r)) (entry_of (put p false o) (put p (eqb v 1) x) r) (omega (arith, one_less_lem o p r d t e)) (omega (arith, less))
      (parity_on (odd x r) v bound ∙ ap digit (sym (odd_on x p (eqb v 1) r d f e)))
