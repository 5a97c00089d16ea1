-- The words of a form and its bits. Assumes nothing.
use mathlib.Core.Path.{◌≡◌, sym, ap, ap₂, ◌∙◌}
use mathlib.Core.Bool.{false}
use mathlib.Core.Logic.{⊎_elim}
use mathlib.Core.List.{List}
use Prim.Native.Nat.{ℕ, ◌+◌, ◌*◌, ◌/◌, ◌%◌, ◌≤◌, ◌<◌}
use native.Mathlib.Omega.{arith}
use lib.Dec.{eqb, leb}
use lib.ListN.{get_or}
use borrow.Author.Tests.{lt-ltb, le-ltb, le-leb, leb-true}
use Rattle.binary.specs.Words.{bit}
use Rattle.binary.proofs.Bits.{iff_eq}
use Rattle.binary.proofs.WordBits.{order, parity, bit_past, bits_none, digits}
use Rattle.binary.proofs.NumberBits.{bit_first}
use Rattle.machine.specs.Report.{Shown, outcome}
use Rattle.machine.specs.Lists.{form_of, digit}
use Rattle.machine.specs.Demands.{ReachLaw}
use Rattle.machine.specs.OneWord.{OneWordLaw}
use Rattle.machine.proofs.Demands.{reach}

module _ (forms : List ℕ) (q : ℕ) where
  pub form_in : (k : ℕ) → k < 256 → form_of forms q k ≡ bit (get_or forms (4 * q + k / 64) 0) (k % 64)
  unfolding form_of
  form_in k l = rw (lt-ltb k 256 l)

  pub form_out : (k : ℕ) → 256 ≤ k → form_of forms q k ≡ false
  unfolding form_of
  form_out k l = rw (le-ltb k 256 l)

  -- Bit j of word v.
  pub form_at : (v j : ℕ) → v < 4 → j < 64 → form_of forms q (64 * v + j) ≡ bit (get_or forms (4 * q + v) 0) j
  form_at v j h l = form_in (64 * v + j) (omega arith) ∙ digits v j l (λ x y. bit (get_or forms (4 * q + x) 0) y)

  -- The first word has the first 64 bits.
  pub form_first : (k : ℕ) → k < 64 → form_of forms q k ≡ bit (get_or forms (4 * q) 0) k
  form_first k l =
      let a : 4 * q + k / 64 ≡ 4 * q = omega arith in
      let b : k % 64 ≡ k = omega arith in
      form_in k (omega arith) ∙ ap₂ (λ (x y : ℕ). bit (get_or forms x 0) y) a b

-- A rest of 2 as an element, and that of a word: its first bit.
pub rest_digit : (n : ℕ) → n % 2 ≡ digit (eqb (n % 2) 1)
rest_digit n = ⊎_elim (λ e. rw e) (λ e. rw e) (parity n)

pub first_digit : (n : ℕ) → n % 2 ≡ digit (bit n 0)
first_digit n = rest_digit n ∙ ap digit (sym (bit_first n))

-- Where no bit from 64 on is set, the first word is the form.
pub one_word : OneWordLaw
unfolding OneWordLaw ReachLaw
one_word h budget limit few old new s = record { marks = s.marks; first = first; others = others; correction = s.correction }
  where
    o : Shown
    o = outcome h budget limit

    past : (q k : ℕ) → 64 ≤ k → o.form q k ≡ false
    past q k l = let r = reach h budget limit in let m = r.live in r.forms q k (omega arith)

    first : (q : ℕ) → q < h.size → (k : ℕ) → bit (get_or new.forms (4 * q) 0) k ≡ o.form q k
    first q i k =
        ⊎_elim (λ (l : k < 64). sym (form_first new.forms q k l) ∙ s.forms q i k) (λ (l : 64 ≤ k). bit_past (get_or new.forms (4 * q) 0) 64 k (s.words (4 * q) (omega arith)) l ∙ sym (past q k l)) (order k 64)

    others : (q : ℕ) → q < h.size → (v : ℕ) → 1 ≤ v → v < 4 → get_or new.forms (4 * q + v) 0 ≡ 0
    others q i v a b = bits_none (get_or new.forms (4 * q + v) 0) (s.words (4 * q + v) (omega arith)) each
      where
        each : (j : ℕ) → bit (get_or new.forms (4 * q + v) 0) j ≡ false
        each j =
            ⊎_elim (λ (l : j < 64). sym (form_at new.forms q v j b l) ∙ s.forms q i (64 * v + j) ∙ past q (64 * v + j) (omega arith))
            (λ (l : 64 ≤ j). bit_past (get_or new.forms (4 * q + v) 0) 64 j (s.words (4 * q + v) (omega arith)) l) (order j 64)

-- Room for four words a qubit, by a quotient that no n makes too large.
pub four_words : (n long : ℕ) → leb n (long / 4) ≡ leb (4 * n) long
four_words n long =
    iff_eq (leb n (long / 4)) (leb (4 * n) long) (λ t. let l = leb-true n (long / 4) t in le-leb (4 * n) long (omega arith))
    (λ t. let l = leb-true (4 * n) long t in le-leb n (long / 4) (omega arith))
