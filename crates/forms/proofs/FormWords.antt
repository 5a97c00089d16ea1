-- The words of forms and of sides, and the forms that they make. Assumes nothing.
use mathlib.Core.Path.{◌≡◌, sym, ap, ap₂, ◌∙◌, fun_ext}
use mathlib.Core.Bool.{Bool, true, false, cond, ◌&&◌}
use mathlib.Core.Logic.{⊎_elim}
use mathlib.Core.List.{List}
use Prim.Native.Nat.{ℕ, suc, ◌+◌, ◌*◌, ◌/◌, ◌%◌, ◌^◌, ◌≤◌, ◌<◌}
use native.Mathlib.Numerals.{add-one}
use native.Mathlib.Omega.{arith}
use borrow.Author.Tests.{lt-ltb, le-ltb}
use lib.Dec.{eqb, ltb}
use lib.Bits.{bit_xor}
use lib.ListN.{length, get_or, drop, drop_of_length-le}
use lib.Seq.{drop-cons}
use Rattle.binary.specs.Bits.{◌⊕◌}
use Rattle.binary.specs.Meaning.{Row, Check, odd}
use Rattle.binary.specs.Words.{bit}
use Rattle.binary.proofs.Bits.{⊕_false, ⊕_assoc, &&_false}
use Rattle.binary.proofs.Rows.{odd_none}
use Rattle.binary.proofs.WordBits.{order, bit-bit_xor, bit_zero, bit_one, bit_past, both_digits, digits}
use Rattle.machine.specs.Machine.{side}
use Rattle.machine.specs.Lists.{form_of}
use Rattle.machine.proofs.FormWords.{form_in, form_out}
use Rattle.forms.specs.Words.{Words, joined, words_in, side_in}
use Rattle.forms.specs.Forms.{with_live}
use Rattle.forms.specs.Sides.{check, word_of, IsSideWord}

----------------------------------------------------------------------
-- The words of a form

pub words_in_lem : (forms : List ℕ) (q v j : ℕ) → v < 4 → words_in forms q v j ≡ bit (get_or forms (4 * q + v) 0) j
unfolding words_in
words_in_lem forms q v j l = rw (lt-ltb v 4 l)

pub words_out : (forms : List ℕ) (q v j : ℕ) → 4 ≤ v → words_in forms q v j ≡ false
unfolding words_in
words_out forms q v j l = rw (le-ltb v 4 l)

-- Elements that are the same hold the same words.
pub words_same : (a b : List ℕ) (q : ℕ) → ((v : ℕ) → v < 4 → get_or a (4 * q + v) 0 ≡ get_or b (4 * q + v) 0) → words_in a q ≡ words_in b q
words_same a b q h =
    fun_ext λ v. fun_ext λ j.
    ⊎_elim (λ (l : v < 4). words_in_lem a q v j l ∙ ap (λ (x : ℕ). bit x j) (h v l) ∙ sym (words_in_lem b q v j l))
    (λ (l : 4 ≤ v). words_out a q v j l ∙ sym (words_out b q v j l)) (order v 4)

-- A list of 64-bit words.
abbrev pub Wide : List ℕ → Type 0
Wide l = (i : ℕ) → get_or l i 0 < 2 ^ 64

pub words_narrow : (forms : List ℕ) → Wide forms → (q v j : ℕ) → 64 ≤ j → words_in forms q v j ≡ false
words_narrow forms wide q v j h =
    ⊎_elim (λ (l : v < 4). words_in_lem forms q v j l ∙ bit_past (get_or forms (4 * q + v) 0) 64 j (wide (4 * q + v)) h)
    (λ (l : 4 ≤ v). words_out forms q v j l) (order v 4)

pub form_joined : (forms : List ℕ) (q k : ℕ) → form_of forms q k ≡ joined (words_in forms q) k
form_joined forms q k =
    ⊎_elim (λ (l : k < 256). form_in forms q k l ∙ sym (words_in_lem forms q (k / 64) (k % 64) (omega arith)))
    (λ (l : 256 ≤ k). form_out forms q k l ∙ sym (words_out forms q (k / 64) (k % 64) (omega arith))) (order k 256)

pub joined_at : (w : Words) (v j : ℕ) → j < 64 → joined w (64 * v + j) ≡ w v j
joined_at w v j l = digits v j l w

----------------------------------------------------------------------
-- The words of a side

pub side_joined : (n live : ℕ) (forms : List ℕ) (c : Check) → side (with_live n forms live) c ≡ joined (side_in n forms c)
unfolding side_in
side_joined n live forms c =
    fun_ext λ k. ap₂ (λ (b : Bool) (f : ℕ → Bool). (c.lit && b) ⊕ odd f c.row) (sym (both_digits k 0)) (fun_ext λ q. ap (ltb q n &&◌) (form_joined forms q k))

-- Where a word is the same in the first n forms, so is that of a side.
pub side_same : (n : ℕ) (a b : List ℕ) (c : Check) (v j : ℕ) → ((q : ℕ) → q < n → words_in a q v j ≡ words_in b q v j) → side_in n a c v j ≡ side_in n b c v j
unfolding side_in
side_same n a b c v j h =
    ap (λ (f : ℕ → Bool). (c.lit && (eqb v 0 && eqb j 0)) ⊕ odd f c.row)
    (fun_ext λ q. ⊎_elim (λ (l : q < n). ap (ltb q n &&◌) (h q l)) (λ (l : n ≤ q). rw (le-ltb q n l)) (order q n))

-- Where no form has a bit, no side has, but for the constant.
pub side_none : (n : ℕ) (forms : List ℕ) (c : Check) (v j : ℕ) → (eqb v 0 && eqb j 0) ≡ false → ((q : ℕ) → q < n → words_in forms q v j ≡ false)
    → side_in n forms c v j ≡ false
unfolding side_in
side_none n forms c v j z h =
    ap₂ (λ (b : Bool) (f : ℕ → Bool). (c.lit && b) ⊕ odd f c.row) z
    (fun_ext λ q. ⊎_elim (λ (l : q < n). ap (ltb q n &&◌) (h q l) ∙ &&_false (ltb q n)) (λ (l : n ≤ q). rw (le-ltb q n l)) (order q n))
    ∙ ap₂ ◌⊕◌ (&&_false c.lit) (odd_none c.row)

----------------------------------------------------------------------
-- A word of a side, qubit by qubit

pub word_in : (n : ℕ) (forms : List ℕ) (v q : ℕ) → q < n → word_of n forms v q ≡ get_or forms (4 * q + v) 0
unfolding word_of
word_in n forms v q h = rw (lt-ltb q n h)

pub word_out : (n : ℕ) (forms : List ℕ) (v q : ℕ) → n ≤ q → word_of n forms v q ≡ 0
unfolding word_of
word_out n forms v q h = rw (le-ltb q n h)

word_bits : (n : ℕ) (forms : List ℕ) (v : ℕ) → v < 4 → (q j : ℕ) → bit (word_of n forms v q) j ≡ (ltb q n && words_in forms q v j)
word_bits n forms v l q j =
    ⊎_elim (λ (h : q < n). ap (λ (x : ℕ). bit x j) (word_in n forms v q h) ∙ sym (words_in_lem forms q v j l) ∙ rw (lt-ltb q n h))
    (λ (h : n ≤ q). ap (λ (x : ℕ). bit x j) (word_out n forms v q h) ∙ bit_zero j ∙ rw (le-ltb q n h)) (order q n)

abbrev word_at : ℕ → List ℕ → ℕ → ℕ → ℕ → Bool
word_at n forms v j q = ltb q n && words_in forms q v j

-- The word with what is left of the row makes the side's.
pub record SideLeft (n : ℕ) (forms : List ℕ) (c : Check) (v word i : ℕ) : Type 0 where
  pub bits : (j : ℕ) → bit word j ⊕ odd (word_at n forms v j) (drop i c.row) ≡ side_in n forms c v j

module _ (n : ℕ) (forms row : List ℕ) (lit : Bool) (v word : ℕ) where
  pub side_start : word ≡ cond (lit && eqb v 0) 1 0 → SideLeft n forms (check lit row) v word 0
  unfolding side_in
  side_start e = record { bits = λ j. ap (◌⊕ odd (word_at n forms v j) row) (ap (λ (x : ℕ). bit x j) e ∙ constant lit (eqb v 0) j) }
    where
      constant : (a b : Bool) (j : ℕ) → bit (cond (a && b) 1 0) j ≡ (a && (b && eqb j 0))
      constant true true j = bit_one j
      constant true false j = bit_zero j
      constant false b j = bit_zero j

  module _ (i : ℕ) (left : SideLeft n forms (check lit row) v word i) where
    pub side_turn : (form : ℕ) → v < 4 → i < length row → form ≡ word_of n forms v (get_or row i 0)
        → SideLeft n forms (check lit row) v (bit_xor word form) (i + 1)
    side_turn form within h e =
        record {
          bits = λ j. rw (add-one i) (ap (◌⊕ rest j) (bit-bit_xor word form j ∙ ap (bit word j ⊕◌) (ap (λ (x : ℕ). bit x j) e ∙ word_bits n forms v within q j))
              ∙ ⊕_assoc (bit word j) (word_at n forms v j q) (rest j)
              ∙ sym (ap (λ (l : Row). bit word j ⊕ odd (word_at n forms v j) l) (drop-cons row i 0 h)) ∙ left.bits j);
        }
      where
        q : ℕ
        q = get_or row i 0

        rest : ℕ → Bool
        rest j = odd (word_at n forms v j) (drop (suc i) row)

    pub side_end : length row ≤ i → IsSideWord n forms (check lit row) v word
    side_end h =
        record {
          bits = λ j. sym (⊕_false (bit word j)) ∙ sym (ap (λ (l : Row). bit word j ⊕ odd (word_at n forms v j) l) (drop_of_length-le row h)) ∙ left.bits j;
        }

-- A word that is 0.
pub side_zero : (n : ℕ) (forms : List ℕ) (c : Check) (v word : ℕ) → IsSideWord n forms c v word → word ≡ 0 → (j : ℕ) → side_in n forms c v j ≡ false
side_zero n forms c v word is e j = sym (is.bits j) ∙ ap (λ (x : ℕ). bit x j) e ∙ bit_zero j
