-- Rows of the code packed one after the other. Assumes nothing.
use mathlib.Core.Path.{◌≡◌, refl, sym, ap, ap₂, ◌∙◌, subst}
use mathlib.Core.Bool.{Bool, true, false, ◌&&◌}
use mathlib.Core.Logic.{inr}
use mathlib.Core.List.{List, [], ◌∷◌, ◌++◌}
use Prim.Native.Nat.{ℕ, zero, suc, ◌+◌, ◌*◌, ◌/◌, ◌%◌, ◌≤◌, ◌<◌, zero-le}
use native.Mathlib.Nat.{add-zero, suc-mul}
use native.Mathlib.Numerals.{add-one}
use native.Mathlib.Omega.{arith}
use lib.Dec.{leb}
use lib.ListN.{length, get_or}
use borrow.Author.Tests.{lt-ltb, le-leb, leb-true}
use Rattle.binary.specs.Meaning.{Row, has}
use Rattle.binary.specs.Words.{bit}
use Rattle.binary.proofs.Bits.{never, and_out}
use Rattle.binary.proofs.WordBits.{bit_zero}
use Rattle.lists.specs.Cleared.{Cleared}
use Rattle.packing.specs.Packed.{words_for, cell, room, Packed, Put}
use Rattle.packing.specs.Packing.{BitsSet}
use Rattle.packing.proofs.Rows.{few_words, apart}
use Rattle.packing.proofs.Put.{put_blank, packed_none, packed_more}
use Rattle.code.specs.Lists.{row_at, rows_from}
use Rattle.packing.specs.PackedRows.{room_for, RowsPut, PackedFrom}

pub rows_count : (flat ends : List ℕ) (r i : ℕ) → length (rows_from flat ends r i) ≡ i
rows_count flat ends r zero = refl
rows_count flat ends r (suc i) = ap suc (rows_count flat ends (suc r) i)

rows_more : (flat ends : List ℕ) (r i : ℕ) → rows_from flat ends r (suc i) ≡ rows_from flat ends r i ++ (row_at flat ends (r + i) ∷ [])
rows_more flat ends r zero = ap (λ (k : ℕ). row_at flat ends k ∷ []) (sym (add-zero r))
rows_more flat ends r (suc i) =
    let e : suc r + i ≡ r + suc i = omega arith in
    ap (row_at flat ends r ∷◌) (rows_more flat ends (suc r) i ∙ ap (λ (k : ℕ). rows_from flat ends (suc r) i ++ (row_at flat ends k ∷ [])) e)

room_in : (w i size : ℕ) → w ≤ 16 → i < 512 → 8192 ≤ size → room w i size ≡ true
unfolding room
room_in w i size a b d =
    let f = few_words (i + 1) w (omega arith) a in
    rw (le-leb w 16 a, lt-ltb i 512 b, le-leb ((i + 1) * w) size (omega arith))

-- The first i rows are packed, and the words of those up to `count` are clear.
pub record Packing (n : ℕ) (flat ends : List ℕ) (first count i : ℕ) (m : List ℕ) : Type 0 where
  pub packed : Packed n (words_for n) (rows_from flat ends first i) m
  pub clear : (k : ℕ) → i * words_for n ≤ k → k < count * words_for n → get_or m k 0 ≡ 0

pub packing_none : (n : ℕ) (flat ends : List ℕ) (first count j w : ℕ) (m m' : List ℕ) → j ≡ count → w ≡ words_for n → Cleared 0 (j * w) m m' → Packing n flat ends first count 0 m'
packing_none n flat ends first count j w m m' same words v =
    record { packed = packed_none n (words_for n) m'; clear = λ k h l. v.inside k zero-le (subst (λ (x : ℕ). k < x) (sym (ap₂ ◌*◌ same words)) l) }

module _ (n : ℕ) (flat ends : List ℕ) (first count i j w : ℕ) (row m m' : List ℕ) (place : j ≡ i) (words : w ≡ words_for n) (small : n ≤ 1024) (inside : i < count) (few : count ≤ 512) (long : 8192 ≤ length m)
    (s : Packing n flat ends first count i m) (is_row : row ≡ row_at flat ends (first + i)) (set : BitsSet w j (has row) m m') (same : length m' ≡ length m) where
  bits : BitsSet (words_for n) i (has row) m m'
  bits = subst (λ (x : ℕ). BitsSet x i (has row) m m') words (subst (λ (x : ℕ). BitsSet w x (has row) m m') place set)

  narrow : words_for n ≤ 16
  narrow = omega arith

  empty : (c : ℕ) → c < 64 * words_for n → cell m (words_for n) i c ≡ false
  unfolding cell
  empty c h =
      let next = apart (words_for n) i count inside in
      ap (λ (x : ℕ). bit x (c % 64)) (s.clear (i * words_for n + c / 64) (omega arith) (omega arith)) ∙ bit_zero (c % 64)

  put : Put (words_for n) (length (rows_from flat ends first i)) row m m' true
  put =
      subst (λ (k : ℕ). Put (words_for n) k row m m' true) (sym (rows_count flat ends first i))
      (put_blank (words_for n) i row m m' empty bits same (room_in (words_for n) i (length m) narrow (omega arith) long))

  pub pack_more : Packing n flat ends first count (i + 1) m'
  pack_more =
      record {
        packed =
            subst (λ (rs : List Row). Packed n (words_for n) rs m')
            (ap (λ (x : Row). rows_from flat ends first i ++ (x ∷ [])) is_row ∙ sym (rows_more flat ends first i) ∙ ap (rows_from flat ends first) (sym (add-one i)))
            (packed_more n (words_for n) (rows_from flat ends first i) row m m' (omega arith) s.packed put);
        clear = λ k h l.
            let past : i * words_for n + words_for n ≤ k = omega (arith, suc-mul i (words_for n), subst (λ (x : ℕ). x * words_for n ≤ k) (add-one i) h) in
            bits.kept k (inr past) ∙ s.clear k (omega arith) l;
      }

pub pack_end : (n : ℕ) (flat ends : List ℕ) (other others i : ℕ) (work work' : List ℕ) → length work' ≡ length work → i ≡ others
    → Packed n (words_for n) (rows_from flat ends other i) work' → RowsPut n flat ends other others work work'
pack_end n flat ends other others i work work' long e p =
    record { long = long; packed = subst (λ (k : ℕ). Packed n (words_for n) (rows_from flat ends other k) work') e p }

----------------------------------------------------------------------
-- Room

pub room_for_out : (n first count size : ℕ) → room_for n first count size ≡ true → (n ≤ 1024) × (count ≤ 512) × (first ≤ 512) × (8192 ≤ size)
unfolding room_for
room_for_out n first count size t =
    let a = and_out (leb n 1024 && leb count 512 && leb first 512) (leb 8192 size) t in
    let b = and_out (leb n 1024 && leb count 512) (leb first 512) a.0 in
    let d = and_out (leb n 1024) (leb count 512) b.0 in
    (leb-true n 1024 d.0, leb-true count 512 d.1, leb-true first 512 b.1, leb-true 8192 size a.1)

pub room_for_in : (n first count size : ℕ) → n ≤ 1024 → count ≤ 512 → first ≤ 512 → 8192 ≤ size → room_for n first count size ≡ true
unfolding room_for
room_for_in n first count size a b d e = rw (le-leb n 1024 a, le-leb count 512 b, le-leb first 512 d, le-leb 8192 size e)

module _ (n : ℕ) (flat ends : List ℕ) (first count : ℕ) (work : List ℕ) (r : Bool) (told : r ≡ room_for n first count (length work)) where
  pub all_put : (work' : List ℕ) → r ≡ true → RowsPut n flat ends first count work work' → PackedFrom n flat ends first count work work' r
  all_put work' t p = record { answer = told; put = λ _. p; refused = λ f. never t f }

  pub none_put : r ≡ false → PackedFrom n flat ends first count work work r
  none_put f = record { answer = told; put = λ t. never t f; refused = λ _. refl }
