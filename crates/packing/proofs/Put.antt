-- A row is put into the work list: its words are cleared, and its bits set one by one. Assumes nothing.
use mathlib.Core.Path.{◌≡◌, refl, sym, ap, ◌∙◌, subst}
use mathlib.Core.Bool.{true, false, ◌&&◌, ◌||◌, or_assoc, or-false, and-false}
use mathlib.Core.Logic.{◌⊎◌, ⊎_elim}
use mathlib.Core.List.{List, [], ◌∷◌, ◌++◌}
use Prim.Native.Nat.{ℕ, ◌+◌, ◌*◌, ◌/◌, ◌%◌, ◌≤◌, ◌<◌}
use native.Mathlib.Numerals.{add-one}
use native.Mathlib.Omega.{arith}
use borrow.Author.Tests.{le-leb, lt-leb, lt-ltb, le-ltb, leb-true}
use lib.Dec.{eqb, leb, ltb}
use lib.ListN.{length, get_or, drop, length-append, get_or-append}
use lib.Seq.{drop-cons, drop-length, get_or-append_seam}
use Rattle.binary.specs.Meaning.{Row, has}
use Rattle.binary.specs.Words.{bit}
use Rattle.packing.specs.Packed.{cell, Packed, room, Put}
use Rattle.packing.specs.Packing.{BitsSet}
use Rattle.binary.proofs.Bits.{never, and_out}
use Rattle.packing.proofs.Rows.{other_cells}
use Rattle.binary.proofs.WordBits.{order, bit_zero}
use Rattle.lists.specs.Cleared.{Cleared}

----------------------------------------------------------------------
-- Room

pub room_yes : (w i size : ℕ) → w ≤ 16 → i < 512 → (i + 1) * w ≤ size → room w i size ≡ true
unfolding room
room_yes w i size a b c = rw (le-leb w 16 a, lt-ltb i 512 b) (le-leb ((i + 1) * w) size c)

pub room_wide : (w i size : ℕ) → 16 < w → room w i size ≡ false
unfolding room
room_wide w i size h = rw (lt-leb w 16 h)

pub room_high : (w i size : ℕ) → 512 ≤ i → room w i size ≡ false
unfolding room
room_high w i size h = rw (le-ltb i 512 h, and-false (leb w 16))

pub room_short : (w i size : ℕ) → size < (i + 1) * w → room w i size ≡ false
unfolding room
room_short w i size h = rw (lt-leb ((i + 1) * w) size h) (and-false (leb w 16 && ltb i 512))

pub room_out : (w i size : ℕ) → room w i size ≡ true → (i + 1) * w ≤ size
unfolding room
room_out w i size t = leb-true ((i + 1) * w) size (and_out (leb w 16 && ltb i 512) (leb ((i + 1) * w) size) t).1

----------------------------------------------------------------------
-- The row

-- The first j qubits of the row are in.
pub record Setting (w i : ℕ) (row m₀ m : List ℕ) (j : ℕ) : Type 0 where
  pub cells : (c : ℕ) → c < 64 * w → (cell m w i c || has (drop j row) c) ≡ (cell m₀ w i c || has row c)
  pub kept : (k : ℕ) → (k < i * w) ⊎ (i * w + w ≤ k) → get_or m k 0 ≡ get_or m₀ k 0

pub set_start : (w i : ℕ) (row m : List ℕ) → Setting w i row m m 0
set_start w i row m = record { cells = λ c h. refl; kept = λ k h. refl }

pub set_more : (w i : ℕ) (row m₀ m m' : List ℕ) (j : ℕ) → j < length row → Setting w i row m₀ m j → BitsSet w i (eqb (get_or row j 0)) m m'
    → Setting w i row m₀ m' (j + 1)
set_more w i row m₀ m m' j l s b =
    record {
      cells = λ c h.
          ap (◌|| has (drop (j + 1) row) c) (b.cells c h)
          ∙ or_assoc (cell m w i c) (eqb (get_or row j 0) c) (has (drop (j + 1) row) c)
          ∙ ap (λ (k : ℕ). cell m w i c || (eqb (get_or row j 0) c || has (drop k row) c)) (add-one j)
          ∙ ap (λ (r : List ℕ). cell m w i c || has r c) (sym (drop-cons row j 0 l))
          ∙ s.cells c h;
      kept = λ k h. b.kept k h ∙ s.kept k h;
    }

pub set_end : (w i : ℕ) (row m₀ m : List ℕ) → Setting w i row m₀ m (length row) → BitsSet w i (has row) m₀ m
set_end w i row m₀ m s =
    record {
      cells = λ c h. sym (or-false (cell m w i c)) ∙ ap (λ (r : List ℕ). cell m w i c || has r c) (sym (drop-length row)) ∙ s.cells c h;
      kept = s.kept;
    }

emptied : (w i : ℕ) (m m' : List ℕ) → Cleared (i * w) (i * w + w) m m' → (c : ℕ) → c < 64 * w → cell m' w i c ≡ false
unfolding cell
emptied w i m m' s c h = ap (λ (x : ℕ). bit x (c % 64)) (s.inside (i * w + c / 64) (omega arith) (omega arith)) ∙ bit_zero (c % 64)

-- The bits of a row set where no bit was.
pub put_blank : (w i : ℕ) (row m m' : List ℕ) → ((c : ℕ) → c < 64 * w → cell m w i c ≡ false) → BitsSet w i (has row) m m' → length m' ≡ length m → room w i (length m) ≡ true
    → Put w i row m m' true
put_blank w i row m m' empty b l e =
    record {
      answer = sym e;
      size = l;
      cells = λ _ c h. b.cells c h ∙ ap (◌|| has row c) (empty c h);
      rest = λ _. b.kept;
      refused = λ t. never refl t;
    }

pub put_done : (w i : ℕ) (row m m' m'' : List ℕ) → Cleared (i * w) (i * w + w) m m' → BitsSet w i (has row) m' m'' → length m'' ≡ length m
    → room w i (length m) ≡ true → Put w i row m m'' true
put_done w i row m m' m'' s b l e =
    let p = put_blank w i row m' m'' (emptied w i m m' s) b (l ∙ sym s.long) (ap (room w i) s.long ∙ e) in
    record { answer = sym e; size = l; cells = p.cells; rest = λ t k h. p.rest t k h ∙ s.outside k h; refused = λ t. never refl t }

pub put_refused : (w i : ℕ) (row m : List ℕ) → room w i (length m) ≡ false → Put w i row m m false
put_refused w i row m e =
    record { answer = sym e; size = refl; cells = λ t. never t refl; rest = λ t. never t refl; refused = λ _. refl }

----------------------------------------------------------------------
-- Rows put one after the other

pub packed_none : (n w : ℕ) (m : List ℕ) → Packed n w [] m
packed_none n w m = record { fit = omega arith; cells = λ i q h. absurd (omega arith) }

pub packed_more : (n w : ℕ) (rows : List Row) (row m m' : List ℕ) → n ≤ 64 * w → Packed n w rows m → Put w (length rows) row m m' true
    → Packed n w (rows ++ row ∷ []) m'
packed_more n w rows row m m' wide s p =
    record {
      fit = rw (length-append rows (row ∷ []), p.size) (room_out w (length rows) (length m) (sym p.answer));
      cells = λ i q h l.
          let k : i < length rows + 1 = subst (λ (x : ℕ). i < x) (length-append rows (row ∷ [])) h in
          ⊎_elim
          (λ (g : i < length rows).
          other_cells w (length rows) m m' (p.rest refl) i q (λ e. omega arith) (omega arith) ∙ s.cells i q g l
          ∙ ap (λ (r : Row). has r q) (sym (get_or-append rows (row ∷ []) [] i g)))
          (λ (g : length rows ≤ i). let e : i ≡ length rows = omega arith in
          rw e (p.cells refl q (omega arith) ∙ ap (λ (r : Row). has r q) (sym (get_or-append_seam rows row [] []))))
          (order i (length rows));
    }
