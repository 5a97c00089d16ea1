-- The shortest untaken column, taken. Assumes nothing.
use mathlib.Core.Path.{◌≡◌, refl, sym, ap, ap₂, ◌∙◌}
use mathlib.Core.Bool.{Bool, true, false, not, ◌&&◌}
use mathlib.Core.Logic.{⊎_elim}
use mathlib.Core.List.{List}
use Prim.Native.Nat.{ℕ, ◌+◌, ◌*◌, ◌/◌, ◌%◌, ◌^◌, ◌≤◌, ◌<◌}
use native.Mathlib.Omega.{arith}
use native.Mathlib.Decide.{ℕ_discrete}
use borrow.Author.Tests.{leb-true, eqb-true}
use lib.Bits.{bit_xor}
use lib.Dec.{eqb, leb}
use lib.ListN.{length, get_or, set, length-set}
use lib.Seq.{get_or-set_same, get_or-set_other}
use Rattle.binary.specs.Bits.{◌⊕◌}
use Rattle.binary.specs.Words.{bit}
use Rattle.binary.proofs.Bits.{never, and_out, ⊕_false, eqb_differ}
use Rattle.binary.proofs.WordBits.{bit_flipped, same_digit}
use Rattle.columns.specs.Columns.{untaken}
use Rattle.choosing.specs.declared.Shortest.{Shortest}
use Rattle.choosing.specs.Choosing.{ShortestOf, room?, Takes}

pub room_out : (len w : ℕ) → room? len w ≡ true → (w ≤ 16) × (10240 ≤ len)
unfolding room?
room_out len w e = let a = and_out (leb w 16) (leb 10240 len) e in (leb-true w 16 a.0, leb-true 10240 len a.1)

pub takes_refused : (w : ℕ) (m : List ℕ) → room? (length m) w ≡ false → Takes w m m (record { column = 0; rows = 1024 })
takes_refused w m e =
    record {
      long = refl;
      shortest = λ i. never i e;
      taken = λ i. never i e;
      kept = λ k h. refl;
      none = λ i. refl;
      refused = λ i. (refl, refl);
    }

module _ (w : ℕ) (m : List ℕ) (r : Shortest) (room : room? (length m) w ≡ true) (s : ShortestOf w m r.column r.rows) where
  -- No column is untaken.
  pub takes_none : 1024 ≤ r.rows → Takes w m m r
  takes_none h =
      record {
        long = refl;
        shortest = λ i. s;
        taken = λ i l. absurd (omega arith);
        kept = λ k i. refl;
        none = λ i. refl;
        refused = λ i. never room i;
      }

  abbrev at : ℕ
  at = 8448 + r.column / 64

  abbrev word : ℕ
  word = bit_xor (get_or m at 0) (1 * 2 ^ (r.column % 64) % 2 ^ 64)

  module _ (h : r.rows < 1024) where
    inside : at < 8464
    inside = omega (arith, (room_out (length m) w room).0, (s.found h).0)

    pub in_list : at < length m
    in_list = omega (arith, inside, (room_out (length m) w room).1)

    -- The column is turned over, and it alone.
    turned : (c : ℕ) → Dec (c / 64 ≡ r.column / 64) → untaken (set m at word) c ≡ untaken m c ⊕ eqb r.column c
    unfolding untaken
    turned c (yes e) =
        ap (λ (x : ℕ). bit (get_or (set m at word) (8448 + x) 0) (c % 64)) e ∙ ap (λ (x : ℕ). bit x (c % 64)) (get_or-set_same m at word 0 in_list)
        ∙ bit_flipped (get_or m at 0) (r.column % 64) (c % 64) (omega arith)
        ∙ ap₂ ◌⊕◌ (ap (λ (x : ℕ). bit (get_or m (8448 + x) 0) (c % 64)) (sym e)) (same_digit r.column c e)
    turned c (no e) =
        ap (λ (x : ℕ). bit x (c % 64)) (get_or-set_other m at (8448 + c / 64) word 0 (λ i. e (omega arith)))
        ∙ sym (ap (λ (x : Bool). untaken m c ⊕ x) (eqb_differ r.column c (λ i. e (omega arith))) ∙ ⊕_false (untaken m c))

    -- A bit that is 1 is 0 when turned over.
    cleared : (x y : Bool) → (y ≡ true → x ≡ true) → x ⊕ y ≡ (x && not y)
    cleared true true f = refl
    cleared true false f = refl
    cleared false true f = sym (f refl)
    cleared false false f = refl

    pub takes_one : Takes w m (set m at word) r
    takes_one =
        record {
          long = length-set m at word;
          shortest = λ i. s;
          taken = λ i l c. turned c (ℕ_discrete (c / 64) (r.column / 64))
              ∙ cleared (untaken m c) (eqb r.column c) (λ e. ap (untaken m) (sym (eqb-true r.column c e)) ∙ (s.found h).1);
          kept = λ k i. get_or-set_other m at k word 0 (λ e. let l = inside in ⊎_elim (λ (g : k < 8448). omega arith) (λ (g : 8464 ≤ k). omega arith) i);
          none = λ i. absurd (omega arith);
          refused = λ i. never room i;
        }
