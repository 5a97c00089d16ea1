-- What is read of the lists: starts, parts and ranges of rows. Assumes nothing.
use mathlib.Core.Path.{◌≡◌, refl, sym, ap, ◌∙◌}
use mathlib.Core.Logic.{◌⊎◌, ⊎_elim}
use mathlib.Core.List.{List, [], ◌∷◌}
use Prim.Native.Nat.{ℕ, zero, suc, ◌+◌, ◌-◌, ◌<◌, ◌≤◌}
use native.Mathlib.Nat.{sub-zero, suc-sub-suc, zero-sub}
use native.Mathlib.Numerals.{add-one}
use native.Mathlib.Omega.{arith}
use borrow.Author.Tests.{le-leb, lt-leb}
use lib.Dec.{leb}
use lib.ListN.{length, get_or, take, drop}
use lib.Seq.{take-nil}
use Rattle.std.proofs.Common.{Bor}
use Rattle.std.specs.List.{slice_range}
use Rattle.std.specs.Option.{MatchOption, unwrap_or}
use Rattle.std.specs.declared.option.Option.{Option}
use Rattle.std.specs.declared.option.Option.TheVariants.{None, Some}
use Rattle.binary.proofs.Bits.{bit}
use Rattle.code.specs.Lists.{start_of, row_at, rows_between}

----------------------------------------------------------------------
-- Starts

pub start_first : (ends : List ℕ) (r : ℕ) → r ≡ 0 → 0 ≡ start_of ends r
unfolding start_of
start_first ends r e = rw e

pub start_later : (ends : List ℕ) (r s : ℕ) → (r ≡ 0 → ⊥) → s ≡ get_or ends (r - 1) 0 → s ≡ start_of ends r
unfolding start_of
start_later ends zero s h e = absurd (h refl)
start_later ends (suc r) s h e = e ∙ ap (λ (k : ℕ). get_or ends k 0) (omega arith)

----------------------------------------------------------------------
-- Parts

-- The part from s up to e, as a slice of the code and as the definition says it.
part_is : (l : List ℕ) (s e : ℕ) → take (e - s) (drop s l) ≡ drop s (take e l)
part_is l zero e = rw sub-zero
part_is [] (suc s) e = take-nil (e - suc s) ∙ sym (ap (drop (suc s)) (take-nil e))
part_is (x ∷ l) (suc s) zero = rw zero-sub
part_is (x ∷ l) (suc s) (suc e) = rw suc-sub-suc (part_is l s e)

part_none : (l : List ℕ) (s e : ℕ) → e ≤ s → drop s (take e l) ≡ []
part_none l s e h = let none : e - s ≡ 0 = omega arith in rw (← (part_is l s e), none)

module _ (flat ends : List ℕ) (r s e : ℕ) (starts : s ≡ start_of ends r) (stops : e ≡ get_or ends r 0) where
  pub row_within : e ≤ length flat → drop s (take e flat) ≡ row_at flat ends r
  unfolding row_at
  row_within h = rw (← starts, ← stops, le-leb e (length flat) h)

  row_part : e ≤ length flat → take (e - s) (drop s flat) ≡ row_at flat ends r
  row_part h = part_is flat s e ∙ row_within h

  row_before : e < s → [] ≡ row_at flat ends r
  unfolding row_at
  row_before h =
      rw (← starts, ← stops) (bit (leb e (length flat)) (λ t. rw t (sym (part_none flat s e (omega arith)))) (λ t. rw t))

  row_past : length flat < e → [] ≡ row_at flat ends r
  unfolding row_at
  row_past h = rw (← stops, lt-leb e (length flat) h)

  -- The part, if there is one.
  pub row_got : (o : Option (Bor (List ℕ))) (none : Bor (List ℕ)) → none.now ≡ []
      → MatchOption o ((e < s) ⊎ (length flat < e)) (λ part. (s ≤ e) × (e ≤ length flat) × (part.now ≡ slice_range flat s e) × (length part.now + s ≡ e))
      → (unwrap_or o none).now ≡ row_at flat ends r
  row_got None none n m = n ∙ ⊎_elim row_before row_past m
  row_got (Some part) none n m = m.2 ∙ row_part m.1

----------------------------------------------------------------------
-- Ranges

pub between_turn : (flat ends : List ℕ) (r to : ℕ) → r < to
    → rows_between flat ends r to ≡ row_at flat ends r ∷ rows_between flat ends (r + 1) to
unfolding rows_between
between_turn flat ends r to h =
    let more : to - r ≡ suc (to - suc r) = omega arith in rw (add-one r, more)

pub between_none : (flat ends : List ℕ) (r to : ℕ) → to ≤ r → rows_between flat ends r to ≡ []
unfolding rows_between
between_none flat ends r to h = let none : to - r ≡ 0 = omega arith in rw none
