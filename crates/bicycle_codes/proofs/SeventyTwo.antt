-- The answer of the table: its sizes and terms are accepted. Assumes nothing.
use mathlib.Core.Path.{◌≡◌, refl, sym, ap, ◌∙◌, subst}
use mathlib.Core.List.{List, ◌++◌}
use native.Mathlib.Omega.{arith}
use Prim.Native.Nat.{ℕ, ◌+◌, ◌-◌, ◌≤◌, ◌<◌}
use lib.ListN.{length, get_or, drop, length-append, length-drop, get_or-append}
use lib.Seq.{get_or-append-add, get_or-drop}
use borrow.Author.Tests.{lt-ltb, le-ltb}
use Rattle.lists.specs.Filled.{Filled}
use Rattle.bicycle_codes.specs.declared.BicycleRefusal.TheVariants.{Short}
use Rattle.std.proofs.Common.{Ok, Err}
use Rattle.bicycle_codes.specs.Bicycle.{BicycleAnswer, x_row, z_row, forward, backward, flat_rows, RowsIn, Writes}
use Rattle.bicycle_codes.specs.Table.{code72}
use Rattle.bicycle_codes.proofs.Answers.{on_short, on_written}

flat_long : length (flat_rows code72) ≡ 432
unfolding flat_rows x_row z_row forward backward
flat_long = refl

pub short_table : (l : List ℕ) → length l < 432 → Writes code72 l l (Err Short)
short_table l h =
    let e = on_short code72 (length l) refl refl (lt-ltb (length l) 432 h) in
    record { answer = e; rows = subst (λ (a : BicycleAnswer). RowsIn a code72 l l) e refl }

-- The table's numbers before those that stay.
pub whole_table : (old part : List ℕ) → 432 ≤ length old → part ≡ flat_rows code72 → Writes code72 old (part ++ drop 432 old) (Ok tt)
whole_table old part h e =
    let w = on_written code72 (length old) refl refl (le-ltb (length old) 432 h) in
    record { answer = w; rows = subst (λ (a : BicycleAnswer). RowsIn a code72 old (part ++ drop 432 old)) w filled_lem }
  where
    many : length part ≡ 432
    many = ap length e ∙ flat_long

    filled_lem : Filled (λ k. get_or (flat_rows code72) k 0) 432 old (part ++ drop 432 old)
    filled_lem =
        record {
          long = omega (arith, many, length-append part (drop 432 old), length-drop 432 old);
          first = λ q k. get_or-append part (drop 432 old) 0 q (omega (arith, many)) ∙ ap (λ (l : List ℕ). get_or l q 0) e;
          rest = λ q k.
              let at : length part + (q - 432) ≡ q = omega (arith, many) in
              let back : 432 + (q - 432) ≡ q = omega arith in
              ap (λ (i : ℕ). get_or (part ++ drop 432 old) i 0) (sym at) ∙ get_or-append-add part (drop 432 old) (q - 432) 0 ∙ get_or-drop 432 old (q - 432) 0
              ∙ ap (λ (i : ℕ). get_or old i 0) back;
        }
