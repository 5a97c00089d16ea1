-- The answer, from the tests. Assumes nothing.
use mathlib.Core.Path.{◌≡◌, refl, sym, ◌∙◌, subst}
use mathlib.Core.Bool.{Bool, true, false, cond}
use mathlib.Core.List.{List}
use Prim.Native.Nat.{ℕ, ◌*◌, ◌≤◌}
use native.Mathlib.Omega.{arith}
use lib.ListN.{length}
use borrow.Author.Tests.{ltb-false}
use Rattle.bicycle_codes.specs.declared.Bicycle.{Bicycle}
use Rattle.bicycle_codes.specs.declared.Terms.{Terms}
use Rattle.bicycle_codes.specs.declared.BicycleRefusal.{BicycleRefusal}
use Rattle.bicycle_codes.specs.declared.BicycleRefusal.TheVariants.{Grid, Short}
use Rattle.std.proofs.Common.{Ok, Err}
use Rattle.bicycle_codes.specs.Bicycle.{BicycleAnswer, places, grid?, term?, short?, bicycle_answer, RowsIn, Writes}
use Rattle.bicycle_codes.specs.Writing.{Small, back, row_by, RowsPut}
use Rattle.bicycle_codes.proofs.Rows.{Good, Accepted, accepted}
use Rattle.bicycle_codes.proofs.Flat.{filled}

module _ (g : Bicycle) (long : ℕ) where
  pub on_grid : grid? g ≡ true → Err Grid ≡ bicycle_answer g long
  unfolding bicycle_answer
  on_grid e = rw e

  pub on_term : grid? g ≡ false → term? g ≡ true → Err BicycleRefusal.Term ≡ bicycle_answer g long
  unfolding bicycle_answer
  on_term e f = rw (e, f)

  pub on_short : grid? g ≡ false → term? g ≡ false → short? g long ≡ true → Err Short ≡ bicycle_answer g long
  unfolding bicycle_answer
  on_short e f h = rw (e, f, h)

  pub on_written : grid? g ≡ false → term? g ≡ false → short? g long ≡ false → Ok tt ≡ bicycle_answer g long
  unfolding bicycle_answer
  on_written e f h = rw (e, f, h)

  -- Only what is accepted is written.
  tested : bicycle_answer g long ≡ Ok tt → (grid? g ≡ false) × (term? g ≡ false) × (short? g long ≡ false)
  unfolding bicycle_answer
  tested = by (grid? g) (term? g) (short? g long)
    where
      by : (a b c : Bool) → cond a (Err Grid) (cond b (Err BicycleRefusal.Term) (cond c (Err Short) (Ok (tt {0})))) ≡ Ok (tt {0}) → (a ≡ false) × (b ≡ false) × (c ≡ false)
      by true b c e = let z : ◌≡◌ {A = ℕ} 0 1 = cc in absurd (omega arith)
      by false true c e = let z : ◌≡◌ {A = ℕ} 0 1 = cc in absurd (omega arith)
      by false false true e = let z : ◌≡◌ {A = ℕ} 0 1 = cc in absurd (omega arith)
      by false false false e = (refl, refl, refl)

-- An answer of the code that says so.
pub record Writable (g : Bicycle) (long : ℕ) : Type 0 where
  pub accepted : Accepted g
  pub small : Small g.l g.m
  pub room : 12 * places g ≤ long

pub writable : (g : Bicycle) (long : ℕ) (r : BicycleAnswer) → r ≡ bicycle_answer g long → r ≡ Ok tt → Writable g long
writable g long r e f =
    let z = tested g long (sym e ∙ f) in
    let v = accepted g z.0 z.1 in
    record { accepted = v; small = (v.grid.l, v.grid.m, omega (arith, v.small)); room = ltb-false long (12 * places g) z.2 }

-- Terms that are not refused lie in the grid.
pub terms_in : (g : Bicycle) (t : Terms) → Good g t → (t.p.a ≤ g.l) × (t.p.b ≤ g.m) × (t.q.a ≤ g.l) × (t.q.b ≤ g.m) × (t.r.a ≤ g.l) × (t.r.b ≤ g.m)
terms_in g t v = (omega (arith, v.p.a), omega (arith, v.p.b), omega (arith, v.q.a), omega (arith, v.q.b), omega (arith, v.r.a), omega (arith, v.r.b))

pub refused_writes : (g : Bicycle) (old : List ℕ) (r : BicycleAnswer) (n : BicycleRefusal) → r ≡ bicycle_answer g (length old) → r ≡ Err n → Writes g old old r
refused_writes g old r n e f = record { answer = e; rows = subst (λ (a : BicycleAnswer). RowsIn a g old old) (sym f ∙ e) refl }

pub writes : (g : Bicycle) (old mid new : List ℕ) (r : BicycleAnswer) (left right : Terms) → r ≡ bicycle_answer g (length old) → r ≡ Ok tt
    → RowsPut 0 (places g) (row_by g.l g.m g.first g.second) old mid → left ≡ back g.l g.m g.second → right ≡ back g.l g.m g.first
    → RowsPut (places g) (places g) (row_by g.l g.m left right) mid new → Writes g old new r
writes g old mid new r left right e f x i j z =
    record {
      answer = e;
      rows = subst (λ (a : BicycleAnswer). RowsIn a g old new) (sym f ∙ e) (filled g (writable g (length old) r e f).accepted.grid old mid new x (rw (i, j) at z));
    }
