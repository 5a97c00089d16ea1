-- Sizes in range and lists long enough. Assumes nothing.
use mathlib.Core.Path.{◌≡◌, refl, sym, ◌∙◌}
use mathlib.Core.Bool.{Bool, true, false, ◌&&◌}
use mathlib.Core.List.{List}
use Prim.Native.Nat.{ℕ, ◌+◌, ◌≤◌}
use lib.Dec.{leb}
use lib.ListN.{length}
use borrow.Author.Tests.{leb-true, le-leb}
use Rattle.binary.proofs.Bits.{never, and_out}
use Rattle.machine.specs.Machine.{is_open, best}
use Rattle.machine.specs.Lists.{view}
use Rattle.std.specs.Prelude.{Option, None}
use Rattle.code.specs.declared.Qubit.{Qubit}
use Rattle.scans.specs.Rows.{RowLists}
use Rattle.guessing.specs.Guessing.{WeighedRows, RenewedRows, WeighRoom, weighable?, Weighs, Renews, lighter, choice_of, namable?, heaviest}

module _ (n : ℕ) (r : RowLists) (work : List ℕ) (told : Bool) (tells : told ≡ weighable? n r work) where
  pub weigh_room : told ≡ true → WeighRoom n r work
  unfolding weighable?
  weigh_room t =
      let a = and_out (leb n 1024 && leb r.count 512 && leb (r.first + r.count) 1024) (leb 10240 (length work)) (sym tells ∙ t) in
      let b = and_out (leb n 1024 && leb r.count 512) (leb (r.first + r.count) 1024) a.0 in
      let d = and_out (leb n 1024) (leb r.count 512) b.0 in
      record { size = leb-true _ _ d.0; few = leb-true _ _ d.1; last = leb-true _ _ b.1; long = leb-true _ _ a.1 }

  pub weighs_made : told ≡ true → (work' : List ℕ) → WeighedRows n r work work' → Weighs n r work work'
  weighs_made t work' v = record { refused = λ f. never (sym tells ∙ t) f; weighs = λ u. v }

  pub weighs_not : told ≡ false → Weighs n r work work
  weighs_not f = record { refused = λ u. refl; weighs = λ t. never t (sym tells ∙ f) }

  pub renews_made : told ≡ true → (p : ℕ) (work' : List ℕ) → RenewedRows n r p work work' → Renews n r p work work'
  renews_made t p work' v = record { refused = λ f. never (sym tells ∙ t) f; renews = λ u. v }

  pub renews_not : told ≡ false → (p : ℕ) → Renews n r p work work
  renews_not f p = record { refused = λ u. refl; renews = λ t. never t (sym tells ∙ f) }

-- Of sizes in range and a list long enough.
pub does_weigh : (n : ℕ) (r : RowLists) (work : List ℕ) → WeighRoom n r work → weighable? n r work ≡ true
unfolding weighable?
does_weigh n r work w = rw (le-leb n 1024 w.size, le-leb r.count 512 w.few, le-leb (r.first + r.count) 1024 w.last, le-leb 10240 (length work) w.long)

module _ (n : ℕ) (marks work : List ℕ) (told : Bool) (tells : told ≡ namable? n marks work) where
  pub name_room : told ≡ true → (n ≤ 1024) × (n ≤ length marks) × (10240 ≤ length work)
  unfolding namable?
  name_room t =
      let a = and_out (leb n 1024 && leb n (length marks)) (leb 10240 (length work)) (sym tells ∙ t) in
      let b = and_out (leb n 1024) (leb n (length marks)) a.0 in
      (leb-true _ _ b.0, leb-true _ _ b.1, leb-true _ _ a.1)

  pub named : told ≡ true → (r : Option Qubit) → r ≡ choice_of (best (lighter work) n (is_open (view n marks))) → r ≡ heaviest n marks work
  unfolding heaviest
  named t r e = rw (← tells, t) e

  pub unnamed : told ≡ false → None ≡ heaviest n marks work
  unfolding heaviest
  unnamed f = rw (← tells, f) refl

-- Of sizes in range and lists long enough.
pub named_as : (n : ℕ) (marks work : List ℕ) (r : Option Qubit) → n ≤ 1024 → n ≤ length marks → 10240 ≤ length work → r ≡ heaviest n marks work
    → r ≡ choice_of (best (lighter work) n (is_open (view n marks)))
unfolding heaviest namable?
named_as n marks work r a b d e = e ∙ rw (le-leb n 1024 a, le-leb n (length marks) b, le-leb 10240 (length work) d)
