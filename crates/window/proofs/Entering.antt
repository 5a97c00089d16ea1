-- A report entered. Assumes nothing.
use mathlib.Core.Path.{◌≡◌, refl, ap, ◌∙◌}
use mathlib.Core.Logic.{inl, inr, ⊎_elim}
use mathlib.Core.List.{List}
use Prim.Native.Nat.{ℕ, ◌+◌, ◌*◌, ◌%◌, ◌≤◌, ◌<◌}
use native.Mathlib.Omega.{arith}
use borrow.Author.Tests.{lt-ltb, le-ltb}
use lib.ListN.{length}
use Rattle.records.specs.declared.Report.{Report}
use Rattle.records.specs.Window.{place_of, entry_from, Entered}
use Rattle.window.specs.Entering.{HalfIn, Enters}

module _ (m : ℕ) (r : Report) (old : List ℕ) where
  module _ (mid new : List ℕ) (wide : 2560 ≤ length old) (x : HalfIn (10 * (m % 256)) r.x old mid) (z : HalfIn (10 * (m % 256) + 5) r.z mid new) where
    -- The Z half leaves the elements of the X half.
    x_stays : entry_from (10 * (m % 256)) new ≡ entry_from (10 * (m % 256)) mid
    x_stays t =
        record {
          word = z.rest (10 * (m % 256)) (inl (omega arith)) t;
          fixed = z.rest (10 * (m % 256) + 1) (inl (omega arith)) t;
          turns = z.rest (10 * (m % 256) + 2) (inl (omega arith)) t;
          guesses = z.rest (10 * (m % 256) + 3) (inl (omega arith)) t;
          live = z.rest (10 * (m % 256) + 4) (inl (omega arith)) t;
        }

    both : Entered (place_of m) r old new
    both =
        let none : 10 * (m % 256) + 0 ≡ 10 * (m % 256) = omega arith in
        record {
          long = z.long ∙ x.long;
          x = ap (λ (k : ℕ). entry_from k new) none ∙ x_stays ∙ x.entry;
          z = z.entry;
          rest = λ k h. z.rest k (⊎_elim (λ i. inl (omega arith)) (λ i. inr (omega arith)) h) ∙ x.rest k (⊎_elim (λ i. inl i) (λ i. inr (omega arith)) h);
        }

    pub enters_more : m < 511 → Enters m r old new (m + 1)
    enters_more h = rw (le-ltb (length old) 2560 wide, lt-ltb m 511 h) (both, omega arith)

    pub enters_again : 511 ≤ m → Enters m r old new 256
    enters_again h = rw (le-ltb (length old) 2560 wide, le-ltb m 511 h) (both, refl)
