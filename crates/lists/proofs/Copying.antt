-- Two parts of a list told apart. Assumes nothing.
use mathlib.Core.Path.{◌≡◌, refl, sym}
use mathlib.Core.Bool.{Bool, true, false, ◌&&◌, ◌||◌, true≢false}
use Prim.Native.Nat.{ℕ, ◌+◌, ◌≤◌, ◌<◌, max}
use native.Mathlib.Omega.{arith}
use native.Mathlib.Decide.{dec_lt}
use lib.Dec.{leb}
use borrow.Author.Tests.{leb-true, le-leb, lt-leb}
use Rattle.lists.specs.Copied.{apart?}

module _ (len from to count : ℕ) where
  pub part_short : len < count → false ≡ apart? len from to count
  unfolding apart?
  part_short h = rw (lt-leb (from + count) len (omega arith))

  pub part_late : len < max from to + count → false ≡ apart? len from to count
  unfolding apart?
  part_late h = late (dec_lt len (from + count))
    where
      late : Dec (len < from + count) → false ≡ (leb (from + count) len && leb (to + count) len && (leb (from + count) to || leb (to + count) from))
      late (yes a) = rw (lt-leb (from + count) len a)
      late (no a) = rw (le-leb (from + count) len (omega arith), lt-leb (to + count) len (omega arith))

  pub both_in : from + count ≤ len → to + count ≤ len → (leb (from + count) to || leb (to + count) from) ≡ apart? len from to count
  unfolding apart?
  both_in a b = rw (le-leb (from + count) len a, le-leb (to + count) len b)

  -- What the test tells.
  pub record Apart : Type 0 where
    pub source : from + count ≤ len
    pub target : to + count ≤ len

  pub apart_out : apart? len from to count ≡ true → Apart
  unfolding apart?
  apart_out t = out (leb (from + count) len) (leb (to + count) len) refl refl t
    where
      out : (a b : Bool) → leb (from + count) len ≡ a → leb (to + count) len ≡ b → (a && b && (leb (from + count) to || leb (to + count) from)) ≡ true → Apart
      out true true d e u = record { source = leb-true _ _ d; target = leb-true _ _ e }
      out true false d e u = absurd (true≢false (sym u))
      out false b d e u = absurd (true≢false (sym u))
