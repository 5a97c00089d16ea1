-- The turns of the loops: what is left of a list decides. Assumes nothing.
use mathlib.Core.Path.{◌≡◌, sym, ap, ◌∙◌}
use mathlib.Core.Bool.{true, false, ◌&&◌}
use mathlib.Core.List.{List, ◌∷◌}
use Prim.Native.Nat.{ℕ, suc, ◌+◌, ◌<◌, ◌≤◌}
use native.Mathlib.Numerals.{add-one}
use borrow.Author.Tests.{lt-ltb, le-ltb, le-leb, lt-leb}
use lib.Dec.{leb, ltb}
use lib.ListN.{length, get_or, drop, drop_of_length-le}
use lib.Seq.{drop-cons}
use Rattle.binary.specs.Meaning.{Row}
use Rattle.binary.proofs.Bits.{&&_false}
use Rattle.code.specs.Tests.{ascending_from, ascending?}

-- What is left of a list, taken apart.
pub drop_turn : (l : List ℕ) (i : ℕ) → i < length l → drop i l ≡ get_or l i 0 ∷ drop (i + 1) l
drop_turn l i h = rw (add-one, drop-cons l i 0)

----------------------------------------------------------------------
-- Ascending

module _ (n least i : ℕ) (row : Row) (left : ascending_from least n (drop i row) ≡ ascending? n row) where
  pub ascending_end : length row ≤ i → true ≡ ascending? n row
  unfolding ascending_from
  ascending_end h = sym (ap (ascending_from least n) (drop_of_length-le row h)) ∙ left

  module _ (q : ℕ) (h : i < length row) (is : q ≡ get_or row i 0) where
    ascending_next : leb least q && ltb q n && ascending_from (suc q) n (drop (i + 1) row) ≡ ascending? n row
    unfolding ascending_from
    ascending_next = rw is (sym (ap (ascending_from least n) (drop_turn row i h)) ∙ left)

    pub ascending_low : q < least → false ≡ ascending? n row
    ascending_low l = rw (← ascending_next, lt-leb least q l)

    pub ascending_high : n ≤ q → false ≡ ascending? n row
    ascending_high l = rw (← ascending_next, le-ltb q n l, &&_false)

    pub ascending_turn : least ≤ q → q < n → ascending_from (q + 1) n (drop (i + 1) row) ≡ ascending? n row
    ascending_turn l m = rw (← ascending_next, add-one q, le-leb least q l, lt-ltb q n m)
