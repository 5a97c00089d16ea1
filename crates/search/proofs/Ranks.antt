-- When all columns are taken, as many rows have cleared one as the rank says. Assumes nothing.
use mathlib.Core.Path.{◌≡◌, refl, ap, ap₂, ◌∙◌}
use mathlib.Core.Bool.{Bool, true, false, cond, ◌&&◌}
use mathlib.Core.Option.{Option, none, some}
use Prim.Native.Nat.{ℕ, zero, suc, ◌+◌}
use native.Mathlib.Omega.{arith}
use lib.Dec.{ltb}
use lib.ListN.{length}
use Rattle.binary.specs.Bits.{count, tally}
use Rattle.binary.specs.Meaning.{Qubits, fixed?}
use Rattle.binary.proofs.Bits.{bit, tally_same}
use Rattle.binary.proofs.Rank.{rank_fixed}
use Rattle.search.specs.Route.{Stand, column_length, some?, take_by, clearing, take_column, shorter, shortest, step_by, step, steps, ascend, begin, known, route}
use Rattle.search.specs.Ranks.{ClearedRank}
use Rattle.search.proofs.Route.{fixed_cleared}

----------------------------------------------------------------------
-- Where all columns are lost no other one is taken before them

shortest_none : (len : ℕ → ℕ) (n : ℕ) (u : Qubits) → ((q : ℕ) → u q ≡ false) → shortest len n u ≡ none
shortest_none len zero u h = refl
shortest_none len (suc n) u h = ap₂ (λ (b : Bool) (r : Option ℕ). shorter b len n r) (h n) (shortest_none len n u h)

steps_none : (n rows k : ℕ) (s : Stand) → ((q : ℕ) → s.untaken q ≡ false) → steps n rows k s ≡ s
steps_none n rows zero s h = refl
steps_none n rows (suc k) s h =
    ap (step n rows) (steps_none n rows k s h) ∙ ap (λ (r : Option ℕ). step_by rows r s) (shortest_none (column_length rows s) n s.untaken h)

----------------------------------------------------------------------
-- Columns counted as they are cleared

take_count : (rows q : ℕ) (s : Stand) → length (take_column rows q s).columns ≡ count (some? (clearing rows q s)) (length s.columns)
take_count rows q s = by (clearing rows q s)
  where
    by : (c : Option ℕ) → length (take_by c q s).columns ≡ count (some? c) (length s.columns)
    by none = refl
    by (some i) = refl

module _ (rows : ℕ) (lost : Qubits) (s : Stand) where
  abbrev clears : ℕ → Bool
  clears q = lost q && some? (clearing rows q (ascend rows lost q s))

  ascend_count : (q : ℕ) → length (ascend rows lost q s).columns ≡ tally q clears + length s.columns
  ascend_count zero = omega arith
  ascend_count (suc q) = by (lost q) (some? (clearing rows q (ascend rows lost q s))) (take_count rows q (ascend rows lost q s)) (ascend_count q)
    where
      by : (b c : Bool) → length (take_column rows q (ascend rows lost q s)).columns ≡ count c (length (ascend rows lost q s).columns)
          → length (ascend rows lost q s).columns ≡ tally q clears + length s.columns
          → length (cond b (take_column rows q (ascend rows lost q s)) (ascend rows lost q s)).columns ≡ count (b && c) (tally q clears) + length s.columns
      by true true t h = omega (arith, t, h)
      by true false t h = omega (arith, t, h)
      by false c t h = h

pub cleared_rank : ClearedRank
unfolding ClearedRank route
cleared_rank n rs b =
    let counted = ascend_count (length rs) all (known n rs all) n in
    let none_before = ap (λ (s : Stand). length s.columns) begun in
    let fixed = tally_same n (clears (length rs) all (known n rs all)) (fixed? n rs all) (λ q l. fixed_cleared n rs b all q) in
    let ranked = rank_fixed n rs b in
    omega (arith, counted, none_before, fixed, ranked)
  where
    all : Qubits
    all q = ltb q n

    none_left : (q : ℕ) → (begin n rs all).untaken q ≡ false
    none_left q = bit (ltb q n) (λ e. rw e) (λ e. rw e)

    begun : known n rs all ≡ begin n rs all
    begun = steps_none n (length rs) n (begin n rs all) none_left
