-- Records in bytes. Assumes nothing.
use mathlib.Core.Path.{◌≡◌, refl, sym, ◌∙◌}
use mathlib.Core.Bool.{Bool, true, false, cond}
use mathlib.Core.Logic.{⊎_elim}
use mathlib.Core.List.{List, [], ◌∷◌}
use Prim.Native.Nat.{ℕ, ◌+◌, ◌-◌, ◌≤◌, ◌<◌}
use native.Mathlib.Nat.{add-zero, eq-zero-or-pos}
use native.Mathlib.Omega.{arith}
use borrow.Author.Tests.{le-leb, lt-leb}
use lib.ListN.{length, length-drop, get_or, drop}
use lib.Seq.{get_or-drop}
use Rattle.records.specs.Records.{kind_of, whole_length}
use Rattle.cutting.specs.Cutting.{whole_of, next_of}

-- No bytes, no record.
next_nothing : (ended : Bool) → next_of ended [] ≡ 0
unfolding next_of kind_of
next_nothing true = refl
next_nothing false = refl

pub next_empty : (ended : Bool) (l : List ℕ) → length l ≡ 0 → 0 ≡ next_of ended l
next_empty ended [] e = sym (next_nothing ended)
next_empty ended (b ∷ l) e = absurd (omega arith)

-- A record that is there whole, and one that is not.
pub next_whole : (ended : Bool) (l : List ℕ) → whole_of l ≤ length l → next_of ended l ≡ whole_of l
unfolding next_of
next_whole ended l h = rw (le-leb (whole_of l) (length l) h)

pub next_cut : (ended : Bool) (l : List ℕ) → length l < whole_of l → next_of ended l ≡ cond ended (length l) 0
unfolding next_of
next_cut ended l h = rw (lt-leb (whole_of l) (length l) h)

-- The record at `at`.
module _ (bytes : List ℕ) (at : ℕ) where
  whole_at : whole_of (drop at bytes) ≡ whole_length (kind_of (get_or bytes at 0))
  whole_at = rw (get_or-drop at bytes 0 0, add-zero at)

  pub at_none : (ended : Bool) → length bytes ≤ at → 0 ≡ next_of ended (drop at bytes)
  at_none ended h = next_empty ended (drop at bytes) (omega (arith, length-drop at bytes))

  pub at_whole : (ended : Bool) (n : ℕ) → n ≡ whole_length (kind_of (get_or bytes at 0)) → n ≤ length bytes - at → n ≡ next_of ended (drop at bytes)
  at_whole ended n e h =
      let w : n ≡ whole_of (drop at bytes) = e ∙ sym whole_at in
      w ∙ sym (next_whole ended (drop at bytes) (omega (arith, length-drop at bytes)))

  pub at_cut : (ended : Bool) (n : ℕ) → n ≡ whole_length (kind_of (get_or bytes at 0)) → length bytes - at < n → cond ended (length bytes - at) 0 ≡ next_of ended (drop at bytes)
  at_cut ended n e h =
      let w : n ≡ whole_of (drop at bytes) = e ∙ sym whole_at in
      sym (next_cut ended (drop at bytes) (omega (arith, length-drop at bytes)) ∙ rw (length-drop at bytes))

cond_most : (b : Bool) (n m : ℕ) → n ≤ m → cond b n 0 ≤ m
cond_most true n m h = h
cond_most false n m h = omega arith

-- The next record lies in the bytes.
pub next_within : (ended : Bool) (l : List ℕ) → next_of ended l ≤ length l
next_within ended l =
    ⊎_elim
    (λ (e : whole_of l - length l ≡ 0). rw (next_whole ended l (omega arith)) (omega arith))
    (λ h. rw (next_cut ended l (omega arith)) (cond_most ended (length l) (length l) (omega arith)))
    (eq-zero-or-pos (whole_of l - length l))

pub next_at : (ended : Bool) (l : List ℕ) (at n : ℕ) → 0 < n → n ≡ next_of ended (drop at l) → at + n ≤ length l
next_at ended l at n h e = omega (arith, next_within ended (drop at l), length-drop at l)
