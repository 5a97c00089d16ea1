-- Counts of entries, one by one. Assumes nothing.
use Rattle.std.specs.Prelude.{Ok, Err}
use mathlib.Core.Path.{◌≡◌, refl, sym, ◌∙◌}
use mathlib.Core.Bool.{Bool, true, false}
use mathlib.Core.List.{List}
use Prim.Native.Nat.{ℕ, min, ◌+◌, ◌*◌, ◌≤◌, ◌<◌}
use native.Mathlib.Numerals.{add-one}
use native.Mathlib.Omega.{arith}
use mir.Syntax.{w32}
use mir.Val.{Fits}
use borrow.Author.Tests.{lt-ltb, le-ltb, ltb-true, ltb-false}
use lib.Dec.{eqb, ltb}
use lib.ListN.{length, get_or}
use Rattle.machine.specs.Lists.{digit}
use Rattle.window_meaning.specs.declared.HalfCounts.{HalfCounts}
use Rattle.window_meaning.specs.declared.WindowRefusal.TheVariants.{Short}
use Rattle.records.specs.Window.{kept_of}
use Rattle.records.proofs.Window.{kept_few, kept_many}
use Rattle.window_meaning.specs.Read.{sum_below, counts_at, window_answer}
use Rattle.window.specs.Counts.{none_yet, plus, Few, counts_from}

pub digit_small : (b : Bool) → digit b ≤ 1
digit_small true = omega arith
digit_small false = omega arith

-- There is room for one more.
pub room_for_one : (a : ℕ) (b : Bool) → a ≤ 65535 * 256 → Fits w32 (a + digit b)
room_for_one a b h = omega (arith, digit_small b)

-- None yet.
pub all_none : (c : HalfCounts) → (c.certain ≡ 0) × ((c.unsure ≡ 0) × ((c.none ≡ 0) × ((c.spent ≡ 0) × ((c.stopped ≡ 0) × ((c.turns ≡ 0) × ((c.guesses ≡ 0) × (c.live ≡ 0))))))) → c ≡ none_yet
all_none c (a, (b, (d, (e, (f, (g, (h, k))))))) = λ i. record { certain = a i; unsure = b i; none = d i; spent = e i; stopped = f i; turns = g i; guesses = h i; live = k i }

pub counts_none : (first : ℕ) (l : List ℕ) → none_yet ≡ counts_from first 0 l
unfolding sum_below
counts_none first l = refl

pub few_none : Few 0 none_yet
few_none =
    record {
      certain = omega arith;
      unsure = omega arith;
      none = omega arith;
      spent = omega arith;
      stopped = omega arith;
      turns = omega arith;
      guesses = omega arith;
      live = omega arith;
    }

module _ (k : ℕ) (c : HalfCounts) (f : Few k c) where
  pub few_plus : (word turns guesses live : ℕ) → turns ≤ 65535 → guesses ≤ 65535 → live ≤ 65535 → Few (k + 1) (plus c word turns guesses live)
  few_plus word turns guesses live t g v =
      record {
        certain = omega (arith, f.certain, digit_small (eqb word 1));
        unsure = omega (arith, f.unsure, digit_small (eqb word 2));
        none = omega (arith, f.none, digit_small (eqb word 3));
        spent = omega (arith, f.spent, digit_small (eqb word 4));
        stopped = omega (arith, f.stopped, digit_small (eqb word 5));
        turns = omega (arith, f.turns);
        guesses = omega (arith, f.guesses);
        live = omega (arith, f.live);
      }

-- The entry at the next place.
pub counts_next : (first p : ℕ) (l : List ℕ) (c : HalfCounts) → c ≡ counts_from first p l
    → let at = 10 * p + first in plus c (get_or l at 0) (get_or l (at + 2) 0) (get_or l (at + 3) 0) (get_or l (at + 4) 0) ≡ counts_from first (p + 1) l
unfolding sum_below
counts_next first p l c e = rw (e, add-one p)

----------------------------------------------------------------------
-- The answer

pub kept_min : (m : ℕ) → min m 256 ≡ kept_of m
kept_min m = at (ltb m 256) refl
  where
    at : (b : Bool) → ltb m 256 ≡ b → min m 256 ≡ kept_of m
    at true t = let h = ltb-true m 256 t in let e : min m 256 ≡ m = omega (arith, h) in e ∙ sym (kept_few m h)
    at false t = let h = ltb-false m 256 t in let e : min m 256 ≡ 256 = omega (arith, h) in e ∙ sym (kept_many m h)

pub read_short : (m : ℕ) (l : List ℕ) → length l < 2560 → Err Short ≡ window_answer m l
unfolding window_answer
read_short m l h = rw (lt-ltb (length l) 2560 h)

pub read_counted : (m : ℕ) (l : List ℕ) → 2560 ≤ length l → (k : ℕ) → k ≡ kept_of m → (x z : HalfCounts) → x ≡ counts_from 0 k l → z ≡ counts_from 5 k l
    → Ok (record { x = x; z = z }) ≡ window_answer m l
unfolding window_answer counts_at
read_counted m l h k e x z ex ez = rw (le-ltb (length l) 2560 h, ex, ez, e)
