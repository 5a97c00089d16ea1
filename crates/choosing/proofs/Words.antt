-- The shortest of the untaken columns, word by word. Assumes nothing.
use mathlib.Core.Path.{◌≡◌, refl, sym, ap, ◌∙◌}
use mathlib.Core.Bool.{true}
use mathlib.Core.Logic.{⊎_elim}
use mathlib.Core.List.{List}
use Prim.Native.Nat.{ℕ, ◌+◌, ◌*◌, ◌%◌, ◌≤◌, ◌<◌}
use native.Mathlib.Omega.{arith}
use lib.ListN.{get_or}
use Rattle.binary.specs.Words.{bit}
use Rattle.binary.proofs.Bits.{never}
use Rattle.binary.proofs.WordBits.{order, bit_zero}
use Rattle.columns.specs.Planes.{number}
use Rattle.columns.specs.Columns.{untaken}
use Rattle.choosing.specs.declared.Shortest.{Shortest}
use Rattle.choosing.specs.Choosing.{Least, ShortestOf}
use Rattle.columns.proofs.Numbers.{untaken_at, number_few}

pub shortest_start : (m : List ℕ) → ShortestOf 0 m 0 1024
shortest_start m = record { found = λ h. absurd (omega arith); least = λ c h. absurd (omega arith); lowest = λ c h. absurd (omega arith); absent = λ h. (refl, refl) }

module _ (m : List ℕ) (k column size : ℕ) (s : ShortestOf k m column size) where
  -- No later column is shorter.
  shortest_on : (w : ℕ) → k ≤ w → ((c : ℕ) → c < 64 * w → untaken m c ≡ true → (size < 1024) × (size ≤ number m c)) → ShortestOf w m column size
  shortest_on w h longer =
      record { found = λ l. let f = s.found l in (omega (arith, f.0), f.1, f.2); least = longer; lowest = s.lowest; absent = s.absent }

  -- No column is shorter than an empty one.
  pub shortest_empty : (w : ℕ) → k ≤ w → size ≡ 0 → ShortestOf w m column size
  shortest_empty w h e = shortest_on w h (λ c l u. (omega arith, omega arith))

  abbrev word : ℕ
  word = get_or m (8448 + k) 0

  -- Every untaken column below the next word's is one of an earlier word, or one of this word.
  each : (P : ℕ → Type 0) → ((c : ℕ) → c < 64 * k → untaken m c ≡ true → P c)
      → ((b : ℕ) → b < 64 → bit word b ≡ true → P (64 * k + b)) → (c : ℕ) → c < 64 * (k + 1) → untaken m c ≡ true → P c
  each P before here c h u =
      ⊎_elim (λ (l : c < 64 * k). before c l u)
      (λ (l : 64 * k ≤ c). let e : c ≡ 64 * k + c % 64 = omega arith in
      rw e (here (c % 64) (omega arith) (sym (untaken_at m k (c % 64) (omega arith)) ∙ ap (untaken m) (sym e) ∙ u)))
      (order c (64 * k))

  -- No column of the word is shorter.
  shortest_kept : ((b : ℕ) → b < 64 → bit word b ≡ true → (size < 1024) × (size ≤ number m (64 * k + b))) → ShortestOf (k + 1) m column size
  shortest_kept longer = shortest_on (k + 1) (omega arith) (each (λ c. (size < 1024) × (size ≤ number m c)) s.least longer)

  pub shortest_none : word ≡ 0 → ShortestOf (k + 1) m column size
  shortest_none e = shortest_kept (λ b h u. never u (ap (λ (x : ℕ). bit x b) e ∙ bit_zero b))

  module _ (r : Shortest) (l : Least k word m r) where
    pub shortest_same : size ≤ r.rows → ShortestOf (k + 1) m column size
    shortest_same h =
        shortest_kept (λ b i u. (omega (arith, number_few m r.column, l.counted), omega (arith, l.least b i u)))

    pub shortest_new : r.rows < size → ShortestOf (k + 1) m r.column r.rows
    shortest_new h =
        record {
          found = λ i. (
            omega (arith, l.column, l.within),
            ap (untaken m) l.column ∙ untaken_at m k l.place l.within ∙ l.has_it,
            l.counted,
          );
          least = λ c i u. (
            omega (arith, number_few m r.column, l.counted),
            each (λ x. r.rows ≤ number m x) (λ x j v. omega (arith, (s.least x j v).1)) l.least c i u,
          );
          lowest = λ c i u. each (λ x. x < r.column → r.rows < number m x)
              (λ x j v g. omega (arith, (s.least x j v).1))
              (λ b j v g. l.lowest b (omega (arith, l.column)) v)
              c (omega (arith, l.column, l.within)) u i;
          absent = λ i. absurd (omega (arith, number_few m r.column, l.counted));
        }
