-- The weights counted, row by row, from what is kept of the rows. Assumes nothing.
use mathlib.Core.Path.{◌≡◌, refl, sym, ap, ap₂, ◌∙◌}
use mathlib.Core.Bool.{Bool, true, false, ◌&&◌, cond}
use mathlib.Core.Logic.{inl, inr}
use mathlib.Core.List.{List, [], ◌∷◌}
use Prim.Native.Nat.{ℕ, zero, suc, ◌+◌, ◌*◌, ◌≤◌, ◌<◌}
use native.Mathlib.Numerals.{add-one}
use native.Mathlib.Nat.{add-zero}
use native.Mathlib.Omega.{arith}
use borrow.Author.Tests.{eqb-true, ne_eqb}
use lib.Dec.{eqb}
use lib.ListN.{length, get_or}
use Rattle.binary.specs.Bits.{count, tally}
use Rattle.binary.specs.Meaning.{Qubits, Row, Check, has}
use Rattle.binary.proofs.Bits.{bit, never, tally_same, tally_first, tally_few}
use Rattle.code.specs.Lists.{row_at}
use Rattle.code.specs.Tests.{Ascending}
use Rattle.lists.specs.Cleared.{Cleared}
use Rattle.machine.specs.Machine.{keep_if, part, empty?, pair?, passing, degree}
use Rattle.scans.specs.Rows.{RowLists, check_at, check_in, read?, read_in?, checks_from, row_checks, GoodRows}
use Rattle.kept.specs.Kept.{row_in, open_in, Kept}
use Rattle.kept.proofs.Same.{row_of_lem, kept_same}
use Rattle.kept.proofs.Lowering.{has_open}
use Rattle.guessing.specs.Guessing.{weight_of, weight, share_of, added_at, WeightsAlone, AddedRow, with_lit, WeighedRows}
use Rattle.guessing.proofs.Adding.{alone_same, alone_on}

----------------------------------------------------------------------
-- Rows by their numbers

-- Whether row i has the qubit, and whether it has exactly two open qubits besides.
abbrev pub has_in : RowLists → ℕ → ℕ → Bool
has_in c q i = has (row_in c i) q

abbrev pub pair_in : Qubits → RowLists → ℕ → ℕ → Bool
pair_in o c q i = eqb (open_in o c i) 2 && has (row_in c i) q

passing_tally : (t : Check → Bool) (flat ends lit : List ℕ) (r k : ℕ)
    → passing t (checks_from flat ends lit r k) ≡ tally k (λ i. read? lit (r + i) && t (check_at flat ends lit (r + i)))
passing_tally t flat ends lit r zero = refl
passing_tally t flat ends lit r (suc k) =
    kept (read? lit r) ∙ ap₂ count (ap passes (sym (add-zero r)))
    (passing_tally t flat ends lit (suc r) k ∙ tally_same k (λ i. passes (r + suc i)) (λ i. passes (suc r + i)) (λ i l. ap passes (shifted i)))
    ∙ sym (tally_first k (λ i. passes (r + i)))
  where
    passes : ℕ → Bool
    passes i = read? lit i && t (check_at flat ends lit i)

    shifted : (i : ℕ) → suc r + i ≡ r + suc i
    shifted i = omega arith

    rest : List Check
    rest = checks_from flat ends lit (suc r) k

    kept : (b : Bool) → passing t (keep_if b (check_at flat ends lit r) rest) ≡ count (b && t (check_at flat ends lit r)) (passing t rest)
    kept true = refl
    kept false = refl

pub degree_tally : (c : RowLists) (q : ℕ) → degree (row_checks c) q ≡ tally c.count (has_in c q)
degree_tally c q =
    passing_tally (λ d. has d.row q) c.flat c.ends c.lit c.first c.count ∙ tally_same c.count (has_in c q) _ (λ i l. held (read_in? c i) (check_in c i).row)
  where
    held : (b : Bool) (row : Row) → (b && has row q) ≡ has (cond b row []) q
    held true row = refl
    held false row = refl

-- No more rows are on the qubit than there are.
pub degree_few : (c : RowLists) (q : ℕ) → degree (row_checks c) q ≤ c.count
degree_few c q = omega (arith, degree_tally c q, tally_few c.count (has_in c q))

module _ (o : Qubits) (c : RowLists) (q : ℕ) where
  pub weight_tally : weight o (row_checks c) q ≡ 1024 * tally c.count (pair_in o c q) + tally c.count (has_in c q)
  weight_tally =
      ap₂ (λ (x y : ℕ). 1024 * x + y)
      (passing_tally (λ d. pair? o d && has d.row q) c.flat c.ends c.lit c.first c.count ∙ tally_same c.count (pair_in o c q) _ (λ i l. paired (read_in? c i) (check_in c i).row))
      (degree_tally c q)
    where
      paired : (b : Bool) (row : Row) → (b && (eqb (length (part o row)) 2 && has row q)) ≡ (eqb (length (part o (cond b row []))) 2 && has (cond b row []) q)
      paired true row = refl
      paired false row = refl

  -- A weight, of so many rows, is small.
  pub weight_small : (k l : ℕ) → k ≤ 512 → l ≤ 512 → (f : ℕ → Bool) → 1024 * tally k f + tally l (has_in c q) < 1048576
  weight_small k l a b f = omega (arith, tally_few k f, tally_few l (has_in c q))

some_length : (l : List ℕ) → empty? l ≡ false → 1 ≤ length l
some_length [] e = never refl e
some_length (q ∷ l) e = omega arith

-- What a row adds to the weight of an open qubit.
module _ (o : Qubits) (q : ℕ) (t : o q ≡ true) (number : ℕ) where
  shared : (b : Bool) (row : Row) (x y z : ℕ) → number ≡ length (part o (cond b row [])) → z ≡ 1024 * x + y → z < 1048576
      → added_at (share_of number) (has row q) z ≡ 1024 * count (eqb (length (part o (cond b row []))) 2 && has (cond b row []) q) x + count (has (cond b row []) q) y
  shared false row x y z e w s = rw (e, w) (bit (has row q) (λ u. rw u (omega arith)) (λ u. rw u))
  shared true row x y z e w s =
      bit (has row q)
      (λ u. let some = some_length (part o row) (has_open o q row t u) in
      bit (eqb number 2)
      (λ j. let m = eqb-true number 2 j in rw (← e, m, u, w) (omega arith))
      (λ j. rw (← e, ne_eqb number 0 (λ m. absurd (omega arith)), j, u, w) (omega arith)))
      (λ u. rw (← e, u, w) (plain (eqb number 2)))
    where
      plain : (d : Bool) → 1024 * x + y ≡ 1024 * count (d && false) x + y
      plain true = refl
      plain false = refl

----------------------------------------------------------------------
-- Row by row

-- The rows before row i are counted.
pub record Counting (n : ℕ) (r : RowLists) (work₀ work : List ℕ) (i : ℕ) : Type 0 where
  pub alone : WeightsAlone n work₀ work
  pub so : (lit : List ℕ) → let c = with_lit r lit in GoodRows n c
      → (o : Qubits) → ((q : ℕ) → o q ≡ true → q < n) → Kept o c work₀
      → (q : ℕ) → o q ≡ true → weight_of work q ≡ 1024 * tally i (pair_in o c q) + tally i (has_in c q)

module _ (n : ℕ) (r : RowLists) (old work₀ : List ℕ) (f : Cleared 9216 (9216 + n) old work₀) where
  pub counting_start : Counting n r work₀ work₀ 0
  counting_start = record {
    alone = alone_same n work₀;
    so = λ lit good o inside k q e. let l = inside q e in f.inside (9216 + q) (omega arith) (omega arith);
  }

  pub counting_end : (work : List ℕ) (i : ℕ) → Counting n r work₀ work i → i ≡ r.count → r.count ≤ 512 → WeighedRows n r old work
  counting_end work i a e few = record {
    alone = alone_on n old work₀ work (record { long = f.long; below = λ k h. f.outside k (inl h); past = λ k h. f.outside k (inr h) }) a.alone;
    weighed = λ lit good o inside k.
        let c = with_lit r lit in
        let kept = kept_same o c old work₀ few (λ j h. f.outside (8192 + j) (inl (omega arith))) (λ j h. f.outside (8704 + j) (inl (omega arith))) k in
        record {
          weights = λ q t. a.so lit good o inside kept q t ∙ ap (λ (x : ℕ). 1024 * tally x (pair_in o c q) + tally x (has_in c q)) e ∙ sym (weight_tally o c q);
        };
  }

module _ (n : ℕ) (r : RowLists) (work₀ work : List ℕ) (i : ℕ) (a : Counting n r work₀ work i) where
  pub counting_row : i < r.count → r.count ≤ 512 → (number share : ℕ) → number ≡ get_or work (8704 + i) 0 → share ≡ share_of number → (work' : List ℕ)
      → AddedRow n share (row_at r.flat r.ends (r.first + i)) work work' → Counting n r work₀ work' (i + 1)
  counting_row h few number share is e work' v = record {
    alone = alone_on n work₀ work work' a.alone v.alone;
    so = λ lit good o inside k q t.
        let c = with_lit r lit in
        let old = a.so lit good o inside k q t in
        let small = weight_small o c q i i (omega arith) (omega arith) (pair_in o c q) in
        rw (add-one i)
        (v.added (row_of_lem (Ascending n) r.flat r.ends r.first r.count i h good.ascending) q (inside q t) (omega arith) ∙ ap (λ (s : ℕ). added_at s (has (row_at r.flat r.ends (r.first + i)) q) (weight_of work q)) e
        ∙ shared o q t number (read_in? c i) (row_at r.flat r.ends (r.first + i)) (tally i (pair_in o c q)) (tally i (has_in c q)) (weight_of work q)
        (is ∙ a.alone.below (8704 + i) (omega arith) ∙ k.counts i h) old (omega arith));
  }
