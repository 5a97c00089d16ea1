-- The weights after a qubit is settled: of the rows on it, each by the number of open qubits that are left. Assumes nothing.
use mathlib.Core.Path.{◌≡◌, refl, sym, ap, ◌∙◌, subst}
use mathlib.Core.Bool.{Bool, true, false, ◌&&◌, cond}
use mathlib.Core.List.{List}
use Prim.Native.Nat.{ℕ, suc, ◌+◌, ◌*◌, ◌/◌, ◌%◌, ◌≤◌, ◌<◌}
use native.Mathlib.Omega.{arith}
use borrow.Author.Tests.{eqb-true, eqb-false, ne_eqb}
use lib.Dec.{eqb}
use lib.ListN.{length, get_or}
use Rattle.binary.specs.Bits.{tally}
use Rattle.binary.specs.Words
use Rattle.binary.specs.Meaning.{Qubits, Row, has}
use Rattle.binary.proofs.Bits.{bit, never, tally_same}
use Rattle.binary.proofs.Weights.{tally_change}
use Rattle.binary.proofs.UpTo.{up_to, up_below, up_from, up_pass, up_on}
use Rattle.bitsets.specs.Bitsets.{in_set, NextIn}
use Rattle.code.specs.Lists.{row_at}
use Rattle.code.specs.Tests.{Ascending}
use Rattle.code.proofs.Order.{ascending_distinct}
use Rattle.machine.specs.Machine.{put, part}
use Rattle.scans.specs.Rows.{RowLists, check_in, read_in?, GoodRows}
use Rattle.kept.specs.Kept.{row_in, open_in, Kept, RowsOn}
use Rattle.kept.proofs.Same.{row_of_lem}
use Rattle.kept.proofs.Lowering.{not_has, one_less_lem, has_none}
use Rattle.guessing.specs.Guessing.{weight_of, Weighed, change_of, added_at, WeightsAlone, AddedRow, with_lit, RenewedRows}
use Rattle.guessing.proofs.Adding.{alone_same, alone_on}
use Rattle.guessing.proofs.Weighing.{has_in, pair_in, weight_tally, weight_small}

-- What is known of the list at the start of the loop.
pub record Given (n : ℕ) (c : RowLists) (p : ℕ) (o : Qubits) (work₀ : List ℕ) : Type 0 where
  pub good : GoodRows n c
  pub inside : (q : ℕ) → o q ≡ true → q < n
  pub open_p : o p ≡ true
  pub kept : Kept (put p false o) c work₀
  pub on : RowsOn o c work₀
  pub weighed : Weighed o c work₀

module _ (n : ℕ) (c : RowLists) (p : ℕ) (o : Qubits) (work₀ : List ℕ) (few : c.count ≤ 512) (g : Given n c p o work₀) where
  abbrev o' : Qubits
  o' = put p false o

  -- The rows before row i are without the qubit.
  abbrev pub mixed : ℕ → ℕ → ℕ → Bool
  mixed i q = up_to i (pair_in o' c q) (pair_in o c q)

  abbrev pub mixed_weight : ℕ → ℕ → ℕ
  mixed_weight i q = 1024 * tally c.count (mixed i q) + tally c.count (has_in c q)

  pub mixed_start : (q : ℕ) → o q ≡ true → weight_of work₀ q ≡ mixed_weight 0 q
  mixed_start q t =
      g.weighed.weights q t ∙ weight_tally o c q
      ∙ ap (λ (x : ℕ). 1024 * x + tally c.count (has_in c q)) (tally_same c.count (mixed 0 q) (pair_in o c q) (λ j l. sym (up_from (pair_in o' c q) (pair_in o c q) 0 j (omega arith))))

  pub mixed_end : (i q : ℕ) → c.count ≤ i → mixed_weight i q ≡ 1024 * tally c.count (pair_in o' c q) + tally c.count (has_in c q)
  mixed_end i q h = ap (λ (x : ℕ). 1024 * x + tally c.count (has_in c q)) (tally_same c.count (pair_in o' c q) (mixed i q) (λ j l. up_below (pair_in o' c q) (pair_in o c q) i j (omega arith)))

  -- Rows that are not on the qubit are passed over.
  pub mixed_pass : (i i' q : ℕ) → i ≤ i' → i' ≤ c.count → ((j : ℕ) → i ≤ j → j < i' → in_set work₀ p j ≡ false) → mixed_weight i q ≡ mixed_weight i' q
  mixed_pass i i' q a b none-on = ap (λ (x : ℕ). 1024 * x + tally c.count (has_in c q)) (tally_same c.count (mixed i' q) (mixed i q) (λ j l. up_pass (pair_in o' c q) (pair_in o c q) i i' a off j))
    where
      off : (j : ℕ) → i ≤ j → j < i' → pair_in o' c q j ≡ pair_in o c q j
      off j l m =
          let gone = sym (g.on.on p j g.open_p (omega arith)) ∙ none-on j l m in
          ap (λ (x : List ℕ). eqb (length x) 2 && has (row_in c j) q) (not_has o p (row_in c j) gone)

  -- Row i, which is on the qubit.
  module _ (i : ℕ) (h : i < c.count) (found : in_set work₀ p i ≡ true) (left : ℕ) (is : left ≡ open_in o' c i) (q x : ℕ) (e : x ≡ mixed_weight i q) where
    on_it : (read_in? c i ≡ true) × (has (check_in c i).row p ≡ true)
    on_it = has_none (read_in? c i) (check_in c i).row p (sym (g.on.on p i g.open_p h) ∙ found)

    row_is : row_in c i ≡ (check_in c i).row
    row_is = rw on_it.0

    was : open_in o c i ≡ suc left
    was =
        let d = ascending_distinct n (check_in c i).row (row_of_lem (Ascending n) c.flat c.ends c.first c.count i h g.good.ascending) in
        ap (λ (r : Row). length (part o r)) row_is ∙ one_less_lem o p (check_in c i).row d g.open_p on_it.1
        ∙ ap suc (sym (is ∙ ap (λ (r : Row). length (part o' r)) row_is))

    abbrev A : ℕ
    A = tally c.count (mixed i q)

    abbrev A' : ℕ
    A' = tally c.count (mixed (i + 1) q)

    abbrev B : ℕ
    B = tally c.count (has_in c q)

    before_it : mixed i q i ≡ (eqb (suc left) 2 && has (check_in c i).row q)
    before_it = up_from (pair_in o' c q) (pair_in o c q) i i (omega arith) ∙ rw (was, row_is)

    after_it : mixed (i + 1) q i ≡ (eqb left 2 && has (check_in c i).row q)
    after_it = up_below (pair_in o' c q) (pair_in o c q) (i + 1) i (omega arith) ∙ rw (← is, row_is)

    -- The row was counted as one with two open qubits, or is.
    changed : A' + cond (eqb (suc left) 2 && has (check_in c i).row q) 1 0 ≡ A + cond (eqb left 2 && has (check_in c i).row q) 1 0
    changed =
        let z = tally_change c.count i (mixed i q) (mixed (i + 1) q) h (λ j d l. up_on (pair_in o' c q) (pair_in o c q) i j (ne_eqb i j (λ u. d (sym u)))) in
        rw (← before_it, ← after_it) z

    small : x < 1048576
    small = let z = weight_small o c q c.count c.count few few (mixed i q) in omega arith

    pub mixed_row : added_at (change_of left) (has (check_in c i).row q) x ≡ mixed_weight (i + 1) q
    mixed_row = by (has (check_in c i).row q) A' changed
      where
        none : (b : Bool) → cond {A = ℕ} (b && false) 1 0 ≡ 0
        none true = refl
        none false = refl

        by : (b : Bool) (k : ℕ) → k + cond (eqb (suc left) 2 && b) 1 0 ≡ A + cond (eqb left 2 && b) 1 0 → added_at (change_of left) b x ≡ 1024 * k + B
        by false k z = let y = rw (none (eqb (suc left) 2), none (eqb left 2)) at z in omega arith
        by true k z =
            bit (eqb left 2)
            (λ two. let m = eqb-true left 2 two in let y : k + 0 ≡ A + 1 = subst (λ (n : ℕ). k + cond (eqb (suc n) 2 && true) 1 0 ≡ A + cond (eqb n 2 && true) 1 0) m z in
            rw m (comes k y))
            (λ more. bit (eqb left 1)
            (λ one. let m = eqb-true left 1 one in let y : k + 1 ≡ A + 0 = subst (λ (n : ℕ). k + cond (eqb (suc n) 2 && true) 1 0 ≡ A + cond (eqb n 2 && true) 1 0) m z in
            rw m (goes k y))
            (λ other.
            let past : eqb (suc left) 2 ≡ false = ne_eqb (suc left) 2 (λ j. eqb-false left 1 other (omega arith)) in
            rw (more, other) (stays k (rw (past, more) at z))))
          where
            comes : (k : ℕ) → k + 0 ≡ A + 1 → (x + 1024) % 4294967296 ≡ 1024 * k + B
            comes k y = let l = small in omega arith

            goes : (k : ℕ) → k + 1 ≡ A + 0 → (x + 4294966272) % 4294967296 ≡ 1024 * k + B
            goes k y = let l = small in omega arith

            stays : (k : ℕ) → k + 0 ≡ A + 0 → (x + 0) % 4294967296 ≡ 1024 * k + B
            stays k y = let l = small in omega arith

----------------------------------------------------------------------
-- The loop

-- Whatever the list holds: its length, and the elements beside the weights, stay; row i is the next on the qubit.
pub record Renewing (n : ℕ) (r : RowLists) (p : ℕ) (work₀ work : List ℕ) (i : ℕ) : Type 0 where
  pub alone : WeightsAlone n work₀ work
  pub found : i < r.count → in_set work p i ≡ true
  pub within : i ≤ r.count
  pub so : (lit : List ℕ) → let c = with_lit r lit in (few : r.count ≤ 512) (o : Qubits) (g : Given n c p o work₀)
      → (q : ℕ) → o q ≡ true → weight_of work q ≡ mixed_weight n c p o work₀ few g i q

module _ (n : ℕ) (r : RowLists) (p : ℕ) (work₀ : List ℕ) where
  pub renewing_start : (i : ℕ) → NextIn work₀ p 0 r.count i → Renewing n r p work₀ work₀ i
  renewing_start i f =
      let w = f.within (omega arith) in
      record {
        alone = alone_same n work₀;
        found = f.found;
        within = w.1;
        so = λ lit few o g q t. let c = with_lit r lit in mixed_start n c p o work₀ few g q t ∙ mixed_pass n c p o work₀ few g 0 i q (omega arith) w.1 f.skipped;
      }

  module _ (work : List ℕ) (i : ℕ) (a : Renewing n r p work₀ work i) (few : r.count ≤ 512) where
    -- A list that has the same rows on the qubit.
    same_set : (work' : List ℕ) → ((k : ℕ) → k < 9216 → get_or work' k 0 ≡ get_or work₀ k 0) → p < 1024 → (j : ℕ) → j < 512 → in_set work' p j ≡ in_set work₀ p j
    unfolding in_set
    same_set work' below small j l = ap (λ (x : ℕ). Words.bit x (j % 64)) (below (8 * p + j / 64) (omega arith))

    pub renewing_row : i < r.count → n ≤ 1024 → (left share : ℕ) → left ≡ get_or work (8704 + i) 0 → share ≡ change_of left → (work' : List ℕ)
        → AddedRow n share (row_at r.flat r.ends (r.first + i)) work work' → (i' : ℕ) → NextIn work' p (i + 1) r.count i' → Renewing n r p work₀ work' i'
    renewing_row h size left share is e work' v i' f =
        let w = f.within (omega arith) in
        record {
          alone = alone;
          found = f.found;
          within = w.1;
          so = λ lit few' o g q t.
              let c = with_lit r lit in
              let old = a.so lit few' o g q t in
              let tight = weight_small o c q r.count r.count few few (mixed n c p o work₀ few' g i q) in
              let inside = g.inside p g.open_p in
              let small : p < 1024 = omega arith in
              v.added (row_of_lem (Ascending n) r.flat r.ends r.first r.count i h g.good.ascending) q (g.inside q t) (omega arith) ∙ ap (λ (s : ℕ). added_at s (has (row_at r.flat r.ends (r.first + i)) q) (weight_of work q)) e
              ∙ mixed_row n c p o work₀ few' g i h (sym (same_set work a.alone.below small i (omega arith)) ∙ a.found h) left (is ∙ a.alone.below (8704 + i) (omega arith) ∙ g.kept.counts i h) q (weight_of work q) old
              ∙ mixed_pass n c p o work₀ few' g (i + 1) i' q w.0 w.1 (λ j l m. sym (same_set work' alone.below small j (omega arith)) ∙ f.skipped j l m);
        }
      where
        alone : WeightsAlone n work₀ work'
        alone = alone_on n work₀ work work' a.alone v.alone

    pub renewing_end : r.count ≤ i → RenewedRows n r p work₀ work
    renewing_end h = record {
      alone = a.alone;
      renewed = λ lit good o inside open_p kept on weighed.
          let c = with_lit r lit in
          let g : Given n c p o work₀ = record { good = good; inside = inside; open_p = open_p; kept = kept; on = on; weighed = weighed } in
          record {
            weights = λ q t.
                let was : o q ≡ true = bit (eqb p q) (λ u. never (rw u at t) refl) (λ u. rw u at t) in
                a.so lit few o g q was ∙ mixed_end n c p o work₀ few g i q h ∙ sym (weight_tally (put p false o) c q);
          };
    }
