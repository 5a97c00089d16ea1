-- The rows on a qubit that is open no more: each has an open qubit less. Assumes nothing.
use mathlib.Core.Path.{◌≡◌, refl, sym, ap, ◌∙◌, subst}
use mathlib.Core.Bool.{Bool, true, false, cond}
use mathlib.Core.List.{List, [], ◌∷◌}
use Prim.Native.Nat.{ℕ, suc, ◌+◌, ◌*◌, ◌/◌, ◌≤◌, ◌<◌}
use native.Mathlib.Omega.{arith}
use lib.Dec.{eqb}
use lib.ListN.{length, get_or}
use borrow.Author.Tests.{eq-eqb, ne_eqb, eqb-true, eqb-false}
use Rattle.binary.specs.Bits.{summed}
use Rattle.binary.specs.Meaning.{Qubits, Row, has}
use Rattle.binary.proofs.Bits.{bit, never, or_out}
use Rattle.binary.proofs.UpTo.{up_to, up_below, up_from, up_pass, up_on}
use Rattle.bitsets.specs.Bitsets.{in_set, NextIn}
use Rattle.code.specs.Lists.{row_at}
use Rattle.code.specs.Tests.{Ascending, Distinct}
use Rattle.code.proofs.Order.{ascending_distinct}
use Rattle.machine.specs.Machine.{put, part, empty?}
use Rattle.scans.specs.Rows.{RowLists, check_in, read_in?, GoodRows}
use Rattle.kept.specs.Kept.{row_in, open_in, Kept, RowsOn, Tallied, Numbered, Retallied, Lowered, LoweredRows}
use Rattle.kept.proofs.Same.{row_of_lem, set_same, kept_by, tallied_by}

----------------------------------------------------------------------
-- Open qubits of a row, before and after one is settled

-- A row that has not the qubit has the same open qubits.
pub not_has : (o : Qubits) (p : ℕ) (r : Row) → has r p ≡ false → part (put p false o) r ≡ part o r
not_has o p [] e = refl
not_has o p (q ∷ r) e =
    let a : eqb q p ≡ false = bit (eqb q p) (λ t. never (rw t) e) (λ t. t) in
    let b : has r p ≡ false = rw a at e in
    let d : eqb p q ≡ false = ne_eqb p q (λ i. eqb-false q p a (sym i)) in
    rw (d, not_has o p r b)

-- With weight 1 the qubits are counted.
pub length_summed : (l : List ℕ) → length l ≡ summed (λ q. 1) l
length_summed [] = refl
length_summed (q ∷ l) = let rest = length_summed l in omega (arith, rest)

-- A row that has it, and has no qubit twice, has its weight less in its open qubits: one open qubit less.
pub summed_less : (w : ℕ → ℕ) (o : Qubits) (p : ℕ) (r : Row) → Distinct r → o p ≡ true → has r p ≡ true → summed w (part o r) ≡ w p + summed w (part (put p false o) r)
summed_less w o p [] d t e = never e refl
summed_less w o p (q ∷ r) d t e =
    bit (eqb q p)
    (λ u. let s = eqb-true q p u in
    let gone : has r p ≡ false = subst (λ (x : ℕ). has r x ≡ false) s d.0 in
    rw (s, t, eq-eqb p p refl, not_has o p r gone))
    (λ u.
    let rest : has r p ≡ true = rw u at e in
    let other : eqb p q ≡ false = ne_eqb p q (λ i. eqb-false q p u (sym i)) in
    let less = summed_less w o p r d.1 t rest in
    rw other (bit (o q) (λ y. rw y (omega (arith, less))) (λ y. rw y less)))

pub one_less_lem : (o : Qubits) (p : ℕ) (r : Row) → Distinct r → o p ≡ true → has r p ≡ true → length (part o r) ≡ suc (length (part (put p false o) r))
one_less_lem o p r d t e = omega (arith, length_summed (part o r), summed_less (λ q. 1) o p r d t e, length_summed (part (put p false o) r))

-- A row that has an open qubit is not closed.
pub has_open : (o : Qubits) (p : ℕ) (r : Row) → o p ≡ true → has r p ≡ true → empty? (part o r) ≡ false
has_open o p [] t e = never e refl
has_open o p (q ∷ r) t e =
    bit (o q) (λ u. rw u)
    (λ u. rw u (has_open o p r t (or_out (eqb q p) (has r p) e (λ i. never (subst (λ (x : ℕ). o x ≡ true) (sym (eqb-true q p i)) t) u) (λ i. i))))

pub has_none : (b : Bool) (row : Row) (p : ℕ) → has (cond b row []) p ≡ true → (b ≡ true) × (has row p ≡ true)
has_none true row p e = (refl, e)
has_none false row p e = never e refl

----------------------------------------------------------------------
-- The rows on a qubit

-- With the qubits o open before; the rows before row i are done.
pub record Lowering (c : RowLists) (p : ℕ) (o : Qubits) (i : ℕ) (work : List ℕ) : Type 0 where
  pub counts : (j : ℕ) → j < c.count → get_or work (8704 + j) 0 ≡ up_to i (open_in (put p false o) c) (open_in o c) j
  pub tallied : Tallied c.count work

-- What is known of the list at the start of the loop.
pub record Given (n : ℕ) (c : RowLists) (p : ℕ) (o : Qubits) (work₀ : List ℕ) : Type 0 where
  pub good : GoodRows n c
  pub open_p : o p ≡ true
  pub kept : Kept o c work₀
  pub on : RowsOn o c work₀

module _ (n : ℕ) (c : RowLists) (p : ℕ) (o : Qubits) (work₀ : List ℕ) (small : p < 1024) (few : c.count ≤ 512) (g : Given n c p o work₀) where
  abbrev o' : Qubits
  o' = put p false o

  -- A list that has the same rows on the qubits.
  abbrev pub Rows : List ℕ → Type 0
  Rows work = (k : ℕ) → k < 8192 → get_or work k 0 ≡ get_or work₀ k 0

  pub on_row : (work : List ℕ) → Rows work → (j : ℕ) → j < c.count → in_set work p j ≡ has (row_in c j) p
  on_row work same j h = set_same work₀ work p j (same (8 * p + j / 64) (omega arith)) ∙ g.on.on p j g.open_p h

  own : (j : ℕ) → j < c.count → Distinct (row_at c.flat c.ends (c.first + j))
  own j h = ascending_distinct n (row_at c.flat c.ends (c.first + j)) (row_of_lem (Ascending n) c.flat c.ends c.first c.count j h g.good.ascending)

  -- Rows that are not on the qubit are passed over.
  pub lowering_pass : (i i' : ℕ) (work : List ℕ) → Rows work → Lowering c p o i work → i ≤ i' → i' ≤ c.count
      → ((j : ℕ) → i ≤ j → j < i' → in_set work p j ≡ false) → Lowering c p o i' work
  lowering_pass i i' work same s a b none-on = record { counts = λ j h. s.counts j h ∙ up_pass (open_in o' c) (open_in o c) i i' a kept j; tallied = s.tallied }
    where
      kept : (j : ℕ) → i ≤ j → j < i' → open_in o' c j ≡ open_in o c j
      kept j l m = ap length (not_has o p (row_in c j) (sym (on_row work same j (omega arith)) ∙ none-on j l m))

  pub lowering_none : Lowering c p o 0 work₀
  lowering_none = record { counts = λ j h. g.kept.counts j h ∙ sym (up_from (open_in o' c) (open_in o c) 0 j (omega arith)); tallied = tallied_by o c work₀ g.kept }

  pub lowering_start : (i : ℕ) → NextIn work₀ p 0 c.count i → Lowering c p o i work₀
  lowering_start i f = let w = f.within (omega arith) in lowering_pass 0 i work₀ (λ k h. refl) lowering_none (omega arith) w.1 f.skipped

  -- Row i, which is on the qubit.
  module _ (i : ℕ) (work : List ℕ) (same : Rows work) (s : Lowering c p o i work) (h : i < c.count) (found : in_set work p i ≡ true) (long : 9216 ≤ length work)
      (work' : List ℕ) (number : ℕ) (low : Lowered i work work' number) where
    pub on_it : (read_in? c i ≡ true) × (has (check_in c i).row p ≡ true)
    on_it = has_none (read_in? c i) (check_in c i).row p (sym (on_row work same i h) ∙ found)

    row_is : row_in c i ≡ (check_in c i).row
    row_is = rw on_it.0

    was_open : get_or work (8704 + i) 0 ≡ suc (length (part o' (check_in c i).row))
    was_open = s.counts i h ∙ up_from (open_in o' c) (open_in o c) i i (omega arith) ∙ rw row_is (one_less_lem o p (check_in c i).row (own i h) g.open_p on_it.1)

    lowered : (number + 1 ≡ get_or work (8704 + i) 0) × Numbered i number work work' × Retallied i work work'
    lowered = low.lowered long (omega arith) (let z = was_open in omega arith)

    pub number_is : number ≡ length (part o' (check_in c i).row)
    number_is = let z = was_open in let y = lowered.0 in omega arith

    pub rows_on_lem : Rows work'
    rows_on_lem k l = low.below k l ∙ same k l

    pub lowering_row : Lowering c p o (i + 1) work'
    lowering_row = record { counts = counts_on; tallied = lowered.2 c.count few h s.tallied }
      where
        counts_on : (j : ℕ) → j < c.count → get_or work' (8704 + j) 0 ≡ up_to (i + 1) (open_in o' c) (open_in o c) j
        counts_on j l =
            lowered.1 j (omega arith) ∙ bit (eqb i j)
            (λ e. let d = eqb-true i j e in rw (e, ← d) (number_is ∙ ap (λ (r : Row). length (part o' r)) (sym row_is) ∙ sym (up_below (open_in o' c) (open_in o c) (i + 1) i (omega arith))))
            (λ e. rw e (s.counts j l ∙ sym (up_on (open_in o' c) (open_in o c) i j e)))

    pub lowering_next : (i' : ℕ) → NextIn work' p (i + 1) c.count i' → Lowering c p o i' work'
    lowering_next i' f = let w = f.within (omega arith) in lowering_pass (i + 1) i' work' rows_on_lem lowering_row w.0 w.1 f.skipped

  pub lowering_end : (i : ℕ) (work : List ℕ) → Lowering c p o i work → c.count ≤ i → Kept o' c work
  lowering_end i work s h = kept_by o' c work (λ j l. s.counts j l ∙ up_below (open_in o' c) (open_in o c) i j (omega arith)) s.tallied

----------------------------------------------------------------------
-- The loop

-- Whatever the list holds: its length, and the elements beside what is kept of the rows, stay; row i is the next on the qubit.
pub record LoweringAll (p count : ℕ) (work₀ : List ℕ) (i : ℕ) (work : List ℕ) : Type 0 where
  pub long : length work ≡ length work₀
  pub below : (k : ℕ) → k < 8192 → get_or work k 0 ≡ get_or work₀ k 0
  pub past : (k : ℕ) → 9216 ≤ k → get_or work k 0 ≡ get_or work₀ k 0
  pub found : i < count → in_set work p i ≡ true
  pub so : 9216 ≤ length work₀ → p < 1024 → count ≤ 512 → (n : ℕ) (c : RowLists) → c.count ≡ count → (o : Qubits) → Given n c p o work₀ → Lowering c p o i work

module _ (p count : ℕ) (work₀ : List ℕ) where
  pub lower_start : (i : ℕ) → NextIn work₀ p 0 count i → LoweringAll p count work₀ i work₀
  lower_start i f =
      record {
        long = refl;
        below = λ k h. refl;
        past = λ k h. refl;
        found = f.found;
        so = λ long small few n c e o g. lowering_start n c p o work₀ small (rw e few) g i (rw e f);
      }

  module _ (i : ℕ) (work : List ℕ) (a : LoweringAll p count work₀ i work) where
    pub lower_turn : i < count → (work' : List ℕ) (number : ℕ) → Lowered i work work' number → (i' : ℕ) → NextIn work' p (i + 1) count i' → LoweringAll p count work₀ i' work'
    lower_turn h work' number low i' f =
        record {
          long = low.long ∙ a.long;
          below = λ k l. low.below k l ∙ a.below k l;
          past = λ k l. low.past k l ∙ a.past k l;
          found = f.found;
          so = λ long small few n c e o g.
              lowering_next n c p o work₀ small (rw e few) g i work a.below (a.so long small few n c e o g) (rw e h) (a.found h) (rw a.long long) work' number low i' (rw e f);
        }

    pub lower_end : count ≤ i → LoweredRows p count work₀ work
    lower_end h =
        record {
          long = a.long;
          below = a.below;
          past = a.past;
          kept = λ long small few n c e good o u k r.
              let g : Given n c p o work₀ = record { good = good; open_p = u; kept = k; on = r } in
              lowering_end n c p o work₀ small (rw e few) g i work (a.so long small few n c e o g) (rw e h);
        }
