-- Lists that keep the same numbers. Assumes nothing.
use mathlib.Core.Path.{◌≡◌, sym, ap, ◌∙◌, subst}
use mathlib.Core.Bool.{true, false}
use mathlib.Core.List.{List}
use Prim.Native.Nat.{ℕ, zero, suc, ◌+◌, ◌*◌, ◌/◌, ◌%◌, ◌≤◌, ◌<◌}
use native.Mathlib.Nat.{add-zero}
use native.Mathlib.Omega.{arith}
use lib.Dec.{eqb}
use lib.ListN.{get_or}
use Rattle.binary.specs.Words
use Rattle.binary.specs.Meaning.{Qubits, Row, All}
use Rattle.binary.proofs.Bits.{tally_same}
use Rattle.binary.proofs.WordBits.{bit_zero}
use Rattle.bitsets.specs.Bitsets.{in_set}
use Rattle.code.specs.Lists.{row_at, rows_from}
use Rattle.scans.specs.Rows.{RowLists}
use Rattle.kept.specs.Kept.{dangles?, Counted, Kept, RowsOn, single?, Tallied}

-- Of rows that are each so, row i is.
pub row_of_lem : (P : Row → Type 0) (flat ends : List ℕ) (r number i : ℕ) → i < number → All P (rows_from flat ends r number) → P (row_at flat ends (r + i))
row_of_lem P flat ends r zero i h a = absurd (omega arith)
row_of_lem P flat ends r (suc number) zero h a = rw (add-zero r) a.0
row_of_lem P flat ends r (suc number) (suc i) h a =
    let e : suc r + i ≡ r + suc i = omega arith in subst (λ (x : ℕ). P (row_at flat ends x)) e (row_of_lem P flat ends (suc r) number i (omega arith) a.1)

-- A set whose words are the same.
pub set_same : (work work' : List ℕ) (t j : ℕ) → get_or work' (8 * t + j / 64) 0 ≡ get_or work (8 * t + j / 64) 0 → in_set work' t j ≡ in_set work t j
unfolding in_set
set_same work work' t j e = ap (λ (x : ℕ). Words.bit x (j % 64)) e

-- One whose words are 0 is empty.
pub set_none : (work : List ℕ) (t j : ℕ) → get_or work (8 * t + j / 64) 0 ≡ 0 → in_set work t j ≡ false
unfolding in_set
set_none work t j e = ap (λ (x : ℕ). Words.bit x (j % 64)) e ∙ bit_zero (j % 64)

-- Numbers that are a fresh count, and the dangling rows by them.
pub kept_by : (o : Qubits) (c : RowLists) (work : List ℕ) → Counted o c work → Tallied c.count work → Kept o c work
kept_by o c work counts t =
    record {
      counts = counts;
      dangling = λ i h. t.dangling i h ∙ ap (λ (x : ℕ). eqb x 1) (counts i h);
      total = t.total ∙ tally_same c.count (dangles? o c) (single? work) (λ i h. ap (λ (x : ℕ). eqb x 1) (counts i h));
    }

pub tallied_by : (o : Qubits) (c : RowLists) (work : List ℕ) → Kept o c work → Tallied c.count work
tallied_by o c work k =
    record {
      dangling = λ i h. k.dangling i h ∙ ap (λ (x : ℕ). eqb x 1) (sym (k.counts i h));
      total = k.total ∙ sym (tally_same c.count (dangles? o c) (single? work) (λ i h. ap (λ (x : ℕ). eqb x 1) (k.counts i h)));
    }

-- A list that has the same set of dangling rows, total and numbers.
pub tallied_same : (count : ℕ) (work work' : List ℕ) → count ≤ 512 → ((j : ℕ) → j < 9 → get_or work' (8192 + j) 0 ≡ get_or work (8192 + j) 0)
    → ((j : ℕ) → j < count → get_or work' (8704 + j) 0 ≡ get_or work (8704 + j) 0) → Tallied count work → Tallied count work'
tallied_same count work work' few set counts t =
    record {
      dangling = λ i h. set_same work work' 1024 i (set (i / 64) (omega arith)) ∙ t.dangling i h ∙ sym (single i h);
      total = set 8 (omega arith) ∙ t.total ∙ sym (tally_same count (single? work) (single? work') single);
    }
  where
    single : (i : ℕ) → i < count → single? work' i ≡ single? work i
    single i h = ap (λ (x : ℕ). eqb x 1) (counts i h)

pub kept_same : (o : Qubits) (c : RowLists) (work work' : List ℕ) → c.count ≤ 512 → ((j : ℕ) → j < 9 → get_or work' (8192 + j) 0 ≡ get_or work (8192 + j) 0)
    → ((j : ℕ) → j < c.count → get_or work' (8704 + j) 0 ≡ get_or work (8704 + j) 0) → Kept o c work → Kept o c work'
kept_same o c work work' few set counts k =
    kept_by o c work' (λ i h. counts i h ∙ k.counts i h) (tallied_same c.count work work' few set counts (tallied_by o c work k))

-- One that has the same below 8192, and qubits that were open before.
pub rows_same : (n : ℕ) (o o' : Qubits) (c : RowLists) (work work' : List ℕ) → c.count ≤ 512 → ((k : ℕ) → k < 8192 → get_or work' k 0 ≡ get_or work k 0)
    → ((q : ℕ) → o' q ≡ true → (o q ≡ true) × (q < 1024)) → RowsOn o c work → RowsOn o' c work'
rows_same n o o' c work work' few same was r =
    record { on = λ q i e h. let w = was q e in let b = w.1 in set_same work work' q i (same (8 * q + i / 64) (omega arith)) ∙ r.on q i w.0 h }
