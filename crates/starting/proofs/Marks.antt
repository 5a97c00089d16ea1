-- The marks of the start in the lists are the machine's. Assumes nothing.
use mathlib.Core.Path.{◌≡◌, refl, sym, ap, ◌∙◌, fun_ext}
use mathlib.Core.Bool.{Bool, true, false, cond}
use mathlib.Core.Logic.{⊎_elim}
use mathlib.Core.List.{List}
use Prim.Native.Nat.{ℕ, ◌+◌, ◌≤◌, ◌<◌}
use native.Mathlib.Omega.{arith}
use lib.Dec.{eqb, ltb}
use lib.ListN.{length, get_or}
use borrow.Author.Tests.{lt-ltb, le-ltb, le-leb, ltb-true}
use Rattle.binary.specs.Meaning.{Qubits, Row, All, fixed?}
use Rattle.binary.specs.Words.{listed}
use Rattle.binary.proofs.Bits.{never, and_out}
use Rattle.binary.proofs.Elimination.{fixed_lost}
use Rattle.binary.proofs.WordBits.{order}
use Rattle.std.specs.Prelude.{Option}
use Rattle.search.specs.declared.Cleared.{Cleared}
use Rattle.search.specs.Route.{known, route}
use Rattle.search.specs.Marked.{Marked, enough, columns_of}
use Rattle.search.proofs.Stands.{columns_long, columns_same}
use Rattle.code.specs.Lists.{rows_from}
use Rattle.code.specs.Tests.{Ascending}
use Rattle.code.proofs.Order.{rows_below}
use Rattle.machine.specs.Machine.{is_open, start_mark}
use Rattle.machine.specs.Lists.{view}
use Rattle.machine.proofs.Stages.{unfixed_open}
use Rattle.starting.specs.Starting.{open_mark, Routed}
use Rattle.packing.specs.PackedRows.{RowsPut}
use Rattle.packing.proofs.PackedRows.{rows_count}

pub listed_below : (n : ℕ) (lost : List ℕ) (q : ℕ) → listed n lost q ≡ true → q < n
unfolding listed
listed_below n lost q t = ltb-true q n (and_out (ltb q n) (eqb (get_or lost q 0) 1) t).0

unlisted : (n : ℕ) (lost : List ℕ) (q : ℕ) → n ≤ q → listed n lost q ≡ false
unfolding listed
unlisted n lost q l = rw (le-ltb q n l)

start_mark_lem : (lost? fixed : Bool) → (lost? ≡ false → fixed ≡ false) → ◌≡◌ {A = ℕ} (cond fixed 1 (cond lost? 4 0)) (cond lost? (cond fixed 1 4) 0)
start_mark_lem true true h = refl
start_mark_lem true false h = refl
start_mark_lem false true h = never refl (h refl)
start_mark_lem false false h = refl

module _ (n : ℕ) (lost marks : List ℕ) where
  -- Marks that are so below n.
  module _ (f : Qubits) (within : (q : ℕ) → q < n → get_or marks q 0 ≡ start_mark (listed n lost) f q) where
    pub marks_are : view n marks ≡ start_mark (listed n lost) f
    marks_are = fun_ext λ q. ⊎_elim (λ (l : q < n). rw (lt-ltb q n l) (within q l)) (λ (l : n ≤ q). rw (le-ltb q n l) (sym (ap (λ (b : Bool). cond b (cond (f q) 1 4) 0) (unlisted n lost q l)))) (order q n)

  -- Where every lost qubit is open.
  module _ (opened : (q : ℕ) → q < n → get_or marks q 0 ≡ open_mark n lost q) where
    pub open_marks : view n marks ≡ start_mark (listed n lost) (λ q. false)
    open_marks = marks_are (λ q. false) opened

    pub open_lost : is_open (view n marks) ≡ listed n lost
    open_lost = ap is_open open_marks ∙ unfixed_open (listed n lost)

-- A list with the same elements from 9216 on has the same columns.
pub routed_as : (n : ℕ) (rs : List Row) (lost : Qubits) (work work' : List ℕ) → ((k : ℕ) → 9216 ≤ k → get_or work' k 0 ≡ get_or work k 0) → Routed n rs lost work → Routed n rs lost work'
routed_as n rs lost work work' past v =
    record {
      knowns = columns_same (length (known n rs lost).columns) work work' (λ k h. past (9216 + k) (omega arith)) ∙ v.knowns;
      all = columns_same (length (route n rs lost).columns) work work' (λ k h. past (9216 + k) (omega arith)) ∙ v.all;
    }

-- The fixed qubits marked where every lost qubit is open.
module _ (n : ℕ) (flat ends lost : List ℕ) (other others : ℕ) (marks marks' work work₁ work₂ : List ℕ) (r : Option Cleared)
    (packed : RowsPut n flat ends other others work work₁) (fixes : Marked n others lost work₁ marks work₂ marks' r) where
  abbrev rs : List Row
  rs = rows_from flat ends other others

  pub long_enough : n ≤ 1024 → others ≤ 512 → 10240 ≤ length work → n ≤ length lost → n ≤ length marks → enough n others lost work₁ marks ≡ true
  unfolding enough
  long_enough a b d e f =
      let i = packed.long in
      rw (le-leb n 1024 a, le-leb others 512 b, le-leb 10240 (length work₁) (omega arith), le-leb n (length lost) e, le-leb n (length marks) f)

  pub fixed_marks : enough n others lost work₁ marks ≡ true → ((q : ℕ) → q < n → get_or marks q 0 ≡ open_mark n lost q) → All (Ascending n) rs
      → view n marks' ≡ start_mark (listed n lost) (fixed? n rs (listed n lost))
  fixed_marks ready opened good =
      marks_are n lost marks' (fixed? n rs (listed n lost)) λ q l.
      ((fixes.made ready).3 rs (rows_count flat ends other others) packed.packed (rows_below n rs good)).marked q l
      ∙ ap (cond (fixed? n rs (listed n lost) q) 1) (opened q l)
      ∙ start_mark_lem (listed n lost q) (fixed? n rs (listed n lost) q) (fixed_lost n rs (listed n lost) (rows_below n rs good) q)

  -- As many columns are noted as the route has.
  pub columns_noted : enough n others lost work₁ marks ≡ true → All (Ascending n) rs → Routed n rs (listed n lost) work₂
  columns_noted ready good =
      let found = (fixes.made ready).3 rs (rows_count flat ends other others) packed.packed (rows_below n rs good) in
      record { knowns = as_many (fixes.made ready).0 found.first; all = as_many (fixes.made ready).1 found.taken }
    where
      as_many : {columns : List ℕ} (k : ℕ) → columns_of work₂ k ≡ columns → columns_of work₂ (length columns) ≡ columns
      as_many k e = ap (columns_of work₂) (sym (ap length e) ∙ columns_long k work₂) ∙ e
