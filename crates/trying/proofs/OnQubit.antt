-- The list of the rows on a qubit: what is known of the half's rows by it. Assumes nothing.
use mathlib.Core.Path.{◌≡◌, refl, sym, ap, ◌∙◌, subst}
use mathlib.Core.Bool.{Bool, true, false, cond}
use mathlib.Core.Logic.{◌⊎◌, ⊎_elim}
use mathlib.Core.List.{List, []}
use Prim.Native.Nat.{ℕ, ◌+◌, ◌≤◌, ◌<◌}
use native.Mathlib.Omega.{arith}
use Rattle.binary.specs.Meaning.{Qubits, Row, has}
use Rattle.code.specs.Tests.{Ascending, Distinct}
use Rattle.code.proofs.Order.{ascending_distinct}
use Rattle.incidence.specs.Incidence.{number_on, rows_on}
use Rattle.scans.specs.Rows.{RowLists, check_in, read_in?, GoodRows}
use Rattle.kept.specs.Kept.{row_in}
use Rattle.kept.proofs.Same.{row_of_lem}
use Rattle.trying.specs.Entries.{entry_of}

-- A row that is not among the half's.
pub not_among : (first count r : ℕ) → (r < first) ⊎ (first + count ≤ r) → (i : ℕ) → r ≡ first + i → i < count → ⊥
not_among first count r past i is within = ⊎_elim (λ (l : r < first). omega arith) (λ (m : first + count ≤ r). omega arith) past

pub record OnQubit (n q : ℕ) (on : List ℕ) (c : RowLists) : Type 0 where
  pub good : GoodRows n c
  pub small : q < n
  pub listed : number_on c.ends q ≤ 14
  pub rows_on_lem : on ≡ rows_on c.ends q

has_not : (b : Bool) (row : Row) (q : ℕ) → has row q ≡ false → has (cond b row []) q ≡ false
has_not true row q e = e
has_not false row q e = refl

-- A row that was not read has no qubit: its numbers are 0, whatever is open.
pub unread_same : (b : Bool) (row : Row) (o x o' x' : Qubits) → b ≡ false → entry_of o x (cond b row []) ≡ entry_of o' x' (cond b row [])
unread_same b row o x o' x' e = rw e

module _ (n q : ℕ) (on : List ℕ) (c : RowLists) (g : OnQubit n q on c) where
  pub once : 0 < c.count → Distinct on
  once h = subst Distinct (sym g.rows_on_lem) (g.good.listed h q g.small g.listed).once

  module _ (j : ℕ) (h : j < c.count) where
    pub are : has on (c.first + j) ≡ has (check_in c j).row q
    are = ap (λ (l : List ℕ). has l (c.first + j)) g.rows_on_lem ∙ (g.good.listed (omega arith) q g.small g.listed).are j h

    pub off_row : has on (c.first + j) ≡ false → has (row_in c j) q ≡ false
    off_row e = has_not (read_in? c j) (check_in c j).row q (sym are ∙ e)

    pub own_ascending : Ascending n (check_in c j).row
    own_ascending = row_of_lem (Ascending n) c.flat c.ends c.first c.count j h g.good.ascending

    pub own_distinct : Distinct (check_in c j).row
    own_distinct = ascending_distinct n (check_in c j).row own_ascending
