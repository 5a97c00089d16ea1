-- What the records of a shot do to its list.
--   Begun      a list that an earlier shot left is cleared, as far as the code has qubits and rows
--   row_set     the set of a row that is unread or lit; row_element: its element
--   mark_reply  the reply to a number of a set, by the tests in the table's order
--   Marked     what taking up a number of a set does
--   Adds       the same, as the record is meant
use Rattle.std.specs.Prelude.{◌≡◌, Bool, true, false, not, ◌&&◌, cond, ◌⊎◌, List, ℕ, ◌+◌, ◌≤◌, ◌<◌, eqb, leb, length, get_or, set}
use Rattle.records.specs.declared.State.{State}
use Rattle.records.specs.declared.Refusal.{Refusal}
use Rattle.records.specs.declared.Refusal.TheVariants.{Codeless, Range, Twice, Short}
use Rattle.records.specs.declared.Answer.TheVariants.{Refused, Taken}
use Rattle.records.specs.declared.Reply.{Reply}
use Rattle.records.specs.declared.Pauli.{Pauli}
use Rattle.records.specs.Records.{Set, lit, unread, add}
use Rattle.records.specs.Lists.{held}
use Rattle.records.specs.States.{without_code, opened_of, saying}
use Rattle.records.specs.Promise.{Says}
use Rattle.records.specs.Steps.{Does}
use Rattle.readout.specs.declared.RowReading.{RowReading}
use Rattle.readout.specs.declared.RowReading.TheVariants.{Lit, Unread}

----------------------------------------------------------------------
-- The list

pub record Begun (st : State) (old new : List ℕ) : Type 0 where
  pub long : length new ≡ length old
  pub still : st.stale ≡ false → new ≡ old
  pub qubits : st.stale ≡ true → (q : ℕ) → q < st.sizes.n → get_or new q 0 ≡ 0
  pub rows : st.stale ≡ true → (r : ℕ) → r < st.sizes.x + st.sizes.z → get_or new (1024 + r) 0 ≡ 0
  pub rest : (k : ℕ) → st.sizes.n ≤ k → (k < 1024) ⊎ (1024 + (st.sizes.x + st.sizes.z) ≤ k) → get_or new k 0 ≡ get_or old k 0

-- Whether the list marks an element for this shot; what an earlier one left does not count.
abbrev pub marked? : Bool → List ℕ → ℕ → Bool
marked? stale shot at = not stale && not (eqb (get_or shot at 0) 0)

----------------------------------------------------------------------
-- A number of a set

abbrev pub row_set : RowReading → Pauli → Set
row_set Unread p = unread p
row_set Lit p = lit p

abbrev pub row_element : RowReading → ℕ
row_element Unread = 2
row_element Lit = 1

-- Number k of `count`, whose elements begin at `first`.
unfoldable pub mark_reply : Bool → ℕ → ℕ → ℕ → State → List ℕ → Reply
mark_reply short count first k st shot =
    cond (without_code st.phase) (saying Codeless false st)
    (cond (leb count k) (saying Range false st)
    (cond short (saying Short false st)
    (cond (marked? st.stale shot (first + k)) (saying Twice false st)
    (record { state = opened_of st; answer = Taken }))))

-- A refusal writes nothing; else the list is begun and the number's element is e.
pub record Marked (short : Bool) (e count first k : ℕ) (st : State) (old new : List ℕ) (r : Reply) : Type 0 where
  pub reply : r ≡ mark_reply short count first k st old
  pub refused : (n : Refusal) → r.answer ≡ Refused n → new ≡ old
  pub taken : r.answer ≡ Taken → (mid : List ℕ) × Begun st old mid × (new ≡ set mid (first + k) e)

-- For every input the list keeps its length, and a refusal writes nothing. Where the list is long enough, unless the caller says that one is
-- short, the record is taken up as the table says, whatever the lists of the code hold.
pub record Adds (short : Bool) (u : Set) (k : ℕ) (st : State) (old new : List ℕ) (r : Reply) : Type 0 where
  pub long : length new ≡ length old
  pub refused : (n : Refusal) → r.answer ≡ Refused n → new ≡ old
  pub says : Says (add u k) st r
  pub does : (six : ℕ → Bool) (flat ends : List ℕ) → (short ≡ false → 2048 ≤ length old)
      → Does short six (add u k) st (held flat ends old) (held flat ends new) r
