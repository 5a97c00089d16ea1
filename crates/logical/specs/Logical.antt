-- What the record of logical qubits does.
--   Few      the sizes are document 01's; few?: those of the rows of one kind
--   RankOf   the rank of rows in the lists of the code
--   RanksOf  the rank of the X rows, or with that of the Z rows
--   Tests    the record is answered as the table says
use Rattle.std.specs.Prelude.{◌≡◌, Bool, true, false, ◌&&◌, cond, List, ℕ, ◌+◌, ◌≤◌, leb}
use Rattle.binary.specs.Meaning.{Below}
use Rattle.binary.specs.Rank.{rank}
use Rattle.code.specs.Lists.{rows_from}
use Rattle.records.specs.declared.Sizes.{Sizes}
use Rattle.records.specs.declared.State.{State}
use Rattle.records.specs.declared.Reply.{Reply}
use Rattle.records.specs.Records.{encodes}
use Rattle.records.specs.Lists.{held}
use Rattle.records.specs.Promise.{Says}
use Rattle.records.specs.Steps.{Does}

abbrev pub Few : Sizes → Type 0
Few z = (z.n ≤ 1024) × (z.x ≤ 512) × (z.z ≤ 512)

unfoldable pub few? : ℕ → ℕ → Bool
few? n count = leb n 1024 && leb count 512

-- So many rows from a row on; r is the answer. Where the sizes are not document 01's it is 0. Over altered lists nothing else is promised.
pub record RankOf (n : ℕ) (flat ends : List ℕ) (first count r : ℕ) : Type 0 where
  pub few : r ≤ 512
  pub is : few? n count ≡ true → Below n (rows_from flat ends first count) → r ≡ rank n (rows_from flat ends first count)
  pub none : few? n count ≡ false → r ≡ 0

-- In the lists the Z rows follow the X rows.
pub record RanksOf (with-z : Bool) (z : Sizes) (flat ends : List ℕ) (r : ℕ) : Type 0 where
  pub few : r ≤ cond with-z 1024 512
  pub are : Below z.n (rows_from flat ends 0 z.x) → Below z.n (rows_from flat ends z.x z.z)
      → r ≡ rank z.n (rows_from flat ends 0 z.x) + cond with-z (rank z.n (rows_from flat ends z.x z.z)) 0

-- For every input a refusal and an agreement leave the state that the table says. Unless the caller says that a list is short, the record is answered as
-- the table says, whatever the shot's list holds.
pub record Tests (short : Bool) (k : ℕ) (st : State) (flat ends : List ℕ) (r : Reply) : Type 0 where
  pub says : Says (encodes k) st r
  pub does : (six : ℕ → Bool) (shot : List ℕ) → Does short six (encodes k) st (held flat ends shot) (held flat ends shot) r
