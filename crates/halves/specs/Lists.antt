-- The half of which lists hold the code and the shot.
--   half_of  its own rows and the other kind's, the lost qubits, the lit rows and the unread ones
use Rattle.std.specs.Prelude.{◌&&◌, List, ℕ, ◌+◌, ltb, get_or}
use Rattle.binary.specs.Words.{listed}
use Rattle.code.specs.Lists.{rows_from}
use Rattle.machine.specs.Machine.{Half}
use Rattle.machine.specs.Lists.{lit?, unread?}

-- Its own rows are `count` from row `first` on, and the other kind's `others` from row `other` on.
abbrev pub half_of : ℕ → List ℕ → List ℕ → List ℕ → List ℕ → ℕ → ℕ → ℕ → ℕ → Half
half_of n flat ends lost lit first count other others = record {
  size = n;
  rows = rows_from flat ends first count;
  others = rows_from flat ends other others;
  lost = listed n lost;
  lit = λ i. ltb i count && lit? (get_or lit (first + i) 0);
  unread = λ i. ltb i count && unread? (get_or lit (first + i) 0);
}
