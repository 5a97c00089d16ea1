-- What the scans of a row and of marks answer.
--   OpenFrom    the next open qubit of a row, from a place on
--   count_marks  how many qubits have a mark; 0 where the list is short
--   OneLess     one qubit less is marked open
use Rattle.std.specs.Prelude.{◌≡◌, true, cond, List, ℕ, suc, ◌≤◌, ◌<◌, leb, length, get_or, drop}
use Rattle.binary.specs.Meaning.{Qubits}
use Rattle.machine.specs.Machine.{part}
use Rattle.machine.specs.Report.{marked}
use Rattle.machine.specs.Lists.{view}

-- At place r the row has its next open qubit; past its end it has none.
pub record OpenFrom (o : Qubits) (row : List ℕ) (from r : ℕ) : Type 0 where
  pub within : r ≤ length row
  pub skipped : part o (drop from row) ≡ part o (drop r row)
  pub found : r < length row → o (get_or row r 0) ≡ true

abbrev pub count_marks : ℕ → List ℕ → ℕ → ℕ
count_marks n marks m = cond (leb n (length marks)) (marked n (view n marks) m) 0

abbrev pub OneLess : ℕ → List ℕ → List ℕ → Type 0
OneLess n marks marks' = marked n (view n marks) 4 ≡ suc (marked n (view n marks') 4)
