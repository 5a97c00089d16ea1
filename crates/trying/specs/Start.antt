-- The start of a try: each qubit that is marked open is open.
--   RowsCleared   the numbers of the rows while no qubit is open
--   MarkedOpened  the open qubits are open in the numbers of the rows
use Rattle.std.specs.Prelude.{◌≡◌, List, ℕ, length, Option, Some}
use Rattle.binary.specs.Meaning.{no_qubit}
use Rattle.machine.specs.Machine.{is_open}
use Rattle.machine.specs.Report.{marked}
use Rattle.machine.specs.Lists.{view}
use Rattle.scans.specs.Rows.{RowLists, GoodRows}
use Rattle.turns.specs.Turns.{Working}
use Rattle.trying.specs.Entries.{HasEntries, rows_over}

pub record RowsCleared (count : ℕ) (old new : List ℕ) : Type 0 where
  pub long : length new ≡ length old
  pub entries : (c : RowLists) → c.count ≡ count → HasEntries no_qubit no_qubit c new

-- Where the rows on each open qubit are listed: so many are open.
pub record AllOpened (n : ℕ) (c : RowLists) (marks work work' : List ℕ) (open_now : ℕ) : Type 0 where
  pub number : open_now ≡ marked n (view n marks) 4
  pub entries : (flat : List ℕ) → let d = rows_over flat c in GoodRows n d → HasEntries no_qubit no_qubit d work → HasEntries (is_open (view n marks)) no_qubit d work'

-- Marks and forms stay.
pub record MarkedOpened (n : ℕ) (c : RowLists) (old new : Working) (r : Option ℕ) : Type 0 where
  pub stays : new ≡ record old { work = new.work }
  pub long : length new.work ≡ length old.work
  pub all : (open_now : ℕ) → r ≡ Some open_now → AllOpened n c old.marks old.work new.work open_now
