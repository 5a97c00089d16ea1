-- What the decode of a half does to the lists.
--   half_in      the half whose rows and readings, lost qubits and other kind's rows the lists hold
--   RowsObey    the rows obey document 01
--   working_of   marks, forms and work list together
--   HalfRoom    sizes in range and lists long enough for the start and the turns of a half
--   HalfRan     the start and the turns of a half
--   Finished    what the half leaves in its lists, by its word
use Rattle.std.specs.Prelude.{◌≡◌, cond, List, ℕ, ◌+◌, ◌*◌, ◌%◌, ◌≤◌, length, get_or, Option, Some}
use Rattle.binary.specs.Meaning.{All, Commute}
use Rattle.code.specs.Lists.{rows_from}
use Rattle.code.specs.Tests.{Ascending}
use Rattle.scans.specs.Rows.{RowLists, GoodRows}
use Rattle.turns.specs.Turns.{Working, Stays}
use Rattle.turns.specs.Runs.{Ran}
use Rattle.machine.specs.declared.Word.{Word}
use Rattle.machine.specs.declared.HalfReport.{HalfReport}
use Rattle.machine.specs.Machine.{Half, decoded}
use Rattle.machine.specs.Words.{finished?}
use Rattle.machine.specs.Report.{none?}
use Rattle.machine.specs.Lists.{HalfLists}
use Rattle.halves.specs.Lists.{half_of}
use Rattle.lists.specs.Filled.{Filled}

-- The half whose rows and readings, lost qubits and other kind's rows the lists hold.
abbrev pub half_in : ℕ → RowLists → List ℕ → ℕ → ℕ → Half
half_in n c lost other others = half_of n c.flat c.ends lost c.lit c.first c.count other others

-- The half's own rows and the other kind's are strictly ascending and below n, and commute.
pub record RowsObey (n : ℕ) (c : RowLists) (other others : ℕ) : Type 0 where
  pub own : GoodRows n c
  pub other_kind : All (Ascending n) (rows_from c.flat c.ends other others)
  pub commute : Commute (rows_from c.flat c.ends c.first c.count) (rows_from c.flat c.ends other others)

----------------------------------------------------------------------
-- Its start and its turns

abbrev pub working_of : List ℕ → List ℕ → List ℕ → Working
working_of marks forms work = record { marks = marks; forms = forms; work = work }

pub record HalfRoom (n : ℕ) (c : RowLists) (lost : List ℕ) (other others : ℕ) (l : Working) : Type 0 where
  pub size : n ≤ 1024
  pub few : c.count ≤ 512
  pub few_others : others ≤ 512
  pub first : c.first ≤ 512
  pub other_first : other ≤ 512
  pub work : 10240 ≤ length l.work
  pub losses : n ≤ length lost
  pub read : c.first + c.count ≤ length c.lit
  pub marks : n ≤ length l.marks
  pub forms : 4 * n ≤ length l.forms

-- Of rows that obey, the end is the machine's.
pub record HalfRan (n : ℕ) (c : RowLists) (lost : List ℕ) (other others budget limit : ℕ) (old new : Working) (a : Option HalfReport) : Type 0 where
  pub stays : Stays n old new
  pub over : (r : HalfReport) × (a ≡ Some r) × (RowsObey n c other others → Ran n c new r (decoded (half_in n c lost other others) budget limit))

----------------------------------------------------------------------
-- What a half leaves

-- By the word: marks and forms stay, or are 0 after none; the correction is the constants of a finished half's forms, and else 0.
pub record Finished (n : ℕ) (word : Word) (old new : HalfLists) : Type 0 where
  pub marks : Filled (λ q. cond (none? word) 0 (get_or old.marks q 0)) n old.marks new.marks
  pub forms : Filled (λ i. cond (none? word) 0 (get_or old.forms i 0)) (4 * n) old.forms new.forms
  pub correction : Filled (λ q. cond (finished? word) (get_or old.forms (4 * q) 0 % 2) 0) n old.correction new.correction
