-- The lists of a half while it is decoded, as a call is lent them.
--   working    what they hold
--   SameLists  they are the same lists after a call
--   Room       sizes in range and lists long enough for the turns of a half
use Rattle.std.specs.Prelude.{◌≡◌, ℕ, ◌+◌, ◌*◌, ◌≤◌, length}
use Rattle.scans.specs.Rows.{RowLists}
use Rattle.turns.specs.declared.WorkingLists.{WorkingLists}
use Rattle.turns.specs.Turns.{Working}

abbrev pub working : WorkingLists → Working
working l = record { marks = l.marks.now; forms = l.forms.now; work = l.work.now }

pub record SameLists (old new : WorkingLists) : Type 0 where
  pub marks : new.marks.ghost_name ≡ old.marks.ghost_name
  pub forms : new.forms.ghost_name ≡ old.forms.ghost_name
  pub work : new.work.ghost_name ≡ old.work.ghost_name

pub record Room (n : ℕ) (c : RowLists) (l : Working) : Type 0 where
  pub size : n ≤ 1024
  pub marks : n ≤ length l.marks
  pub forms : 4 * n ≤ length l.forms
  pub work : 10240 ≤ length l.work
  pub few : c.count ≤ 512
  pub read : c.first + c.count ≤ length c.lit
  pub last : c.first + c.count ≤ 1024
