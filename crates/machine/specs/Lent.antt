-- The lists of a half as a decode is lent them.
--   half_lists  what they hold
--   SameHalf    they are the same lists after a call
use Rattle.std.specs.Prelude.{◌≡◌}
use Rattle.machine.specs.declared.LentHalf.{LentHalf}
use Rattle.machine.specs.Lists.{HalfLists}

abbrev pub half_lists : LentHalf → HalfLists
half_lists l = record { marks = l.marks.now; forms = l.forms.now; correction = l.correction.now }

pub record SameHalf (old new : LentHalf) : Type 0 where
  pub marks : new.marks.ghost_name ≡ old.marks.ghost_name
  pub forms : new.forms.ghost_name ≡ old.forms.ghost_name
  pub correction : new.correction.ghost_name ≡ old.correction.ghost_name
