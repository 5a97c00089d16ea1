-- The lists of a call as it is lent them.
--   code_and_shot  what the lists of code and shot hold; lent_by: what all of them hold, with those of a decode
--   SamePassed     they are the same lists after a call
use Rattle.std.specs.Prelude.{◌≡◌, List, ℕ}
use Rattle.machine.specs.declared.LentHalf.{LentHalf}
use Rattle.machine.specs.Lent.{half_lists}
use Rattle.records.specs.declared.PassedLists.{PassedLists}
use Rattle.records.specs.Lists.{Lists, held, Lent, lent_of}

abbrev pub code_and_shot : PassedLists → Lists
code_and_shot l = held l.flat.now l.ends.now l.shot.now

abbrev pub lent_by : PassedLists → List ℕ → LentHalf → LentHalf → Lent
lent_by l work x z = lent_of (code_and_shot l) l.window.now work (record { x = half_lists x; z = half_lists z })

pub record SamePassed (old new : PassedLists) : Type 0 where
  pub flat : new.flat.ghost_name ≡ old.flat.ghost_name
  pub ends : new.ends.ghost_name ≡ old.ends.ghost_name
  pub shot : new.shot.ghost_name ≡ old.shot.ghost_name
  pub window : new.window.ghost_name ≡ old.window.ghost_name
