-- The machine's state as the lent lists hold it.
--   state_of  marks and forms as lists, with the live guesses and the turns made
use Rattle.std.specs.Prelude.{List, ℕ}
use Rattle.machine.specs.Machine.{State}
use Rattle.machine.specs.Lists.{view}
use Rattle.forms.specs.Forms.{with_live}

abbrev pub state_of : ℕ → List ℕ → List ℕ → ℕ → ℕ → State
state_of n marks forms live turns = record { mark = view n marks; forms = with_live n forms live; turns = turns }
