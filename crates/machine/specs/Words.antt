-- The five words of a half (document 01, "A half, turn by turn").
--   finished?    certain and unsure are said of a finished half
--   finished     the word of a finished half: certain with no live guess, unsure otherwise
use Rattle.std.specs.Prelude.{Bool, true, false, ℕ, zero, suc}
use Rattle.machine.specs.declared.Word.{Word}
use Rattle.machine.specs.declared.Word.TheVariants.{Certain, Unsure, None, Spent, Stopped}

abbrev pub finished? : Word → Bool
finished? Certain = true
finished? Unsure = true
finished? None = false
finished? Spent = false
finished? Stopped = false

-- A finished half is certain with no live guess, unsure otherwise.
abbrev pub finished : ℕ → Word
finished zero = Certain
finished (suc live) = Unsure
