-- `forms::sides::highest_part` meets its contract: the words from word v on are 0. Assumes nothing.
use mathlib.Core.Path.{◌≡◌}
use mathlib.Core.Bool.{false}
use Prim.Native.Nat.{ℕ, ◌≤◌}
use Rattle.forms.specs.Words.{side_in}
use Rattle.forms.specs.Sides.{check_of}
use Rattle.forms.proofs.sides.highest_part.Given as goal

abbrev pub invariant-loop-v : goal.invariant-loop-v
invariant-loop-v l = (u : ℕ) → l.v ≤ u → u ≤ l.top → (j : ℕ) → side_in l.n l.forms (check_of l.check) u j ≡ false
