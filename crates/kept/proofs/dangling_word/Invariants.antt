-- `kept::dangling_word` meets its contract: the rows from row j on are in the word. Assumes nothing.
use mathlib.Core.Path.{◌≡◌}
use Prim.Native.Nat.{◌≤◌}
use Rattle.kept.specs.Kept.{dangling_word}
use Rattle.kept.proofs.dangling_word.Given as goal

abbrev pub invariant-loop-j : goal.invariant-loop-j
invariant-loop-j l = (l.j ≤ l.end) × (l.from ≤ l.j) × (l.word ≡ dangling_word l.j l.end l.work)
