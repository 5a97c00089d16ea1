-- `kept::find_dangling` meets its contract: the rows of the first k words are found. Assumes nothing.
use mathlib.Core.Path.{◌≡◌}
use Prim.Native.Nat.{◌*◌}
use Rattle.std.specs.Prelude.{min}
use Rattle.kept.proofs.Finding.{Finding}
use Rattle.kept.proofs.find_dangling.Given as goal

abbrev pub invariant-loop-k : goal.invariant-loop-k
invariant-loop-k l = Finding l.count l.initial.work l.k l.total l.work × (l.from ≡ min l.count (64 * l.k))
