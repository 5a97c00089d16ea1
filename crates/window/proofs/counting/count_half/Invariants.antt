-- `window::counting::count_half` meets its contract: the entries so far are counted. Assumes nothing.
use mathlib.Core.Path.{◌≡◌}
use Rattle.window.specs.Counts.{Few, counts_from}
use Rattle.window.proofs.counting.count_half.Given as goal

abbrev pub invariant-loop-p : goal.invariant-loop-p
invariant-loop-p l = (l.c ≡ counts_from l.first l.p l.window) × Few l.p l.c
