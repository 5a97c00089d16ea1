-- `choosing::find_shortest` meets its contract: word by word, the column is the shortest of those seen so far. Assumes nothing.
use Rattle.choosing.specs.Choosing.{ShortestOf}
use Rattle.choosing.proofs.find_shortest.Given as goal

abbrev pub invariant-loop-k : goal.invariant-loop-k
invariant-loop-k l = ShortestOf l.k l.m l.column l.rows
