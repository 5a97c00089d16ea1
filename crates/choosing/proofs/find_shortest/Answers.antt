-- `choosing::find_shortest` meets its contract: word by word, the column is the shortest of those seen so far. Assumes nothing.
use native.Mathlib.Omega.{arith}
use Rattle.choosing.proofs.Words.{shortest_none, shortest_same, shortest_new}
use Rattle.choosing.proofs.find_shortest.Goals as goal
use Rattle.choosing.proofs.find_shortest.Goals.{then-word-ne0+then-here-rows, then-word-ne0+else-here-rows, else-word-ne0}

pub loop-k-preserved : goal.loop-k-preserved
loop-k-preserved c =
    let s = c.loop-k.invariant in
    elim c.if-word-ne0.branch [
      | then-word-ne0+then-here-rows w ↦ rw (w.column-is, w.rows-is) (shortest_new _ _ _ _ s _ w.shortest_in-here.ensures w.if-here-rows.true)
      | then-word-ne0+else-here-rows w ↦ rw (w.column-is, w.rows-is) (shortest_same _ _ _ _ s _ w.shortest_in-here.ensures w.if-here-rows.false)
      | else-word-ne0 w ↦ rw (w.column-is, w.rows-is) (shortest_none _ _ _ _ s (omega (arith, w.if-word-ne0.false)))
    ]
