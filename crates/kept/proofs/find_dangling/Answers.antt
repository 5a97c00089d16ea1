-- `kept::find_dangling` meets its contract: the rows of the first k words are found. Assumes nothing.
use Prim.Native.Nat.{◌+◌}
use native.Mathlib.Omega.{arith}
use lib.Count.{ones}
use lib.ListN.{set}
use Rattle.kept.proofs.Finding.{Finding, finding_none, finding_few, finding_word, finding_end}
use Rattle.kept.proofs.find_dangling.Goals as goal
use Rattle.kept.proofs.find_dangling.Goals.{After-dangling_word-word}

-- What holds once the word of row `from` is written.
after : (c : After-dangling_word-word)
    → Finding c.args.count c.args.work.now (c.loop-k.k + 1) (c.loop-k.total + ones c.dangling_word-word.result) (set c.loop-k.work (8192 + c.loop-k.k) c.dangling_word-word.result)
after c = finding_word _ _ (omega arith) (omega arith) _ _ _ c.loop-k.invariant.0 (omega arith) _ _ c.loop-k.invariant.1 c.min-end.ensures _ c.dangling_word-word.ensures

pub loop-k-init : goal.loop-k-init
loop-k-init c = (finding_none _ _ (omega arith) (omega arith), omega arith)

pub overflow_add-total : goal.overflow_add-total
overflow_add-total c = omega (arith, finding_few _ _ _ _ _ (after c))

pub loop-k-preserved : goal.loop-k-preserved
loop-k-preserved c = (after c, omega (arith, c.loop-k.invariant.1, c.min-end.ensures))

pub returns : goal.returns
returns c = finding_end _ _ (omega arith) (omega arith) _ _ _ c.loop-k.invariant.0 (omega arith)
