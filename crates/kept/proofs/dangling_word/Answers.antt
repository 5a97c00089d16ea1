-- `kept::dangling_word` meets its contract: the rows from row j on are in the word. Assumes nothing.
use mathlib.Core.Path.{◌≡◌}
use Prim.Native.Nat.{◌-◌}
use native.Mathlib.Omega.{arith}
use borrow.Author.Rules.{rules}
use Rattle.kept.proofs.Finding.{word_none, word_more, word_few}
use Rattle.kept.proofs.dangling_word.Goals as goal

pub loop-j-init : goal.loop-j-init
loop-j-init c = (search rules, search rules, word_none _ _)

pub overflow_mul-word : goal.overflow_mul-word
overflow_mul-word c = omega (arith, word_few c.args.end c.args.work.now 63 c.loop-j.j (omega arith))

pub overflow_add-word-in-loop-j : goal.overflow_add-word-in-loop-j
overflow_add-word-in-loop-j c =
    let a = c.args in
    let j = c.loop-j.j in
    rw (c.loop-j.invariant.2, word_more a.end a.work.now j (omega arith) (omega arith))
    (omega (arith, word_few a.end a.work.now 64 (j - 1) (omega arith)))

pub loop-j-preserved : goal.loop-j-preserved
loop-j-preserved c = (search rules, search rules, rw c.loop-j.invariant.2 (word_more _ _ _ (omega arith) (omega arith)))

pub returns : goal.returns
returns c = let e : c.loop-j.j ≡ c.args.from = omega arith in rw e at c.loop-j.invariant.2
