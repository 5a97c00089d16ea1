-- `forms::put_side` meets its contract: the first v words are those of the side. Assumes nothing.
use mathlib.Core.Path.{◌≡◌, ◌∙◌}
use Prim.Native.Nat.{◌+◌}
use native.Mathlib.Omega.{arith}
use Rattle.forms.proofs.Putting.{put_start, put_turn, side_word_kept, puts_nothing, puts_side}
use Rattle.forms.proofs.put_side.Goals as goal

pub returns-then-n-qubit : goal.returns-then-n-qubit
returns-then-n-qubit c = puts_nothing _ _ _ _ _ _ (λ a b. absurd (grind arith))

pub loop-v-init : goal.loop-v-init
loop-v-init c = put_start _ _ _

pub loop-v-preserved : goal.loop-v-preserved
loop-v-preserved c =
    let l = c.loop-v in
    let e = l.invariant.long in
    let four = c.top_word-words.ensures.1 in
    put_turn _ _ _ _ _ _ l.invariant (omega arith) (λ j. c.side_word.ensures.bits j ∙ side_word_kept _ 0 _ _ _ _ _ _ (omega arith) l.invariant j)

pub returns : goal.returns
returns c =
    let l = c.loop-v in
    let e : l.v ≡ c.top_word-words.result + 1 = omega arith in
    puts_side _ _ _ _ _ _ _ _ (omega arith) (omega arith) c.top_word-words.ensures.0 (rw e at l.invariant)
