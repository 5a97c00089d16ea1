-- `forms::sides::highest_part` meets its contract: the words from word v on are 0. Assumes nothing.
use mathlib.Core.Path.{◌≡◌}
use mathlib.Core.Logic.{⊎_elim}
use Prim.Native.Nat.{◌-◌, ◌≤◌, ◌<◌}
use native.Mathlib.Omega.{arith}
use Rattle.binary.proofs.WordBits.{order}
use Rattle.forms.proofs.FormWords.{side_zero}
use Rattle.forms.proofs.sides.highest_part.Goals as goal

pub loop-v-init : goal.loop-v-init
loop-v-init c = λ u a b. absurd (omega arith)

pub returns-then-word-ne0 : goal.returns-then-word-ne0
returns-then-word-ne0 c =
    record { within = omega arith; is = c.side_word-word.ensures; some = λ p e. c.if-word-ne0.true e; above = λ u a b. c.loop-v.invariant u (omega arith) b }

pub loop-v-preserved : goal.loop-v-preserved
loop-v-preserved c =
    let l = c.loop-v in
    λ u a b j. ⊎_elim (λ (h : u < l.v). let e : u ≡ l.v - 1 = omega arith in rw e (side_zero _ _ _ _ _ c.side_word-word.ensures c.if-word-ne0.false j))
    (λ (h : l.v ≤ u). l.invariant u h b j) (order u l.v)

pub returns : goal.returns
returns c = record { within = omega arith; is = c.side_word.ensures; some = λ p. absurd (omega arith); above = λ u a b. c.loop-v.invariant u (omega arith) b }
