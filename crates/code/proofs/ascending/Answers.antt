-- `code::ascending` meets its contract: what is left of the row, from `least` on, decides. Assumes nothing.
use mathlib.Core.Path.{refl}
use borrow.Author.Rules.{rules}
use Rattle.code.specs.Tests.{ascending?}
use Rattle.code.proofs.Turns.{ascending_low, ascending_high, ascending_turn, ascending_end}
use Rattle.code.proofs.ascending.Goals as goal
use Rattle.code.proofs.ascending.Goals.{then-q-least-via-then-q-least, then-q-least-via-else-q-least+then-n-q}

pub loop-q-init : goal.loop-q-init
unfolding ascending?
loop-q-init c = refl

pub returns-then-q-least : goal.returns-then-q-least
returns-then-q-least c =
    elim c.then-q-least.branch [
      | then-q-least-via-then-q-least w ↦ ascending_low _ _ c.loop-q.q-index _ c.loop-q.invariant _ (search rules) refl (search rules)
      | then-q-least-via-else-q-least+then-n-q w ↦ ascending_high _ _ c.loop-q.q-index _ c.loop-q.invariant _ (search rules) refl (search rules)
    ]

pub loop-q-preserved : goal.loop-q-preserved
loop-q-preserved c = ascending_turn _ _ c.loop-q.q-index _ c.loop-q.invariant _ (search rules) refl (search rules) (search rules)

pub returns : goal.returns
returns c = ascending_end _ _ c.loop-q.q-index _ c.loop-q.invariant (search rules)
