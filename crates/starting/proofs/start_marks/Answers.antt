-- `starting::start_marks` meets its contract: the first q qubits are marked. Assumes nothing.
use mathlib.Core.Path.{◌∙◌}
use borrow.Author.Rules.{rules}
use native.Mathlib.Omega.{arith}
use Rattle.lists.proofs.Filling.{fill_none, fill_turn, fill_end}
use Rattle.starting.proofs.OpenMarks.{lost_open, kept_unmarked}
use Rattle.starting.proofs.start_marks.Goals as goal
use Rattle.starting.proofs.start_marks.Goals.{then-lost-q-eq1, else-lost-q-eq1}

pub loop-q-init : goal.loop-q-init
loop-q-init c = fill_none _ _

pub returns : goal.returns
returns c = fill_end _ _ _ _ _ c.loop-q.invariant (omega arith) (search rules)

pub loop-q-preserved : goal.loop-q-preserved
loop-q-preserved c =
    let args = c.args in
    fill_turn _ _ _ _ _ c.loop-q.invariant (search rules)
    (elim c.if-lost-q-eq1.branch [
      | then-lost-q-eq1 w ↦ w.marks-is ∙ lost_open args.n args.lost.now c.loop-q.q (search rules) w.if-lost-q-eq1.true
      | else-lost-q-eq1 w ↦ w.marks-is ∙ kept_unmarked args.n args.lost.now c.loop-q.q (search rules) w.if-lost-q-eq1.false
    ])
