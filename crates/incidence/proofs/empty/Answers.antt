-- `incidence::empty` meets its contract: after q turns the first q qubits are done. Assumes nothing.
use mathlib.Core.Path.{sym, refl, ◌∙◌}
use native.Mathlib.Omega.{arith}
use lib.Seq.{set_out}
use Rattle.incidence.specs.Incidence.{emptied}
use Rattle.incidence.proofs.Noting.{empty_turn}
use Rattle.incidence.proofs.empty.Goals as goal
use Rattle.incidence.proofs.empty.Goals.{then-at-list, else-at-list}

pub loop-q-init : goal.loop-q-init
unfolding emptied
loop-q-init c = refl

pub loop-q-preserved : goal.loop-q-preserved
loop-q-preserved c =
    elim c.if-at-list.branch [
      | then-at-list w ↦ w.list-is ∙ empty_turn _ _ _ c.loop-q.invariant
      | else-at-list w ↦ w.list-is ∙ sym (set_out _ _ _ (omega (arith, w.if-at-list.false))) ∙ empty_turn _ _ _ c.loop-q.invariant
    ]
