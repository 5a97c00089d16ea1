-- `filling::by_qubits` meets its contract: the open qubits below q are kept. Assumes nothing.
use native.Mathlib.Omega.{arith}
use mathlib.Core.Path.{◌∙◌}
use Rattle.filling.proofs.KeptQubits.{qubits_not, reached_none, reached_shut, reached_open, reached_past, reached_all}
use Rattle.filling.proofs.Fills.{room_same}
use Rattle.filling.proofs.by_qubits.Goals as goal
use Rattle.filling.proofs.by_qubits.Goals.{else-marks-q-eq-OPEN-via-then-marks-q-eq-OPEN+else-not-keep_qubit, else-marks-q-eq-OPEN-via-else-marks-q-eq-OPEN}

pub loop-q-init : goal.loop-q-init
loop-q-init c = reached_none _ _ _ _ _ _ _ c.requires.size c.requires.few _ c.clear.ensures

pub keep_qubit-requires : goal.keep_qubit-requires
keep_qubit-requires c = room_same _ _ _ _ (c.loop-q.invariant.long ∙ c.clear.ensures.long) c.requires

pub returns-then-not-keep_qubit : goal.returns-then-not-keep_qubit
returns-then-not-keep_qubit c =
    let kept = c.keep_qubit.ensures in
    let before = c.loop-q.invariant in
    qubits_not _ _ _ _ _ _ _ _ (kept.long ∙ before.long ∙ c.clear.ensures.long)
    (λ k h. kept.past (omega (arith, c.requires.size, c.loop-q-test.true)) k h ∙ reached_past _ _ _ _ _ _ _ c.requires.size c.requires.few _ _ before _ c.clear.ensures k h)

pub loop-q-preserved : goal.loop-q-preserved
loop-q-preserved c =
    let before = c.loop-q.invariant in
    let inside = c.loop-q-test.true in
    elim c.else-marks-q-eq-OPEN.branch [
      | else-marks-q-eq-OPEN-via-then-marks-q-eq-OPEN+else-not-keep_qubit w ↦ rw w.work-is (reached_open _ _ _ _ _ _ _ c.requires.size c.requires.few _ _ before inside w.if-marks-q-eq-OPEN.true _ _ w.if-not-keep_qubit.false w.keep_qubit.ensures)
      | else-marks-q-eq-OPEN-via-else-marks-q-eq-OPEN w ↦ rw w.work-is (reached_shut _ _ _ _ _ _ _ c.requires.size c.requires.few _ _ before inside w.if-marks-q-eq-OPEN.false)
    ]

pub returns : goal.returns
returns c = reached_all _ _ _ _ _ _ _ c.requires.size c.requires.few _ _ c.loop-q.invariant (omega arith) _ _ c.requires.words c.clear.ensures c.find_dangling.ensures
