-- `filling::fill` meets its contract. Assumes nothing.
use mathlib.Core.Path.{refl, ◌∙◌}
use Rattle.filling.proofs.Fills.{fills_not, fills_qubits, fills_rows, room_told, room_same, enough_told}
use Rattle.filling.proofs.fill.Goals as goal

pub returns-then-not-enough : goal.returns-then-not-enough
returns-then-not-enough c = fills_not _ _ _ _ _ (enough_told _ _ _ _ _ c.is_sized.ensures c.if-not-enough.true) refl

pub by_qubits-requires : goal.by_qubits-requires
by_qubits-requires c = room_told _ _ _ _ c.is_sized.ensures c.if-not-enough.false

pub by_rows-requires : goal.by_rows-requires
by_rows-requires c = room_same _ _ _ _ c.by_qubits.ensures.long (room_told _ _ _ _ c.is_sized.ensures c.if-not-enough.false)

pub returns-then-not-by_qubits : goal.returns-then-not-by_qubits
returns-then-not-by_qubits c =
    let r = room_told _ _ _ _ c.is_sized.ensures c.if-not-enough.false in
    let rows = c.by_rows.ensures in
    fills_rows _ _ _ _ _ (rows.0 ∙ c.by_qubits.ensures.long) (λ k h. rows.1 k h ∙ c.by_qubits.ensures.past k h)
    (enough_told _ _ _ _ _ c.is_sized.ensures c.if-not-enough.false) r.few rows.2

pub returns-else-not-by_qubits : goal.returns-else-not-by_qubits
returns-else-not-by_qubits c = fills_qubits _ _ _ _ _ _ c.if-not-by_qubits.false (enough_told _ _ _ _ _ c.is_sized.ensures c.if-not-enough.false) c.by_qubits.ensures
