-- `stream::step` meets its contract: a decode, or any other record. Assumes nothing.
use mathlib.Core.Path.{sym, ◌∙◌}
use Rattle.stream.proofs.Taking.{step_decode, step_other}
use Rattle.stream.proofs.step.Goals as goal

pub returns-then-is_decode-clause-promised : goal.returns-then-is_decode-clause-promised
returns-then-is_decode-clause-promised c =
    step_decode _ _ c.shape_of-shape.ensures (sym c.is_decode.ensures ∙ c.if-is_decode.true) _ _ _ c.byte_at-budget.ensures c.number-limit.ensures _ _ _ c.decode_lent.ensures.promised

pub take-requires : goal.take-requires
take-requires c = (c.shape_of-shape.ensures, sym c.is_decode.ensures ∙ c.if-is_decode.false)

pub returns-clause-promised : goal.returns-clause-promised
returns-clause-promised c =
    rw c.take.ensures.window
    (step_other _ _ c.shape_of-shape.ensures (sym c.is_decode.ensures ∙ c.if-is_decode.false) _ _ _ _ _ _ _ _ c.short_passed-short.ensures c.take.ensures.takes)
