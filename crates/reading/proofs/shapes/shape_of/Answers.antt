-- `reading::shapes::shape_of` meets its contract. Assumes nothing.
use mathlib.Core.Path.{sym, ◌∙◌}
use borrow.Author.Rules.{rules}
use Rattle.reading.proofs.RecordBytes.{record_empty, record_unknown, record_wrong, record_right}
use Rattle.reading.proofs.shapes.shape_of.Goals as goal

pub returns-then-is_empty : goal.returns-then-is_empty
returns-then-is_empty c = record_empty _ (search rules)

pub returns-then-is_unknown : goal.returns-then-is_unknown
returns-then-is_unknown c = record_unknown c.args.bytes.now (search rules) c.named-shape.result c.named-shape.ensures.0 (sym c.is_unknown.ensures ∙ c.if-is_unknown.true)

pub returns-then-bytes-length : goal.returns-then-bytes-length
returns-then-bytes-length c =
    record_wrong c.args.bytes.now (search rules) c.named-shape.result c.named-shape.ensures.0 (sym c.is_unknown.ensures ∙ c.if-is_unknown.false)
    (λ e. c.if-bytes-length.true (e ∙ sym c.length.ensures))

pub returns : goal.returns
returns c =
    record_right c.args.bytes.now (search rules) c.named-shape.result c.named-shape.ensures.0 (sym c.is_unknown.ensures ∙ c.if-is_unknown.false) c.named-shape.ensures.1
    (c.if-bytes-length.false ∙ c.length.ensures)
