-- `closing::close_rows` meets its contract. Assumes nothing.
use mathlib.Core.Bool.{not}
use mathlib.Core.Path.{refl, ap}
use Rattle.scans.specs.Half.{rows_of}
use Rattle.closing.proofs.ClosingRows.{enough_out, closed_refused, closed_made}
use Rattle.closing.proofs.close_rows.Goals as goal

pub returns-then-not-is_enough : goal.returns-then-not-is_enough
returns-then-not-is_enough c = closed_refused _ (rows_of c.args.half.now) _ _ _ _ _ c.is_enough.ensures (ap not c.if-not-is_enough.true) _ _ refl refl

pub close-requires : goal.close-requires
close-requires c = enough_out _ (rows_of c.args.half.now) _ c.args.live c.args.forms.now c.args.work.now _ c.is_enough.ensures (ap not c.if-not-is_enough.false)

pub returns : goal.returns
returns c = closed_made _ (rows_of c.args.half.now) _ _ _ _ _ c.is_enough.ensures (ap not c.if-not-is_enough.false) _ _ _ c.close.ensures
