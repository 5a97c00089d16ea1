-- `numbering::count` meets its contract. Assumes nothing.
use Rattle.numbering.proofs.Carries.{counted_nothing, counted_low, counted_high}
use borrow.Author.Rules.{rules}
use Rattle.numbering.proofs.count.Goals as goal

pub returns-then-bits-eq0 : goal.returns-then-bits-eq0
returns-then-bits-eq0 c = counted_nothing _ _ _ _ _ (search rules)

pub returns-then-carry-ne0 : goal.returns-then-carry-ne0
returns-then-carry-ne0 c =
    counted_high _ _ _ _ _ _ _ c.ripple-carry.ensures _ _ c.ripple.ensures

pub returns-else-carry-ne0 : goal.returns-else-carry-ne0
returns-else-carry-ne0 c =
    counted_low _ _ _ _ _ _ _ c.ripple-carry.ensures c.if-carry-ne0.false
