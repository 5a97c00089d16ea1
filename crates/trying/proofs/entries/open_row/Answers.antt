-- `trying::entries::open_row` meets its contract. Assumes nothing.
use mathlib.Core.Path.{sym, ◌∙◌}
use Rattle.binary.proofs.Bits.{never}
use Rattle.trying.proofs.OnQubit.{not_among}
use Rattle.trying.proofs.OpeningRows.{row_passed, row_opened}
use Rattle.trying.proofs.entries.open_row.Goals as goal

pub returns-in_default : goal.returns-in_default
returns-in_default c = row_passed _ _ _ _ _ _ (λ i a. not_among _ _ _ c.in_default.ensures.none i a.is a.within)

pub returns-then-not-is_read : goal.returns-then-not-is_read
returns-then-not-is_read c = row_passed _ _ _ _ _ _ (λ i a. never a.read (sym c.is_read.ensures ∙ c.if-not-is_read.true))

pub returns : goal.returns
returns c = let i = c.in-Some.ensures.found in row_opened _ _ _ _ _ _ _ i.0 i.1 (sym c.is_read.ensures ∙ c.if-not-is_read.false) c.requires.0 c.requires.1 _ c.raise.ensures
