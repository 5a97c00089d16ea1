-- `incidence::note_on` meets its contract. Assumes nothing.
use mathlib.Core.Path.{refl}
use Rattle.incidence.proofs.Noting.{note_off, note_place, note_full}
use borrow.Author.Rules.{rules}
use Rattle.incidence.proofs.note_on.Goals as goal

pub returns-then-list-at : goal.returns-then-list-at
returns-then-list-at c = note_off _ _ _ (search rules)

pub returns-then-number-lt14 : goal.returns-then-number-lt14
returns-then-number-lt14 c = note_place _ _ _ (search rules) _ refl (search rules)

pub returns-else-number-lt14 : goal.returns-else-number-lt14
returns-else-number-lt14 c = note_full _ _ _ (search rules) _ refl (search rules)
