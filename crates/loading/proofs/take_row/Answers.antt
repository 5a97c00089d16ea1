-- `loading::take_row` meets its contract. Assumes nothing.
use borrow.Author.Rules.{rules}
use Rattle.records.proofs.Answers.{told_true, told_false}
use Rattle.loading.proofs.TakenRows.{row_place, row_wrong, row_short, unwritten, not_short}
use Rattle.loading.proofs.take_row.Goals as goal

pub returns-then-not-awaits : goal.returns-then-not-awaits
returns-then-not-awaits c =
    unwritten _ _ _ _ _ _ _ _ c.refused.ensures
    (λ six l.
    row_place _ _ l _ _ six _ (told_false _ _ c.awaits.ensures (search rules)) c.refused.ensures)

pub returns-then-not-ascending : goal.returns-then-not-ascending
returns-then-not-ascending c =
    unwritten _ _ _ _ _ _ _ _ c.refused-then-not-ascending.ensures
    (λ six l.
    row_wrong _ _ l _ _ six _ (told_true _ _ c.awaits.ensures (search rules)) (told_false _ _ c.ascending.ensures (search rules))
    c.refused-then-not-ascending.ensures)

pub returns-then-short : goal.returns-then-short
returns-then-short c =
    unwritten _ _ _ _ _ _ _ _ c.refused-then-short.ensures
    (λ six l.
    row_short _ _ l _ _ six _ (told_true _ _ c.awaits.ensures (search rules)) (told_true _ _ c.ascending.ensures (search rules))
    (search rules) c.refused-then-short.ensures)

pub add_row-requires : goal.add_row-requires
add_row-requires c =
    (told_true _ _ c.awaits.ensures (search rules), told_true _ _ c.ascending.ensures (search rules))

pub returns : goal.returns
returns c = not_short _ _ _ _ _ _ _ _ _ (search rules) c.add_row.ensures
