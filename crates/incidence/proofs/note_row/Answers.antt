-- `incidence::note_row` meets its contract. Assumes nothing.
use mathlib.Core.Path.{ap, ◌∙◌}
use Rattle.incidence.specs.Incidence.{note_all}
use Rattle.incidence.proofs.Noting.{noted_first, noted_later}
use Rattle.incidence.proofs.note_row.Goals as goal
use Rattle.incidence.proofs.note_row.Goals.{then-r-eq0, else-r-eq0}

pub returns : goal.returns
returns c =
    elim c.if-r-eq0.branch [
      | then-r-eq0 w ↦ noted_first _ _ _ _ _ w.if-r-eq0.true _ (w.list-is ∙ w.empty.ensures) c.note_all.ensures
      | else-r-eq0 w ↦ noted_later _ _ _ _ _ w.if-r-eq0.false (c.note_all.ensures ∙ ap (note_all _ _) w.list-is)
    ]
