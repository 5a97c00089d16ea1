-- `incidence::note_all` meets its contract: what is left of the row decides. Assumes nothing.
use mathlib.Core.Path.{ap, ◌∙◌}
use borrow.Author.Rules.{rules}
use Rattle.incidence.specs.Incidence.{note_all}
use Rattle.incidence.proofs.Noting.{all_turn, all_done}
use Rattle.incidence.proofs.note_all.Goals as goal

pub loop-q-preserved : goal.loop-q-preserved
loop-q-preserved c = ap (note_all _ _) c.note_on.ensures ∙ all_turn _ _ _ _ _ (search rules) c.loop-q.invariant

pub returns : goal.returns
returns c = all_done _ _ _ _ c.loop-q.q-index (search rules) c.loop-q.invariant
