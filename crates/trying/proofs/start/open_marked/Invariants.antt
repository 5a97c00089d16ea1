-- `trying::start::open_marked` meets its contract. Assumes nothing.
use mathlib.Core.Path.{◌≡◌}
use Rattle.scans.specs.Half.{rows_of}
use Rattle.turns.specs.Lent.{SameLists}
use Rattle.trying.proofs.Starting.{Reached}
use Rattle.trying.proofs.start.open_marked.Given as goal

abbrev pub invariant-loop-at : goal.invariant-loop-at
invariant-loop-at l = record {
  same : SameLists l.initial.lists l.lists;
  marks : l.lists.marks.now ≡ l.initial.lists.marks.now;
  forms : l.lists.forms.now ≡ l.initial.lists.forms.now;
  reached : Reached l.half.n (rows_of l.half) l.initial.lists.marks.now l.initial.lists.work.now l.at l.lists.work.now l.total;
}
