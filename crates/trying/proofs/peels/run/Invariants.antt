-- `trying::peels::run` meets its contract: the half that is left to run ends as the whole one. Assumes nothing.
use Rattle.scans.specs.Half.{rows_of}
use Rattle.turns.specs.Lent.{working, SameLists}
use Rattle.trying.proofs.Running.{Goes}
use Rattle.trying.proofs.peels.run.Given as goal

abbrev pub invariant-loop-turns : goal.invariant-loop-turns
invariant-loop-turns l = record {
  same : SameLists l.initial.lists l.lists;
  goes : Goes l.half.n (rows_of l.half) l.limit l.fixed l.unsettled (working l.initial.lists) (working l.lists) l.turns;
}
