-- `turns::turns::run` meets its contract: the half that is left to run ends as the whole one. Assumes nothing.
use Prim.Native.Nat.{◌+◌, ◌-◌}
use Rattle.scans.specs.Half.{rows_of}
use Rattle.turns.specs.Lent.{working, SameLists}
use Rattle.turns.proofs.Running.{Goes}
use Rattle.turns.proofs.turns.run.Given as goal

abbrev pub invariant-loop-i : goal.invariant-loop-i
invariant-loop-i l = record {
  same : SameLists l.initial.lists l.lists;
  goes : Goes l.half.n (rows_of l.half) l.budget l.limit l.made (working l.initial.lists) 0 (working l.lists) l.live l.weighed (l.made + l.i) (l.unsettled - l.i);
}
