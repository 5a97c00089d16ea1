-- `trying::peels::run` meets its contract: the half that is left to run ends as the whole one. Assumes nothing.
use native.Mathlib.Omega.{arith}
use Rattle.turns.specs.Lent.{working}
use Rattle.trying.proofs.Running.{goes_over, goes_left, goes_on}
use borrow.Author.Rules.{rules}
use Rattle.trying.proofs.peels.run.Goals as goal

pub returns-in-NoRow-clause-tries : goal.returns-in-NoRow-clause-tries
returns-in-NoRow-clause-tries c = goes_left _ _ _ _ _ _ (working c.loop-turns.lists) _ c.loop-turns.invariant.goes (omega arith) (λ e. omega arith) _ _ c.peel_lowest.ensures.peels c.in-NoRow.is

pub loop-turns-preserved : goal.loop-turns-preserved
loop-turns-preserved c = record {
  same = search rules;
  goes = goes_on _ _ _ _ _ _ (working c.loop-turns.lists) _ c.loop-turns.invariant.goes (omega arith) (λ e. omega arith) _ _ c.peel_lowest.ensures.peels c.in-Made.is;
}

pub returns-clause-tries : goal.returns-clause-tries
returns-clause-tries c = goes_over _ _ _ _ _ _ (working c.loop-turns.lists) _ c.loop-turns.invariant.goes (omega arith)
