-- `search::take_lost` meets its contract. Assumes nothing.
use mathlib.Core.Path.{◌≡◌}
use native.Mathlib.Omega.{arith}
use borrow.Author.Rules.{rules}
use Rattle.search.proofs.Losts.{losts_none, losts_more}
use Rattle.search.proofs.take_lost.Goals as goal

pub loop-q-init : goal.loop-q-init
loop-q-init c = (search rules, losts_none _ _ _ _ _ _ _ (search rules))

pub loop-q-preserved : goal.loop-q-preserved
loop-q-preserved c =
    let t = c.take_if_lost-top.ensures in
    (t.within, losts_more _ _ _ _ _ _ _ _ _ _ _ _ _ _ c.loop-q.invariant.1 t)

pub returns : goal.returns
returns c =
    let e : c.loop-q.q ≡ c.args.n = omega arith in
    rw e at c.loop-q.invariant.1
