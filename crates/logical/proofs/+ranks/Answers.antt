-- `logical::ranks` meets its contract: the call inside asks for the X rows alone. Assumes nothing.
use mathlib.Core.Path.{◌≡◌}
use mathlib.Core.Bool.{cond}
use Prim.Native.Nat.{ℕ}
use native.Mathlib.Omega.{arith}
use borrow.Author.Tests.{lt-ltb, le-ltb}
use lib.Dec.{ltb}
use Rattle.logical.proofs.Ranking.{x_ranked, both_ranked}
use Rattle.logical.proofs.+ranks.Goals as goal

pub ranks-before-requires : goal.ranks-before-requires
ranks-before-requires t c =
    let a = c.args in
    let one : 1 ≡ t = rw (lt-ltb a.sizes.x a.to c.if-x-to.true) at c.decreases in
    let none : ◌≡◌ {A = ℕ} (cond (ltb a.sizes.x a.sizes.x) 1 0) 0 = rw (le-ltb a.sizes.x a.sizes.x (omega arith)) in
    (omega (arith, one, none), c.requires)

pub returns-then-x-to : goal.returns-then-x-to
returns-then-x-to t c = both_ranked _ _ _ _ c.requires c.if-x-to.true _ _ c.ranks-before.ensures c.rank.ensures

pub returns : goal.returns
returns t c = x_ranked _ _ _ _ c.requires c.if-x-to.false _ c.rank-2.ensures
