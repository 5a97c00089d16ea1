-- `forms::replacing::move_above` meets its contract: the words up to word u have moved. Assumes nothing.
use mathlib.Core.Path.{◌≡◌}
use native.Mathlib.Omega.{arith}
use Rattle.forms.proofs.Changing.{moved_start, moved_next}
use Rattle.forms.proofs.replacing.move_above.Goals as goal

pub loop-u-init : goal.loop-u-init
loop-u-init c = moved_start _ _ _

pub loop-u-preserved : goal.loop-u-preserved
loop-u-preserved c =
    moved_next _ _ _ _ _ _ (omega arith) c.loop-u.invariant c.move_down.ensures

pub returns : goal.returns
returns c = let e : c.loop-u.u ≡ c.args.top = omega arith in rw e at c.loop-u.invariant
