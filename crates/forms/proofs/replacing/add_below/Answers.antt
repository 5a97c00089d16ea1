-- `forms::replacing::add_below` meets its contract: the words below word u are added. Assumes nothing.
use mathlib.Core.Path.{◌≡◌, ◌∙◌}
use native.Mathlib.Omega.{arith}
use Rattle.forms.proofs.Changing.{side_kept, below_start, below_turn}
use Rattle.forms.proofs.replacing.add_below.Goals as goal

pub loop-u-init : goal.loop-u-init
loop-u-init c = below_start _ _ _ _ _

pub loop-u-preserved : goal.loop-u-preserved
loop-u-preserved c =
    let l = c.loop-u in
    below_turn _ _ _ _ _ _ _ _ _ c.loop-u-test.true l.invariant
    (λ j. c.side_word-side.ensures.bits j ∙ side_kept _ _ _ _ _ _ _ _ l.invariant j) c.add_side.ensures

pub returns : goal.returns
returns c = let e : c.loop-u.u ≡ c.args.v = omega arith in rw e at c.loop-u.invariant
