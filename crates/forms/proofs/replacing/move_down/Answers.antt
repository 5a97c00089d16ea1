-- `forms::replacing::move_down` meets its contract: the first q forms are done. Assumes nothing.
use mathlib.Core.Path.{◌≡◌, refl}
use native.Mathlib.Omega.{arith}
use lib.ListN.{length-set}
use Rattle.forms.proofs.Changing.{changed_start, moved_turn}
use Rattle.forms.proofs.replacing.move_down.Goals as goal

pub loop-q-init : goal.loop-q-init
loop-q-init c = changed_start _ _

pub bounds-forms-at-in-loop-q-3 : goal.bounds-forms-at-in-loop-q-3
bounds-forms-at-in-loop-q-3 c = let e = c.loop-q.invariant.long in rw length-set (omega (arith, c.requires.0))

pub loop-q-preserved : goal.loop-q-preserved
loop-q-preserved c =
    let s = c in
    let l = c.loop-q in
    let e = l.invariant.long in
    moved_turn _ _ _ _ s.requires.1 s.requires.2 (omega arith) l.invariant _ refl

pub returns : goal.returns
returns c = let e : c.loop-q.q ≡ c.args.n = omega arith in rw e at c.loop-q.invariant
