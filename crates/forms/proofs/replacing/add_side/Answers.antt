-- `forms::replacing::add_side` meets its contract: the first q forms are done. Assumes nothing.
use mathlib.Core.Path.{◌≡◌}
use native.Mathlib.Omega.{arith}
use Rattle.forms.proofs.Changing.{changed_start, added_turn, added_skip}
use Rattle.forms.proofs.WordBits.{odd_bit, even_bit}
use Rattle.forms.proofs.replacing.add_side.Goals as goal
use Rattle.forms.proofs.replacing.add_side.Goals.{then-forms-guess-eq1, else-forms-guess-eq1}

pub loop-q-init : goal.loop-q-init
loop-q-init c = changed_start _ _

pub returns : goal.returns
returns c = let e : c.loop-q.q ≡ c.args.n = omega arith in rw e at c.loop-q.invariant

pub loop-q-preserved : goal.loop-q-preserved
loop-q-preserved c =
    let l = c.loop-q in
    let e = l.invariant.long in
    elim c.if-forms-guess-eq1.branch [
      | then-forms-guess-eq1 w ↦ rw w.forms-is (added_turn _ _ _ _ _ _ _ c.requires.1 c.requires.3 (omega arith) l.invariant (odd_bit _ _ w.if-forms-guess-eq1.true))
      | else-forms-guess-eq1 w ↦ rw w.forms-is (added_skip _ _ _ _ _ _ _ c.requires.1 c.requires.3 (omega arith) l.invariant (even_bit _ _ w.if-forms-guess-eq1.false))
    ]
