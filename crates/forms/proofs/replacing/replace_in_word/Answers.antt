-- `forms::replacing::replace_in_word` meets its contract: the first q forms are done. Assumes nothing.
use mathlib.Core.Path.{◌≡◌}
use native.Mathlib.Omega.{arith}
use Rattle.forms.proofs.Changing.{changed_start, replaced_turn, replaced_skip}
use Rattle.forms.proofs.replacing.replace_in_word.Goals as goal
use Rattle.forms.proofs.replacing.replace_in_word.Goals.{then-word-k-ne0, else-word-k-ne0}

pub loop-q-init : goal.loop-q-init
loop-q-init c = changed_start _ _

pub returns : goal.returns
returns c = let e : c.loop-q.q ≡ c.args.n = omega arith in rw e at c.loop-q.invariant

pub loop-q-preserved : goal.loop-q-preserved
loop-q-preserved c =
    let l = c.loop-q in
    let e = l.invariant.long in
    elim c.if-word-k-ne0.branch [
      | then-word-k-ne0 w ↦ rw w.forms-is (replaced_turn _ _ _ _ _ _ c.requires.1 (omega arith) l.invariant _ w.replaced.ensures)
      | else-word-k-ne0 w ↦ rw w.forms-is (replaced_skip _ _ _ _ _ _ c.requires.1 (omega arith) l.invariant w.if-word-k-ne0.false)
    ]
