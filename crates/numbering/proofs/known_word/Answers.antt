-- `numbering::known_word` meets its contract. Assumes nothing.
use Rattle.numbering.proofs.Known.{known_none, known_yes, known_no}
use Rattle.numbering.proofs.known_word.Goals as goal
use Rattle.numbering.proofs.known_word.Goals.{then-is_known, else-is_known}

pub loop-b-init : goal.loop-b-init
loop-b-init c = known_none _ _ _

pub loop-b-preserved : goal.loop-b-preserved
loop-b-preserved c =
    let r = c.is_known in
    elim c.if-is_known.branch [
      | then-is_known w ↦ rw w.word-is (known_yes _ _ _ _ _ c.loop-b.invariant _ r.ensures c.loop-b-test.true w.if-is_known.true)
      | else-is_known w ↦ rw w.word-is (known_no _ _ _ _ _ c.loop-b.invariant _ r.ensures w.if-is_known.false)
    ]
