-- `kept::lower` meets its contract. Assumes nothing.
use lib.ListN.{length-set}
use native.Mathlib.Omega.{arith}
use Rattle.kept.proofs.Tallying.{dangles_never, dangles_turned, lowered}
use borrow.Author.Rules.{rules}
use Rattle.kept.proofs.lower.Goals as goal

pub returns-then-left-lt2 : goal.returns-then-left-lt2
returns-then-left-lt2 c =
    lowered _ _ (search rules) (search rules) _ (omega arith) _
    (dangles_turned _ _ _ (search rules) (search rules) (omega arith) (omega arith) _ (c.change.ensures.changed (rw length-set (search rules)) (search rules)))

pub returns-else-left-lt2 : goal.returns-else-left-lt2
returns-else-left-lt2 c =
    lowered _ _ (search rules) (search rules) _ (omega arith) _
    (dangles_never _ _ _ (search rules) (search rules) (λ e. omega arith) (λ e. omega arith))
