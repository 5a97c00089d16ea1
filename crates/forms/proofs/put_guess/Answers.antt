-- `forms::put_guess` meets its contract: the words below the guess's are cleared. Assumes nothing.
use native.Mathlib.Omega.{arith}
use Rattle.forms.proofs.Putting.{guess_nothing, puts_guess}
use Rattle.forms.proofs.put_guess.Goals as goal

pub returns-then-n-qubit : goal.returns-then-n-qubit
returns-then-n-qubit c = guess_nothing _ _ _ _ (λ a b d. absurd (grind arith))

pub returns : goal.returns
returns c =
    puts_guess _ _ _ _ (omega arith) (omega arith) (omega arith) _ c.clear.ensures
