-- `forms::sides::word_of` meets its contract. Assumes nothing.
use mathlib.Core.Path.{sym}
use native.Mathlib.Omega.{arith}
use Rattle.forms.proofs.FormWords.{word_in, word_out}
use Rattle.forms.proofs.sides.word_of.Goals as goal

pub returns-then-n-qubit : goal.returns-then-n-qubit
returns-then-n-qubit c = let a = c.args in sym (word_out a.n a.forms.now a.v a.q.0 (omega arith))

pub returns : goal.returns
returns c = let a = c.args in sym (word_in a.n a.forms.now a.v a.q.0 (omega arith))
