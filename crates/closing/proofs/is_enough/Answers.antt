-- `closing::is_enough` meets its contract. Assumes nothing.
use Rattle.machine.proofs.FormWords.{four_words}
use Rattle.closing.specs.Closing.{enough?}
use Rattle.closing.proofs.is_enough.Goals as goal

pub returns : goal.returns
unfolding enough?
returns c = rw (← four_words)
