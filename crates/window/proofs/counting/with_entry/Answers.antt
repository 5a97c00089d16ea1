-- `window::counting::with_entry` meets its contract. Assumes nothing.
use Rattle.window.proofs.Counts.{room_for_one}
use lib.Dec.{eqb}
use Rattle.window.proofs.counting.with_entry.Goals as goal

pub overflow_add-result : goal.overflow_add-result
overflow_add-result c = room_for_one _ (eqb c.args.word 1) c.requires.certain

pub overflow_add-result-2 : goal.overflow_add-result-2
overflow_add-result-2 c = room_for_one _ (eqb c.args.word 2) c.requires.unsure

pub overflow_add-result-3 : goal.overflow_add-result-3
overflow_add-result-3 c = room_for_one _ (eqb c.args.word 3) c.requires.none

pub overflow_add-result-4 : goal.overflow_add-result-4
overflow_add-result-4 c = room_for_one _ (eqb c.args.word 4) c.requires.spent

pub overflow_add-result-5 : goal.overflow_add-result-5
overflow_add-result-5 c = room_for_one _ (eqb c.args.word 5) c.requires.stopped
