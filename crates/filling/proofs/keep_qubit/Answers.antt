-- `filling::keep_qubit` meets its contract. Assumes nothing.
use Rattle.filling.proofs.KeptQubits.{qubit_kept}
use Rattle.filling.proofs.keep_qubit.Goals as goal

pub returns-in-Some : goal.returns-in-Some
returns-in-Some c = let listed = c.in-Some.ensures.listed in qubit_kept _ _ _ _ _ _ _ listed.2 listed.1 _ c.put_rows.ensures
