-- `commuting::even_with` meets its contract: the qubits as a set, and the rows. Assumes nothing.
use mathlib.Core.Path.{refl}
use Rattle.commuting.proofs.Sets.{even_made}
use Rattle.commuting.proofs.even_with.Goals as goal

pub returns : goal.returns
returns c = even_made _ _ _ _ refl c.put_row.ensures _ _ c.all_even.ensures
