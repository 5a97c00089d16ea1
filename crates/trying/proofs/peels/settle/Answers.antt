-- `trying::peels::settle` meets its contract. Assumes nothing.
use native.Mathlib.Omega.{arith}
use Rattle.turns.specs.Lent.{working}
use Rattle.trying.proofs.SettlingQubit.{qubit_settled}
use Rattle.trying.proofs.peels.settle.Goals as goal

pub returns-clause-settled : goal.returns-clause-settled
returns-clause-settled c =
    let room = c.requires.room in
    let on = c.in-Some.ensures.listed in
    let p_lt_n = c.requires.p_lt_n in
    qubit_settled _ _ _ _ (working c.args.lists.now) _ p_lt_n.0 (omega arith) c.put_value.ensures room.size on.1 _ on.2 _ _ c.settle_rows.ensures
