-- `trying::peels::peel_lowest` meets its contract. Assumes nothing.
use mathlib.Core.Path.{refl}
use native.Mathlib.Omega.{arith}
use Rattle.turns.proofs.Stays.{stays_same}
use Rattle.turns.specs.Lent.{working}
use Rattle.trying.proofs.Peeling.{peels_unknown, settled_marks, peels_none, peels_made}
use Rattle.trying.proofs.peels.peel_lowest.Goals as goal

pub returns-then-half-i-clause-peels : goal.returns-then-half-i-clause-peels
returns-then-half-i-clause-peels c = peels_none _ _ (working c.args.lists.now) _ c.lowest_row-i.ensures c.requires.work (omega arith)

pub returns-in_default-clause-peels : goal.returns-in_default-clause-peels
returns-in_default-clause-peels c = peels_unknown _ _ _ _ _ c.lowest_row-i.ensures (omega arith) (stays_same _ _) (λ q. refl)

pub returns-then-not-settle-clause-peels : goal.returns-then-not-settle-clause-peels
returns-then-not-settle-clause-peels c =
    let old = working c.args.lists.now in
    peels_unknown _ _ old _ _ c.lowest_row-i.ensures (omega arith) c.settle.ensures.settled.stays
    (settled_marks _ _ old _ _ _ _ c.in-Some.ensures.opened c.settle.ensures.settled)

pub returns-clause-peels : goal.returns-clause-peels
returns-clause-peels c = peels_made _ _ (working c.args.lists.now) _ c.lowest_row-i.ensures c.requires.work (omega arith) c.requires.size _ _ c.in-Some.ensures _ _ (c.if-not-settle.false) c.settle.ensures.settled
