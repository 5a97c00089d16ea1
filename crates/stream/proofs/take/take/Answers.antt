-- `stream::take::take` meets its contract, kind by kind. Assumes nothing.
use mathlib.Core.Logic.{⊎_elim}
use Rattle.stream.proofs.Taking.{at_row, at_lose, at_light, at_unread, take_unknown, take_length, take_size, take_row, take_add, take_logical, take_no_decode}
use Rattle.records.specs.Records.{lost, lit, unread}
use Rattle.stream.proofs.take.take.Goals as goal

pub read_row-requires : goal.read_row-requires
read_row-requires c = let z = at_row _ _ c.requires.0 _ _ c.in-Row.is in z.1

pub returns-in-Unknown-clause-takes : goal.returns-in-Unknown-clause-takes
returns-in-Unknown-clause-takes c =
    ⊎_elim (λ e. take_unknown _ _ c.requires.0 e _ _ _ _ c.refused.ensures) (λ e. take_no_decode _ _ c.requires.0 c.requires.1 e) c.in-Unknown.is

pub returns-in-Wrong-clause-takes : goal.returns-in-Wrong-clause-takes
returns-in-Wrong-clause-takes c = take_length _ _ c.requires.0 c.in-Wrong.is _ _ _ _ c.refused-in-Wrong.ensures

pub returns-in-Size-clause-takes : goal.returns-in-Size-clause-takes
returns-in-Size-clause-takes c =
    take_size _ _ c.requires.0 _ _ _ _ _ _ c.in-Size.is _ _ _ c.number-first.ensures c.number.ensures c.number-in-Size.ensures c.take_sizes.ensures

pub returns-in-Row-clause-takes : goal.returns-in-Row-clause-takes
returns-in-Row-clause-takes c = take_row _ _ c.requires.0 _ _ _ _ _ _ _ _ c.in-Row.is _ _ c.read_row.ensures

pub returns-in-Lose-clause-takes : goal.returns-in-Lose-clause-takes
returns-in-Lose-clause-takes c =
    let pre = c.requires.0 in
    take_add _ _ pre _ _ _ _ _ _ lost (at_lose _ _ pre c.in-Lose.is) _ c.number-first.ensures _ c.lose.ensures

pub returns-in-Light-clause-takes : goal.returns-in-Light-clause-takes
returns-in-Light-clause-takes c =
    let pre = c.requires.0 in
    take_add _ _ pre _ _ _ _ _ _ (lit c.in-Light.kind) (at_light _ _ pre _ c.in-Light.is) _ c.number-first.ensures _ c.note_row.ensures

pub returns-in-Unread-clause-takes : goal.returns-in-Unread-clause-takes
returns-in-Unread-clause-takes c =
    let pre = c.requires.0 in
    take_add _ _ pre _ _ _ _ _ _ (unread c.in-Unread.kind) (at_unread _ _ pre _ c.in-Unread.is) _ c.number-first.ensures _ c.note_row-in-Unread.ensures

pub returns-in-Logical-clause-takes : goal.returns-in-Logical-clause-takes
returns-in-Logical-clause-takes c =
    take_logical _ _ c.requires.0 _ _ _ _ _ _ c.in-Logical.is _ c.number-first.ensures c.test_logical.ensures
