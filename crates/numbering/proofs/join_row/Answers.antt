-- `numbering::join_row` meets its contract. Assumes nothing.
use Rattle.numbering.proofs.Counting.{rows_in_lem, where_inside, not_inside}
use Rattle.numbering.proofs.join_row.Goals as goal

pub join_words-requires : goal.join_words-requires
join_words-requires g c =
    let f = c in
    let a = f.args in
    rows_in_lem a.w a.from a.to a.work.now _ _ f.lies_in.ensures f.lies_in-2.ensures c.if-lies_in.true

pub returns-then-lies_in : goal.returns-then-lies_in
returns-then-lies_in g c =
    let f = c in
    where_inside _ _ _ _ _ _ f.lies_in.ensures f.lies_in-2.ensures _ _ c.if-lies_in.true c.join_words.ensures

pub returns-else-lies_in : goal.returns-else-lies_in
returns-else-lies_in g c = not_inside _ _ _ _ _ _ c.lies_in.ensures c.lies_in-2.ensures _ c.if-lies_in.false
