-- `code::push_row` meets its contract: three ways without room, one with. Assumes nothing.
use borrow.Author.Rules.{rules}
use Rattle.code.proofs.Push.{push_endless, push_past, push_wide, push_done, written_part}
use Rattle.code.proofs.push_row.Goals as goal
use Rattle.code.proofs.push_row.Goals.{then-ends-at-via-then-ends-at, then-ends-at-via-else-ends-at+then-flat-stop, then-ends-at-via-else-ends-at+else-flat-stop+then-stop-gt65535}

pub returns-then-ends-at : goal.returns-then-ends-at
returns-then-ends-at c =
    elim c.then-ends-at.branch [
      | then-ends-at-via-then-ends-at w ↦ push_endless _ _ _ _ (search rules)
      | then-ends-at-via-else-ends-at+then-flat-stop w ↦ push_past _ _ _ _ _ c.start_of-start.ensures.0 (search rules)
      | then-ends-at-via-else-ends-at+else-flat-stop+then-stop-gt65535 w ↦ push_wide _ _ _ _ _ c.start_of-start.ensures.0 (search rules)
    ]

pub returns : goal.returns
returns c =
    push_done _ _ _ _ _ c.start_of-start.ensures.0 _ (search rules) (search rules) (search rules)
    (written_part _ _ _ _ _ c.copy_from_slice.ensures.after (search rules))
