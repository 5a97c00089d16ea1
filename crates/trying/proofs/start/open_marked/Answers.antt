-- `trying::start::open_marked` meets its contract. Assumes nothing.
use native.Mathlib.Omega.{arith}
use borrow.Author.Rules.{rules}
use Rattle.trying.proofs.Starting.{reached_few, reached_open, reached_shut, opened_all}
use Rattle.trying.proofs.start.open_marked.Goals as goal
use Rattle.trying.proofs.start.open_marked.Goals.{then-lists-at-eq-OPEN+in_ok-on, else-lists-at-eq-OPEN}

pub overflow_add-total : goal.overflow_add-total
overflow_add-total c = omega (arith, c.requires.size, reached_few _ _ _ _ _ _ _ c.loop-at.invariant.reached)

pub loop-at-preserved : goal.loop-at-preserved
loop-at-preserved c =
    let v = c.loop-at.invariant in
    let inside = c.loop-at-test.true in
    elim c.if-lists-at-eq-OPEN.branch [
      | then-lists-at-eq-OPEN+in_ok-on w ↦ let on = w.in_ok-on.ensures.listed in rw (w.lists-is, w.total-is) record {
        same = search rules;
        marks = search rules;
        forms = search rules;
        reached = reached_open _ _ _ _ _ _ _ v.reached inside c.requires.size (cc) on.1 _ on.2 _ w.open_rows.ensures;
      }
      | else-lists-at-eq-OPEN w ↦ rw (w.lists-is, w.total-is) record { same = v.same; marks = v.marks; forms = v.forms; reached = reached_shut _ _ _ _ _ _ _ v.reached inside (λ e. w.if-lists-at-eq-OPEN.false (cc)) }
    ]

pub returns-clause-opened : goal.returns-clause-opened
returns-clause-opened c = let v = c.loop-at.invariant in opened_all _ _ _ _ v.marks v.forms _ _ v.reached (omega arith) (omega arith)
