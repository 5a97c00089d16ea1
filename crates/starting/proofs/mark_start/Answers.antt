-- `starting::mark_start` meets its contract. Assumes nothing.
use mathlib.Core.Path.{sym, ◌∙◌}
use native.Mathlib.Omega.{arith}
use Rattle.starting.proofs.Ways.{marks_not, marks_searched, searchable_out}
use Rattle.starting.proofs.mark_start.Goals as goal

pub returns-then-not-can_search : goal.returns-then-not-can_search
returns-then-not-can_search c = marks_not _ _ _ _ _ _ _ _ (sym c.can_search.ensures ∙ c.if-not-can_search.true)

pub start_marks-requires : goal.start_marks-requires
start_marks-requires c =
    let f = searchable_out (sym c.can_search.ensures ∙ c.if-not-can_search.false) in
    record { n_in_bounds = omega arith; n_bound = omega arith }

pub search_fixed-requires : goal.search_fixed-requires
search_fixed-requires c =
    let f = searchable_out (sym c.can_search.ensures ∙ c.if-not-can_search.false) in
    (f.size, f.many, f.start, f.words, f.lost_long, omega (arith, f.marks_long, c.start_marks.ensures.long))

pub returns : goal.returns
returns c = marks_searched _ _ _ _ _ _ _ _ (sym c.can_search.ensures ∙ c.if-not-can_search.false) _ _ _ c.start_marks.ensures c.search_fixed.ensures
