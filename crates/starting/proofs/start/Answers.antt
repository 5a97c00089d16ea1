-- `starting::start` meets its contract. Assumes nothing.
use mathlib.Core.Path.{sym, ◌∙◌}
use native.Mathlib.Omega.{arith}
use Rattle.starting.proofs.Ways.{starts_not, enough_out, starts_peeled, starts_searched}
use Rattle.starting.proofs.start.Goals as goal

pub returns-then-not-is_enough : goal.returns-then-not-is_enough
returns-then-not-is_enough c = starts_not _ _ _ _ _ _ _ (sym c.is_enough.ensures ∙ c.if-not-is_enough.true)

pub peel_first-requires : goal.peel_first-requires
peel_first-requires c =
    let f = enough_out (sym c.is_enough.ensures ∙ c.if-not-is_enough.false) in
    (f.size, f.few, f.start, f.words, f.lost_long, f.marks_long, f.lit_long)

pub restore-requires : goal.restore-requires
restore-requires c =
    let f = enough_out (sym c.is_enough.ensures ∙ c.if-not-is_enough.false) in
    (omega arith, omega (arith, f.words, c.peel_first.ensures.long))

pub returns-then-peel_first : goal.returns-then-peel_first
returns-then-peel_first c = starts_peeled _ _ _ _ _ _ _ (sym c.is_enough.ensures ∙ c.if-not-is_enough.false) _ _ _ c.peel_first.ensures c.if-peel_first.true _ c.restore.ensures

pub search_fixed-requires : goal.search_fixed-requires
search_fixed-requires c =
    let f = enough_out (sym c.is_enough.ensures ∙ c.if-not-is_enough.false) in
    let v = c.peel_first.ensures in
    (f.size, f.many, f.other_start, omega (arith, f.words, v.long), f.lost_long, omega (arith, f.marks_long, v.opened.long))

pub returns : goal.returns
returns c =
    starts_searched _ _ _ _ _ _ _ (sym c.is_enough.ensures ∙ c.if-not-is_enough.false) _ _ _ _ _ c.peel_first.ensures.long c.peel_first.ensures.opened c.search_fixed.ensures c.fill.ensures
