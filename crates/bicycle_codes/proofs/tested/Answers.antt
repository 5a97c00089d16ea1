-- `bicycle_codes::tested` meets its contract. Assumes nothing.
use mathlib.Core.Bool.{◌||◌}
use mathlib.Core.Path.{sym, ap₂, ◌∙◌}
use borrow.Author.Tests.{lt-ltb, le-ltb}
use Rattle.bicycle_codes.proofs.Answers.{on_grid, on_term, on_short, on_written}
use Rattle.bicycle_codes.proofs.tested.Goals as goal

pub returns-then-is_grid : goal.returns-then-is_grid
returns-then-is_grid c = on_grid _ _ (sym c.is_grid.ensures ∙ c.if-is_grid.true)

pub returns-then-is_bad : goal.returns-then-is_bad
returns-then-is_bad c =
    on_term _ _ (sym c.is_grid.ensures ∙ c.if-is_grid.false) (sym (ap₂ ◌||◌ c.is_bad.ensures c.is_bad-2.ensures) ∙ c.if-is_bad.true)

pub returns-then-long-area : goal.returns-then-long-area
returns-then-long-area c =
    on_short _ _ (sym c.is_grid.ensures ∙ c.if-is_grid.false) (sym (ap₂ ◌||◌ c.is_bad.ensures c.is_bad-2.ensures) ∙ c.if-is_bad.false) (rw (← c.area.ensures.0) (lt-ltb _ _ c.if-long-area.true))

pub returns : goal.returns
returns c =
    on_written _ _ (sym c.is_grid.ensures ∙ c.if-is_grid.false) (sym (ap₂ ◌||◌ c.is_bad.ensures c.is_bad-2.ensures) ∙ c.if-is_bad.false) (rw (← c.area.ensures.0) (le-ltb _ _ c.if-long-area.false))
