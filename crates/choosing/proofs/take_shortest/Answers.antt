-- `choosing::take_shortest` meets its contract. Assumes nothing.
use mathlib.Core.Path.{sym, ◌∙◌}
use Rattle.choosing.proofs.Taking.{room_out, in_list, takes_one}
use Rattle.choosing.proofs.take_shortest.Goals as goal

pub find_shortest-requires : goal.find_shortest-requires
find_shortest-requires c = room_out _ _ (sym c.has_room.ensures ∙ c.if-not-has_room.false)

pub bounds-work-at : goal.bounds-work-at
bounds-work-at c = let s = c.in_ok-found.ensures in in_list _ _ _ (sym c.has_room.ensures ∙ c.if-not-has_room.false) s.0 s.1

pub bounds-work-at-2 : goal.bounds-work-at-2
bounds-work-at-2 c = let s = c.in_ok-found.ensures in in_list _ _ _ (sym c.has_room.ensures ∙ c.if-not-has_room.false) s.0 s.1

pub returns : goal.returns
returns c = let s = c.in_ok-found.ensures in (takes_one _ _ _ (sym c.has_room.ensures ∙ c.if-not-has_room.false) s.0 s.1, s.1)
