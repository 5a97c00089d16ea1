-- Two routes by hand: the order that the definition computes. Assumes nothing.
use mathlib.Core.Path.{◌≡◌, refl}
use mathlib.Core.List.{[], ◌∷◌}
use lib.Dec.{eqb}
use Rattle.search.specs.Route.{route}

-- Column 0 is lost. 2 and 4 have one row each, and 2 is the lower; when its row has left, 1 has one, as 4 has; when that has left, 3 and 4 have one; then 4 has none. Nothing is left for 0.
pub just_then : (route 5 ((0 ∷ 1 ∷ 2 ∷ []) ∷ (1 ∷ 3 ∷ []) ∷ (3 ∷ 4 ∷ []) ∷ []) (eqb 0)).columns ≡ 3 ∷ 1 ∷ 2 ∷ []
unfolding route
just_then = refl

-- Column 4 is lost. All others have two rows. Row 0 clears 0, and is added to row 1, which 1 leaves then; row 1 clears 2, and is added to row 2, which has 4 alone then and clears it: 4 is fixed.
pub then_the_lost : (route 5 ((0 ∷ 1 ∷ 2 ∷ []) ∷ (0 ∷ 1 ∷ 3 ∷ []) ∷ (2 ∷ 3 ∷ 4 ∷ []) ∷ []) (eqb 4)).columns ≡ 4 ∷ 2 ∷ 0 ∷ []
unfolding route
then_the_lost = refl
