-- Ranks by hand: what the definition computes. Assumes nothing.
use mathlib.Core.Path.{◌≡◌, refl}
use mathlib.Core.List.{[], ◌∷◌}
use Rattle.binary.specs.Rank.{product?, rank}

-- A row that comes twice counts once.
pub repeated : rank 4 ((0 ∷ 1 ∷ []) ∷ (2 ∷ 3 ∷ []) ∷ (0 ∷ 1 ∷ []) ∷ []) ≡ 2
unfolding rank product?
repeated = refl

-- The four checks of a ring of four qubits: their product is empty, and any three are independent.
pub ring : rank 4 ((0 ∷ 1 ∷ []) ∷ (1 ∷ 2 ∷ []) ∷ (2 ∷ 3 ∷ []) ∷ (0 ∷ 3 ∷ []) ∷ []) ≡ 3
unfolding rank product?
ring = refl

-- The Steane code's rows of one kind: 7 less 3 less 3 is its one logical qubit.
pub steane : rank 7 ((0 ∷ 2 ∷ 4 ∷ 6 ∷ []) ∷ (1 ∷ 2 ∷ 5 ∷ 6 ∷ []) ∷ (3 ∷ 4 ∷ 5 ∷ 6 ∷ []) ∷ []) ≡ 3
unfolding rank product?
steane = refl
