-- Lists written from their start.
--   Filled  the first n elements are those of a function, the others stay
use Rattle.std.specs.Prelude.{◌≡◌, List, ℕ, ◌≤◌, ◌<◌, length, get_or}

pub record Filled (f : ℕ → ℕ) (n : ℕ) (list list' : List ℕ) : Type 0 where
  pub long : length list' ≡ length list
  pub first : (q : ℕ) → q < n → get_or list' q 0 ≡ f q
  pub rest : (q : ℕ) → n ≤ q → get_or list' q 0 ≡ get_or list q 0
