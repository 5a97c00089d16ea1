-- What reads gave. Assumes nothing.
use mathlib.Core.Path.{◌≡◌}
use mathlib.Core.Bool.{true}
use Prim.Native.Nat.{ℕ, ◌+◌}
use lib.IntN.{ℤ}
use native.Mathlib.Numerals.{add-one}
use Rattle.std.specs.Prelude.{Result}
use Rattle.input.specs.Reading.{is_again, Attempt, Attempts, another}

-- A read more.
pub another_read : {n k : ℕ} {r s : Result ℕ ℤ} → Attempts n k r → is_again r ≡ true → Attempt n s → Attempts n (k + 1) s
another_read {n} {k} s e a = rw (add-one k) (another s e a)
