-- Whether another answer has room. Assumes nothing.
use mathlib.Core.Path.{◌≡◌, refl}
use mathlib.Core.Bool.{Bool, true, false, ◌||◌}
use Prim.Native.Nat.{ℕ, ◌+◌, ◌-◌, ◌≤◌, ◌<◌}
use native.Mathlib.Omega.{arith}
use borrow.Author.Tests.{ltb-false, leb-false, lt-ltb, le-ltb}
use lib.Dec.{ltb, leb}
use Rattle.cutting.specs.Room.{answer_most, is_full}

pub full_told : (put room noted most : ℕ) → room - put < answer_most → true ≡ is_full put room noted most
unfolding is_full
full_told put room noted most h = rw (lt-ltb room (put + answer_most) (omega arith))

pub full_else : (put room noted most : ℕ) → answer_most ≤ room - put → leb most noted ≡ is_full put room noted most
unfolding is_full
full_else put room noted most h = rw (le-ltb room (put + answer_most) (omega arith))

pub not_full : (put room noted most : ℕ) → is_full put room noted most ≡ false → (put + answer_most ≤ room) × (noted < most)
unfolding is_full
not_full put room noted most e = both (ltb room (put + answer_most)) refl e
  where
    both : (b : Bool) → ltb room (put + answer_most) ≡ b → b || leb most noted ≡ false → (put + answer_most ≤ room) × (noted < most)
    both true t f = let z : ◌≡◌ {A = ℕ} 0 1 = cc in absurd (omega arith)
    both false t f = (ltb-false room (put + answer_most) t, leb-false most noted f)
