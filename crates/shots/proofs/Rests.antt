-- What is left of a block, and the room behind it. Assumes nothing.
use mathlib.Core.Path.{◌≡◌, refl, sym, ◌∙◌}
use mathlib.Core.Bool.{Bool, true, false, cond}
use mathlib.Core.Logic.{⊎_elim}
use mathlib.Core.Option.{Option, none, some}
use mathlib.Core.List.{List}
use Prim.Native.Nat.{ℕ, ◌+◌, ◌-◌, ◌≤◌, ◌<◌}
use native.Mathlib.Nat.{eq-zero-or-pos}
use native.Mathlib.Omega.{arith}
use borrow.Author.Tests.{leb-true, le-ltb, lt-leb}
use lib.Dec.{eqb, leb}
use lib.ListN.{length, get_or}
use Rattle.binary.proofs.Bits.{and_out}
use Rattle.records.specs.declared.Pauli.{Pauli}
use Rattle.records.specs.declared.Pauli.TheVariants.{X, Z}
use Rattle.records.specs.Records.{Kind, row_of, between, kind_of, whole_length}
use Rattle.cutting.specs.Cutting.{whole_of, next_of}
use Rattle.cutting.specs.Room.{answer_most, is_full}
use Rattle.cutting.proofs.Nexts.{next_whole, next_cut}
use Rattle.shots.specs.Run.{record_most, HasRoom}

whole_positive : (o : Option Kind) → 0 < whole_length o
whole_positive none = omega arith
whole_positive (some k) = omega arith

-- Where no record is left, none is there whole.
rest_cut : (ended : Bool) (l : List ℕ) → next_of ended l ≡ 0 → length l < whole_of l
rest_cut ended l e =
    ⊎_elim
    (λ (z : whole_of l - length l ≡ 0). absurd (omega (arith, next_whole ended l (omega arith), whole_positive (kind_of (get_or l 0 0)))))
    (λ p. omega arith)
    (eq-zero-or-pos (whole_of l - length l))

-- Where the input has ended too, nothing is left.
pub rest_none : (l : List ℕ) → next_of true l ≡ 0 → length l ≡ 0
rest_none l e = sym (next_cut true l (rest_cut true l e)) ∙ e

-- No record is longer than the longest.
cond_most : (b : Bool) (o p : Option Kind) → (b ≡ true → whole_length o ≤ record_most) → whole_length p ≤ record_most → whole_length (cond b o p) ≤ record_most
cond_most true o p h g = h refl
cond_most false o p h g = g

row_most : (p : Pauli) (low high b : ℕ) → high ≤ low + 15 → between low high b ≡ true → whole_length (some (row_of p (b - (low - 1)))) ≤ record_most
row_most p low high b h e = omega (arith, leb-true b high (and_out (leb low b) (leb b high) e).1)

whole_most : (b : ℕ) → whole_length (kind_of b) ≤ record_most
unfolding kind_of
whole_most b =
    cond_most (eqb b 1) _ _ (λ e. omega arith)
    (cond_most (eqb b 2) _ _ (λ e. omega arith)
    (cond_most (eqb b 3) _ _ (λ e. omega arith)
    (cond_most (eqb b 4) _ _ (λ e. omega arith)
    (cond_most (eqb b 5) _ _ (λ e. omega arith)
    (cond_most (eqb b 6) _ _ (λ e. omega arith)
    (cond_most (eqb b 7) _ _ (λ e. omega arith)
    (cond_most (eqb b 8) _ _ (λ e. omega arith)
    (cond_most (between 33 48 b) _ _ (row_most X 33 48 b (omega arith))
    (cond_most (between 65 80 b) _ _ (row_most Z 65 80 b (omega arith)) (omega arith))))))))))

-- Where no record is left, what is left is shorter than the longest.
pub rest_short : (ended : Bool) (l : List ℕ) → next_of ended l ≡ 0 → length l < record_most
rest_short ended l e = omega (arith, rest_cut ended l e, whole_most (get_or l 0 0))

-- There is room for an answer, in lists as long as those lent.
pub room_left : {block out places m n : ℕ} → HasRoom block out places → m ≡ out → n ≡ places → is_full 0 m 0 n ≡ false
unfolding is_full
room_left {block} {out} {places} {m} {n} h a b =
    rw (le-ltb m (0 + answer_most) (omega (arith, h.answer)), lt-leb n 0 (omega (arith, h.place)))
