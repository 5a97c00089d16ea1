-- The flips of a half, put one by one. Assumes nothing.
use mathlib.Core.Path.{◌≡◌}
use mathlib.Core.Logic.{⊎_elim}
use mathlib.Core.List.{List, [], ◌∷◌, ◌++◌, append_assoc, append-nil}
use Prim.Native.Nat.{ℕ, suc, ◌+◌, ◌-◌, ◌<◌, ◌≤◌, min}
use native.Mathlib.Nat.{eq-zero-or-pos, add-zero}
use native.Mathlib.Numerals.{add-one}
use native.Mathlib.Omega.{arith}
use lib.ListN.{length, get_or, take}
use lib.Seq.{take-suc, take_all, length-take-le}
use Rattle.text.specs.declared.Line.{Line}
use Rattle.text.specs.Line.{Adds}
use Rattle.text.proofs.Putting.{adds_then}
use Rattle.lines.specs.Lines.{flip, flips}

flips_snoc : (q : ℕ) (xs : List ℕ) (c : ℕ) → flips q (xs ++ (c ∷ [])) ≡ flips q xs ++ flip (q + length xs) c
unfolding flips
flips_snoc q [] c = rw (append-nil, add-zero)
flips_snoc q (b ∷ xs) c =
    let e : suc q + length xs ≡ q + suc (length xs) = omega arith in
    rw (flips_snoc (suc q) xs c, append_assoc, e)

-- One qubit more.
pub flips_more : (xs : List ℕ) (q : ℕ) {old mid new : Line} → Adds (flips 0 (take q xs)) old mid → q < length xs → Adds (flip q (get_or xs q 0)) mid new → Adds (flips 0 (take (q + 1) xs)) old new
flips_more xs q p h t =
    let l : 0 + length (take q xs) ≡ q = rw (length-take-le q xs (omega arith)) (omega arith) in
    rw (add-one q, take-suc xs q 0 h, flips_snoc 0 (take q xs) (get_or xs q 0), l) (adds_then p t)

-- All of the first n.
pub flips_all : (xs : List ℕ) (n m q : ℕ) {old new : Line} → m ≡ min (length xs) n → length (take m xs) ≤ q → Adds (flips 0 (take q (take m xs))) old new → Adds (flips 0 (take n xs)) old new
flips_all xs n m q {old} {new} e l p =
    let all : take q (take m xs) ≡ take m xs = take_all q (take m xs) l in
    rw (all, fewer) at p
  where
    fewer : take m xs ≡ take n xs
    fewer =
        ⊎_elim
        (λ (z : n - length xs ≡ 0). let k : m ≡ n = omega arith in rw k)
        (λ h. rw (take_all m xs (omega arith), take_all n xs (omega arith)))
        (eq-zero-or-pos (n - length xs))
