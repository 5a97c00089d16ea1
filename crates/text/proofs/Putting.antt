-- Texts put one behind the other. Assumes nothing.
use mathlib.Core.Path.{◌≡◌, refl, ◌∙◌}
use mathlib.Core.Logic.{⊎_elim}
use mathlib.Core.List.{List, [], ◌∷◌, ◌++◌}
use Prim.Native.Nat.{ℕ, suc, ◌+◌, ◌-◌, ◌≤◌, ◌<◌, ◌^◌}
use native.Mathlib.Nat.{eq-zero-or-pos, add-zero}
use native.Mathlib.Omega.{arith}
use native.Mathlib.Numerals.{add-one}
use lib.ListN.{length, length-append, get_or, set, take}
use lib.Seq.{sets, length-sets, set_out, take-suc}
use Rattle.io.specs.Digits.{last_digits, IsDigitCount}
use Rattle.text.specs.declared.Line.{Line}
use Rattle.text.specs.Text.{number, Puts}
use Rattle.text.specs.Line.{Adds}
use Rattle.text.proofs.Digits.{decimal_fewest}

-- Behind the end of a list nothing is put.
sets_out : (l : List ℕ) (i : ℕ) (a : List ℕ) → length l ≤ i → sets l i a ≡ l
sets_out l i [] h = refl
sets_out l i (b ∷ a) h = rw (set_out l i b h) (sets_out l (suc i) a (omega arith))

sets_append : (l : List ℕ) (i : ℕ) (a b : List ℕ) → sets l i (a ++ b) ≡ sets (sets l i a) (i + length a) b
sets_append l i [] b = rw (add-zero i)
sets_append l i (c ∷ a) b =
    let e : suc i + length a ≡ i + suc (length a) = omega arith in
    rw (sets_append (set l i c) (suc i) a b, e)

-- Nothing.
pub puts_none : (at : ℕ) (l : List ℕ) → Puts [] at l l at
puts_none at l = record { bytes = refl; ends = omega arith }

-- One text, then another.
pub puts_then : {a b : List ℕ} {at e r : ℕ} {old mid new : List ℕ} → Puts a at old mid e → Puts b e mid new r → Puts (a ++ b) at old new r
puts_then {a} {b} {at} {e} {r} {old} {mid} {new} p q =
    record { bytes = ⊎_elim fits full (eq-zero-or-pos (length a - (length old - at))); ends = rw (length-append a b) (omega (arith, same, p.ends, q.ends)) }
  where
    same : length mid ≡ length old
    same = rw p.bytes (length-sets old at a)

    fits : length a - (length old - at) ≡ 0 → new ≡ sets old at (a ++ b)
    fits h =
        let k : e ≡ at + length a = omega (arith, p.ends) in
        rw (q.bytes, p.bytes, k, sets_append old at a b)

    full : 0 < length a - (length old - at) → new ≡ sets old at (a ++ b)
    full h = rw (q.bytes, sets_out mid e b (omega (arith, same, p.ends)), sets_append old at a b, sets_out (sets old at a) (at + length a) b (rw (length-sets old at a) (omega arith))) p.bytes

-- The same of a line.
pub adds_none : (l : Line) → Adds [] l l
adds_none l = record { same = refl; puts = puts_none l.end l.bytes.now }

pub adds_then : {a b : List ℕ} {old mid new : Line} → Adds a old mid → Adds b mid new → Adds (a ++ b) old new
adds_then p q = record { same = q.same ∙ p.same; puts = puts_then p.puts q.puts }

-- A byte more of a text.
pub adds_more : (text : List ℕ) (i : ℕ) {old mid new : Line} → Adds (take i text) old mid → i < length text → Adds (get_or text i 0 ∷ []) mid new → Adds (take (i + 1) text) old new
adds_more text i p h q = rw (add-one i, take-suc text i 0 h) (adds_then p q)

-- A blank, and the fewest digits that hold a number: the number.
pub adds_number : (n k : ℕ) (d : List ℕ) {old mid new : Line} → n < 2 ^ 64 → IsDigitCount 10 1 n k → take k d ≡ last_digits 10 k n → Adds (32 ∷ []) old mid → Adds (take k d) mid new → Adds (number n) old new
adds_number n k d w f t p q =
    adds_then p (rw (t, decimal_fewest n k w f) at q)
