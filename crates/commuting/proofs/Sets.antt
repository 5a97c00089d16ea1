-- A row as a set of 1,024 bits. Assumes nothing.
use mathlib.Core.Path.{◌≡◌, sym, ap, ◌∙◌, fun_ext}
use mathlib.Core.Bool.{Bool, true, false, ◌&&◌}
use mathlib.Core.List.{List}
use Prim.Native.Nat.{ℕ, ◌+◌, ◌*◌, ◌/◌, ◌%◌, ◌^◌, ◌≤◌, ◌<◌}
use native.Mathlib.Omega.{arith}
use borrow.Author.Tests.{lt-ltb, le-ltb, ltb-true}
use lib.Dec.{eqb, ltb}
use lib.ListN.{length, get_or}
use Rattle.binary.specs.Meaning.{Row, Qubits, has}
use Rattle.binary.specs.Words.{bit}
use Rattle.binary.proofs.Bits
use Rattle.packing.specs.Packed.{cell, Put}
use Rattle.packing.proofs.Put.{room_yes}
use Rattle.commuting.specs.Even.{in_bits, even_for?, even_with?}

pub not_in : (words : List ℕ) (q : ℕ) → 1024 ≤ q → false ≡ in_bits words q
not_in words q h = rw (le-ltb q 1024 h)

pub is_in : (words : List ℕ) (q : ℕ) → q < 1024 → eqb (get_or words (q / 64) 0 / 2 ^ (q % 64) % 2) 1 ≡ in_bits words q
unfolding bit cell
is_in words q h =
    let e : 0 * 16 + q / 64 ≡ q / 64 = omega arith in
    rw (lt-ltb q 1024 h) (ap (λ (k : ℕ). bit (get_or words k 0) (q % 64)) (sym e))

-- What `put_row` makes of the row.
set_made : (qubits : Row) (old new : List ℕ) (r : Bool) → length old ≡ 16 → Put 16 0 qubits old new r → in_bits new ≡ (λ q. ltb q 1024 && has qubits q)
set_made qubits old new r long p =
    fun_ext (λ q. Bits.bit (ltb q 1024) (λ t. rw t (p.cells yes q (ltb-true q 1024 t))) (λ t. rw t))
  where
    yes : r ≡ true
    yes = p.answer ∙ room_yes 16 0 (length old) (omega arith) (omega arith) (omega (arith, long))

pub even_made : (qubits : Row) (old new : List ℕ) (r : Bool) → length old ≡ 16 → Put 16 0 qubits old new r → (rows : List Row) (told : Bool)
    → told ≡ even_for? (in_bits new) rows → told ≡ even_with? rows qubits
even_made qubits old new r long p rows told t = t ∙ ap (λ (s : Qubits). even_for? s rows) (set_made qubits old new r long p)
