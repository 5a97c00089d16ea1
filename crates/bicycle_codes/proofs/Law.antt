-- The rows of all accepted sizes and terms are lawful. Assumes nothing.
use mathlib.Core.Path.{◌≡◌, refl, ap}
use mathlib.Core.List.{List, [], ◌∷◌, ◌++◌}
use Prim.Native.Nat.{ℕ, zero, suc, ◌*◌, ◌<◌}
use native.Mathlib.Nat.{mul-pos}
use native.Mathlib.Omega.{arith}
use lib.ListN.{length}
use borrow.Author.Tests.{le-leb}
use Rattle.binary.specs.Meaning.{Row, All}
use Rattle.bicycle_codes.specs.declared.Bicycle.{Bicycle}
use Rattle.bicycle_codes.specs.Bicycle.{places, x_holds, z_holds, x_row, z_row, each, code_of}
use Rattle.bicycle_codes.specs.Laws.{BicycleLaw}
use Rattle.bicycle_codes.proofs.Sorting.{length_sorted}
use Rattle.bicycle_codes.proofs.Rows.{accepted, each_all, x_rows, z_rows, commuting}
use Rattle.bicycle_codes.proofs.Loading.{carried}

pub length_each : (row : ℕ → Row) (i n : ℕ) → length (each row i n) ≡ n
length_each row i zero = refl
length_each row i (suc n) = ap suc (length_each row (suc i) n)

pub all_append : (P : Row → Type 0) (rs ss : List Row) → All P rs → All P ss → All P (rs ++ ss)
all_append P [] ss a b = b
all_append P (r ∷ rs) ss a b = (a.0, all_append P rs ss a.1 b)

pub x_weight : (g : Bicycle) (p : ℕ) → length (x_row g p) ≡ 6
unfolding x_row
x_weight g p = length_sorted (x_holds g p)

pub z_weight : (g : Bicycle) (p : ℕ) → length (z_row g p) ≡ 6
unfolding z_row
z_weight g p = length_sorted (z_holds g p)

-- All rows have six qubits.
pub all_six : (g : Bicycle) → All (λ r. length r ≡ 6) ((code_of g).xs ++ (code_of g).zs)
all_six g =
    all_append (λ r. length r ≡ 6) (code_of g).xs (code_of g).zs (each_all (λ r. length r ≡ 6) (x_row g) 0 (places g) (λ p h. x_weight g p))
    (each_all (λ r. length r ≡ 6) (z_row g) 0 (places g) (λ p h. z_weight g p))

pub lawful : BicycleLaw
unfolding BicycleLaw
lawful g e f =
    let v = accepted g e f in
    let some : 0 < places g = mul-pos v.grid.l v.grid.m in
    record {
      xs = x_rows g v;
      zs = z_rows g v;
      weights = all_six g;
      commute = commuting g v;
      loads = λ a. carried (record { n = 2 * places g; x = places g; z = places g }) a (code_of g).xs (code_of g).zs
          (rw (le-leb 1 (2 * places g) (omega arith), le-leb (2 * places g) 1024 v.small, le-leb (places g) 512 (omega (arith, v.small))))
          (length_each (x_row g) 0 (places g)) (length_each (z_row g) 0 (places g)) some (x_rows g v) (z_rows g v) (commuting g v);
    }
