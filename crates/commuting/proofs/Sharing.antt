-- Sharing an odd number of qubits goes both ways, and commuting goes row by row. Assumes nothing.
use mathlib.Core.Path.{◌≡◌, refl, sym, ap, ap₂, ◌∙◌, subst, fun_ext}
use mathlib.Core.Bool.{Bool, true, false, not, ◌&&◌, and-false}
use mathlib.Core.Logic.{◌↔◌}
use mathlib.Core.List.{List, [], ◌∷◌, ◌++◌}
use Prim.Native.Nat.{ℕ, ◌≤◌}
use native.Mathlib.Omega.{arith}
use borrow.Author.Tests.{eqb-true, lt-ltb}
use lib.Dec.{eqb, ltb}
use lib.ListN.{length}
use Rattle.binary.specs.Bits.{◌⊕◌}
use Rattle.binary.specs.Meaning.{Row, Qubits, All, all?, has, odd, Even, Commute, commute?}
use Rattle.binary.proofs.Bits.{bit, eqb_sym, &&_true}
use Rattle.binary.proofs.Rows.{odd_sum, odd_none, has_below, all_in, all_out}
use Rattle.code.specs.Lists.{rows_between, Flat}
use Rattle.code.specs.Tests.{Ascending, Distinct}
use Rattle.commuting.specs.Even.{even_for?, even_with?}
use Rattle.code.proofs.Flat.{flat_first}
use Rattle.code.proofs.Order.{ascending_below, ascending_distinct}

----------------------------------------------------------------------
-- Symmetry

-- One more qubit, which the row has not, is added to its set.
has_more : (p : ℕ) (row : Row) → has row p ≡ false → (q : ℕ) → has (p ∷ row) q ≡ eqb p q ⊕ has row q
has_more p row h q = bit (eqb p q) (λ e. rw (e, subst (λ (k : ℕ). has row k ≡ false) (eqb-true p q e) h)) (λ e. rw e)

-- A row without repeats shares with a single qubit just if it has it.
odd_one : (p : ℕ) (row : Row) → Distinct row → odd (eqb p) row ≡ has row p
odd_one p [] d = refl
odd_one p (q ∷ row) d = ap₂ ◌⊕◌ (eqb_sym p q) (odd_one p row d.1) ∙ sym (has_more q row d.0 p)

pub odd_symmetric : (a b : Row) → Distinct a → Distinct b → odd (has a) b ≡ odd (has b) a
odd_symmetric [] b d e = odd_none b
odd_symmetric (p ∷ a) b d e =
    ap (λ (s : Qubits). odd s b) (fun_ext (has_more p a d.0))
    ∙ odd_sum (eqb p) (has a) b
    ∙ ap₂ ◌⊕◌ (odd_one p b e) (odd_symmetric a b d.1 e)

----------------------------------------------------------------------
-- Commuting

-- Of rows that ascend it does not matter which kind comes first.
pub commute_symmetric : (n : ℕ) (xs zs : List Row) → All (Ascending n) xs → All (Ascending n) zs → Commute zs xs ↔ Commute xs zs
commute_symmetric n xs zs ax az = (flip xs zs ax az, flip zs xs az ax)
  where
    flip : (xs zs : List Row) → All (Ascending n) xs → All (Ascending n) zs → Commute zs xs → Commute xs zs
    flip xs zs ax az c =
        all_in (λ x. All (Even x) zs) xs
        (λ x i. all_in (Even x) zs
        (λ z j.
        odd_symmetric z x (ascending_distinct n z (all_out (Ascending n) zs az z j)) (ascending_distinct n x (all_out (Ascending n) xs ax x i))
        ∙ all_out (Even z) xs (all_out (λ y. All (Even y) xs) zs c z j) x i))

all_append : (f : Row → Bool) (a b : List Row) → all? f (a ++ b) ≡ (all? f a && all? f b)
all_append f [] b = refl
all_append f (x ∷ a) b = ap (λ (t : Bool). f x && t) (all_append f a b) ∙ regroup (f x) (all? f a) (all? f b)
  where
    regroup : (p q r : Bool) → (p && (q && r)) ≡ (p && q && r)
    regroup true q r = refl
    regroup false q r = refl

abbrev even? : List Row → Row → Bool
even? xs z = all? (λ x. not (odd (has x) z)) xs

-- Of rows that ascend below 1,024 it does not matter which one's qubits are counted.
module _ (n : ℕ) (few : n ≤ 1024) (z : Row) (az : Ascending n z) where
  all_below : (q : ℕ) → (ltb q 1024 && has z q) ≡ has z q
  all_below q =
      bit (has z q) (λ t. rw (lt-ltb q 1024 (omega (arith, has_below n z (ascending_below n z az) q t)))) (λ t. rw (t, and-false (ltb q 1024)))

  counted : (x : Row) → Ascending n x → odd (λ q. ltb q 1024 && has z q) x ≡ odd (has x) z
  counted x ax =
      ap (λ (s : Qubits). odd s x) (fun_ext all_below) ∙ odd_symmetric z x (ascending_distinct n z az) (ascending_distinct n x ax)

  pub even_either : (xs : List Row) → All (Ascending n) xs → even_with? xs z ≡ even? xs z
  unfolding even_for?
  even_either [] a = refl
  even_either (x ∷ xs) a = ap₂ (λ (b t : Bool). not b && t) (counted x a.0) (even_either xs a.1)

-- A row more commutes if it is even with each row of the other kind.
pub commute_more : (zs xs : List Row) (z : Row) → commute? (zs ++ (z ∷ [])) xs ≡ (commute? zs xs && even? xs z)
unfolding commute?
commute_more zs xs z = all_append (λ r. even? xs r) zs (z ∷ []) ∙ ap (λ (t : Bool). commute? zs xs && t) (&&_true (even? xs z) refl)

-- The same by what the code answers of the rows that the lists hold, those of the other kind first.
pub commute_told : (n : ℕ) → n ≤ 1024 → (xs zs : List Row) (flat ends : List ℕ) → Flat (xs ++ zs) flat ends → (to : ℕ) → to ≡ length xs
    → (z : Row) (told : Bool) → All (Ascending n) xs → Ascending n z → told ≡ even_with? (rows_between flat ends 0 to) z
    → commute? (zs ++ (z ∷ [])) xs ≡ (commute? zs xs && told)
commute_told n few xs zs flat ends f to e z told ax az t =
    commute_more zs xs z
    ∙ ap (λ (b : Bool). commute? zs xs && b) (sym (even_either n few z az xs ax) ∙ rw (← (flat_first xs zs flat ends f to e)) (sym t))
