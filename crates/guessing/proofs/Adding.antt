-- A share added at each qubit of a row, one by one. Assumes nothing.
use mathlib.Core.Path.{◌≡◌, refl, ◌∙◌, subst}
use mathlib.Core.Bool.{Bool, true, false, cond}
use mathlib.Core.List.{List, ◌∷◌}
use Prim.Native.Nat.{ℕ, ◌+◌, ◌%◌, ◌≤◌, ◌<◌}
use native.Mathlib.Numerals.{add-one}
use native.Mathlib.Omega.{arith}
use borrow.Author.Tests.{eqb-true, eqb-false, eq-eqb, ne_eqb}
use lib.Dec.{eqb}
use lib.ListN.{length, get_or, set, drop, drop_of_length-le, length-set}
use lib.Seq.{drop-cons, get_or-set_same, get_or-set_other}
use Rattle.binary.specs.Meaning.{has}
use Rattle.binary.proofs.Bits.{bit}
use Rattle.code.specs.Tests.{Distinct}
use Rattle.code.proofs.Order.{ascending_distinct}
use Rattle.guessing.specs.Guessing.{weight_of, share_of, change_of, added_at, WeightsAlone, AddedRow}

pub alone_same : (n : ℕ) (work : List ℕ) → WeightsAlone n work work
alone_same n work = record { long = refl; below = λ k h. refl; past = λ k h. refl }

pub alone_on : (n : ℕ) (old mid new : List ℕ) → WeightsAlone n old mid → WeightsAlone n mid new → WeightsAlone n old new
alone_on n old mid new a b = record { long = b.long ∙ a.long; below = λ k h. b.below k h ∙ a.below k h; past = λ k h. b.past k h ∙ a.past k h }

alone_set : (n : ℕ) (work : List ℕ) (q v : ℕ) → q < n → WeightsAlone n work (set work (9216 + q) v)
alone_set n work q v h = record {
  long = length-set work (9216 + q) v;
  below = λ k l. get_or-set_other work (9216 + q) k v 0 (λ u. omega arith);
  past = λ k l. get_or-set_other work (9216 + q) k v 0 (λ u. omega arith);
}

-- With the share added at what is left of the row, from place i on, the numbers are what they come to.
pub record Adding (n share : ℕ) (row old work : List ℕ) (i : ℕ) : Type 0 where
  pub alone : WeightsAlone n old work
  pub left : Distinct row
      → Distinct (drop i row) × ((q : ℕ) → q < n → added_at share (has (drop i row) q) (weight_of work q) ≡ added_at share (has row q) (weight_of old q))

module _ (n share : ℕ) (row old work : List ℕ) (i : ℕ) (a : Adding n share row old work i) where
  pub adding_end : length row ≤ i → AddedRow n share row old work
  adding_end h = record {
    alone = a.alone;
    added = λ ascends q k small. rw (drop_of_length-le row h) at ((a.left (ascending_distinct n row ascends)).1 q k);
  }

  module _ (at : ℕ) (is : at ≡ get_or row i 0) (h : i < length row) where
    rest : Distinct row → (has (drop (i + 1) row) at ≡ false) × Distinct (drop (i + 1) row)
    rest d = rw (is, add-one i) (rw (drop-cons row i 0 h) at (a.left d).0)

    turn : Distinct row → (q : ℕ) → q < n → added_at share (has (at ∷ drop (i + 1) row) q) (weight_of work q) ≡ added_at share (has row q) (weight_of old q)
    turn d q k = rw (is, add-one i) (rw (drop-cons row i 0 h) at ((a.left d).1 q k))

    pub adding_yes : at < n → 9216 + at < length work → (v : ℕ) → v ≡ (weight_of work at % 4294967296 + share) % 4294967296
        → Adding n share row old (set work (9216 + at) v) (i + 1)
    adding_yes k l v e = record {
      alone = alone_on n old work (set work (9216 + at) v) a.alone (alone_set n work at v k);
      left = λ d. (
        (rest d).1,
        λ q m. bit (eqb at q)
            (λ u. let y = eqb-true at q u in
            rw (← y, (rest d).0) (get_or-set_same work (9216 + at) v 0 l ∙ e ∙ wrapped (weight_of work at) ∙ rw (eq-eqb at at refl) at (turn d at k)))
            (λ u. rw (get_or-set_other work (9216 + at) (9216 + q) v 0 (λ j. eqb-false at q u (omega arith))) (rw u at (turn d q m))),
      );
    }
      where
        wrapped : (x : ℕ) → (x % 4294967296 + share) % 4294967296 ≡ (x + share) % 4294967296
        wrapped x = omega arith

    pub adding_no : n ≤ at → Adding n share row old work (i + 1)
    adding_no k = record {
      alone = a.alone;
      left = λ d. ((rest d).1, λ q m. rw (ne_eqb at q (λ j. absurd (omega arith))) at (turn d q m));
    }

-- Nothing added: a share of 0.
pub added_none : (n share : ℕ) (row work : List ℕ) → share ≡ 0 → AddedRow n share row work work
added_none n share row work e =
    record { alone = alone_same n work; added = λ ascends q k small. bit (has row q) (λ u. rw (u, e) (omega arith)) (λ u. rw u) }

pub added_as : (n share : ℕ) (row row' work work' : List ℕ) → row ≡ row' → AddedRow n share row work work' → AddedRow n share row' work work'
added_as n share row row' work work' e v = subst (λ (r : List ℕ). AddedRow n share r work work') e v

----------------------------------------------------------------------
-- Shares are small

one_of : (a b : Bool) (x y z : ℕ) → x < 4294967296 → y < 4294967296 → z < 4294967296 → cond a x (cond b y z) < 4294967296
one_of true b x y z k l m = k
one_of false true x y z k l m = l
one_of false false x y z k l m = m

pub share_small : (number share : ℕ) → share ≡ share_of number → share < 4294967296
share_small number share e = rw e (one_of (eqb number 0) (eqb number 2) 0 1025 1 (omega arith) (omega arith) (omega arith))

pub change_small : (left share : ℕ) → share ≡ change_of left → share < 4294967296
change_small left share e = rw e (one_of (eqb left 2) (eqb left 1) 1024 4294966272 0 (omega arith) (omega arith) (omega arith))
