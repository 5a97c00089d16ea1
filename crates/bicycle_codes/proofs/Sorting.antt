-- Numbers in ascending order: the same set, and strictly ascending where no number comes twice. Assumes nothing.
use mathlib.Core.Path.{◌≡◌, refl, sym, ap, ◌∙◌}
use mathlib.Core.Logic.{◌⊎◌, inl, inr, ⊎_elim}
use mathlib.Core.Bool.{Bool, true, false, ◌&&◌, ◌||◌}
use mathlib.Core.List.{List, [], ◌∷◌, ◌++◌, map}
use Prim.Native.Nat.{ℕ, zero, suc, ◌+◌, ◌<◌, ◌≤◌}
use native.Mathlib.Omega.{arith}
use lib.Dec.{eqb, leb, ltb}
use lib.ListN.{length}
use borrow.Author.Tests.{leb-true, leb-false, le-leb, lt-leb, lt-ltb, eqb-false}
use Rattle.std.specs.List.{swap}
use Rattle.std.specs.List.Sorted.{IsPermutation, IsSorted, IsNonDecreasingBy}
use Rattle.std.specs.Ordering.{nat_cmp}
use Rattle.std.proofs.lemmas.List.Sorted.{IsPermutation-keeps, IsNonDecreasingBy-from_sort}
use Rattle.binary.specs.Bits.{◌⊕◌}
use Rattle.binary.proofs.WordBits.{order}
use Rattle.binary.specs.Meaning.{Qubits, All, has, odd}
use Rattle.binary.proofs.Bits.{bit, and_in, and_out, or_false, ⊕_left_comm}
use Rattle.code.specs.Tests.{ascending_from, ascending?, Ascending, Distinct}
use Rattle.bicycle_codes.specs.Bicycle.{insert, sorted}

----------------------------------------------------------------------
-- The same set

or_swap : (a b c : Bool) → (a || (b || c)) ≡ (b || (a || c))
or_swap true true c = refl
or_swap true false c = refl
or_swap false true c = refl
or_swap false false c = refl

has_insert : (q : ℕ) (ps : List ℕ) (x : ℕ) → has (insert q ps) x ≡ (eqb q x || has ps x)
has_insert q [] x = refl
has_insert q (p ∷ ps) x =
    bit (leb q p) (λ e. rw e) (λ e. rw e (ap (λ (b : Bool). eqb p x || b) (has_insert q ps x) ∙ or_swap (eqb p x) (eqb q x) (has ps x)))

pub has_sorted : (qs : List ℕ) (x : ℕ) → has (sorted qs) x ≡ has qs x
has_sorted [] x = refl
has_sorted (q ∷ qs) x = has_insert q (sorted qs) x ∙ ap (λ (b : Bool). eqb q x || b) (has_sorted qs x)

odd_insert : (e : Qubits) (q : ℕ) (ps : List ℕ) → odd e (insert q ps) ≡ e q ⊕ odd e ps
odd_insert e q [] = refl
odd_insert e q (p ∷ ps) =
    bit (leb q p) (λ i. rw i) (λ i. rw i (ap (λ (b : Bool). e p ⊕ b) (odd_insert e q ps) ∙ ⊕_left_comm (e p) (e q) (odd e ps)))

pub odd_sorted : (e : Qubits) (qs : List ℕ) → odd e (sorted qs) ≡ odd e qs
odd_sorted e [] = refl
odd_sorted e (q ∷ qs) = odd_insert e q (sorted qs) ∙ ap (λ (b : Bool). e q ⊕ b) (odd_sorted e qs)

----------------------------------------------------------------------
-- Strictly ascending

insert_ascending : (n least q : ℕ) (ps : List ℕ) → least ≤ q → q < n → has ps q ≡ false → ascending_from least n ps ≡ true
    → ascending_from least n (insert q ps) ≡ true
unfolding ascending_from
insert_ascending n least q [] low high new t = rw (le-leb least q low, lt-ltb q n high)
insert_ascending n least q (p ∷ ps) low high new t =
    let a = and_out (leb least p && ltb p n) (ascending_from (suc p) n ps) t in
    let b = and_out (leb least p) (ltb p n) a.0 in
    let d = or_false (eqb p q) (has ps q) new in
    let apart = eqb-false p q d.0 in
    bit (leb q p)
    (λ e. let i = leb-true q p e in
    let j : p ≡ q → ⊥ = apart in
    rw e (and_in (and_in (le-leb least q low) (lt-ltb q n high)) (and_in (and_in (le-leb (suc q) p (omega arith)) b.1) a.1)))
    (λ e. let i = leb-false q p e in rw e (and_in a.0 (insert_ascending n (suc p) q ps i high d.1 a.1)))

sorted_from : (n : ℕ) (qs : List ℕ) → Distinct qs → All (λ q. q < n) qs → ascending_from 0 n (sorted qs) ≡ true
unfolding ascending_from
sorted_from n [] d b = refl
sorted_from n (q ∷ qs) d b =
    insert_ascending n 0 q (sorted qs) (omega arith) b.0 (has_sorted qs q ∙ d.0) (sorted_from n qs d.1 b.1)

pub sorted_ascending : (n : ℕ) (qs : List ℕ) → Distinct qs → All (λ q. q < n) qs → Ascending n (sorted qs)
unfolding ascending?
sorted_ascending = sorted_from

pub length_sorted : (qs : List ℕ) → length (sorted qs) ≡ length qs
length_sorted [] = refl
length_sorted (q ∷ qs) = length_insert q (sorted qs) ∙ ap suc (length_sorted qs)
  where
    length_insert : (q : ℕ) (ps : List ℕ) → length (insert q ps) ≡ suc (length ps)
    length_insert q [] = refl
    length_insert q (p ∷ ps) = bit (leb q p) (λ e. rw e) (λ e. rw e (ap suc (length_insert q ps)))

----------------------------------------------------------------------
-- Three numbers

insert_lt : (x y : ℕ) (qs : List ℕ) → x < y → insert x (insert y qs) ≡ insert y (insert x qs)
insert_lt x y [] h = rw (le-leb x y (omega arith), lt-leb y x h)
insert_lt x y (p ∷ ps) h =
    ⊎_elim
    (λ (l : y ≤ p). rw (le-leb y p l, le-leb x y (omega arith), le-leb x p (omega arith), lt-leb y x h, le-leb y p l))
    (λ (l : p < y). ⊎_elim
    (λ (k : x ≤ p). rw (lt-leb y p l, le-leb x p k, lt-leb y x h, lt-leb y p l))
    (λ (k : p < x). rw (lt-leb y p l, lt-leb x p k, lt-leb y p l) (ap (◌∷◌ p) (insert_lt x y ps h))) (upto x p)) (upto y p)
  where
    upto : (a b : ℕ) → (a ≤ b) ⊎ (b < a)
    upto a b = ⊎_elim (λ (l : b < a). inr l) (λ (l : a ≤ b). inl l) (order b a)

-- The order in which two numbers are inserted does not matter.
insert_swap : (x y : ℕ) (qs : List ℕ) → insert x (insert y qs) ≡ insert y (insert x qs)
insert_swap x y qs =
    ⊎_elim (λ (l : x < y). insert_lt x y qs l)
    (λ (l : y ≤ x). ⊎_elim (λ (k : y < x). sym (insert_lt y x qs k)) (λ (k : x ≤ y). let e : x ≡ y = omega arith in rw e) (order y x)) (order x y)

abbrev Same : List ℕ → List ℕ → Type 0
Same qs ps = (length ps ≡ 3) × (sorted ps ≡ sorted qs)

swapped : (qs ps : List ℕ) (i j : ℕ) → i < length ps → j < length ps → Same qs ps → Same qs (swap ps i j)
swapped qs (a ∷ b ∷ c ∷ []) zero zero h k s = s
swapped qs (a ∷ b ∷ c ∷ []) zero (suc zero) h k s = (refl, insert_swap b a (c ∷ []) ∙ s.1)
swapped qs (a ∷ b ∷ c ∷ []) zero (suc (suc zero)) h k s =
    (refl, insert_swap c b (a ∷ []) ∙ ap (insert b) (insert_swap c a []) ∙ insert_swap b a (c ∷ []) ∙ s.1)
swapped qs (a ∷ b ∷ c ∷ []) (suc zero) zero h k s = (refl, insert_swap b a (c ∷ []) ∙ s.1)
swapped qs (a ∷ b ∷ c ∷ []) (suc zero) (suc zero) h k s = s
swapped qs (a ∷ b ∷ c ∷ []) (suc zero) (suc (suc zero)) h k s = (refl, ap (insert a) (insert_swap c b []) ∙ s.1)
swapped qs (a ∷ b ∷ c ∷ []) (suc (suc zero)) zero h k s =
    (refl, insert_swap c b (a ∷ []) ∙ ap (insert b) (insert_swap c a []) ∙ insert_swap b a (c ∷ []) ∙ s.1)
swapped qs (a ∷ b ∷ c ∷ []) (suc (suc zero)) (suc zero) h k s = (refl, ap (insert a) (insert_swap c b []) ∙ s.1)
swapped qs (a ∷ b ∷ c ∷ []) (suc (suc zero)) (suc (suc zero)) h k s = s
swapped qs _ _ _ h k s = absurd (omega arith)

in_order : (ps : List ℕ) → length ps ≡ 3 → IsNonDecreasingBy (λ x. x) ps → ps ≡ sorted ps
in_order (a ∷ b ∷ c ∷ []) e up = rw (le-leb b c (up 1 2 0 (omega arith) (omega arith)), le-leb a b (up 0 1 0 (omega arith) (omega arith)))
in_order _ e up = absurd (omega arith)

-- What the library's sort leaves.
pub sorted_three : (x y z : ℕ) (ps : List ℕ) → IsPermutation (x ∷ y ∷ z ∷ []) ps → IsSorted nat_cmp ps → ps ≡ sorted (x ∷ y ∷ z ∷ [])
sorted_three x y z ps m s =
    let qs : List ℕ = x ∷ y ∷ z ∷ [] in
    let same : Same qs ps = IsPermutation-keeps qs (Same qs) (refl, refl) (swapped qs) ps m in
    in_order ps same.0 (IsNonDecreasingBy-from_sort (λ x. x) ps s) ∙ same.1

all_insert : (P : ℕ → Type 0) (q : ℕ) (ps : List ℕ) → P q → All P ps → All P (insert q ps)
all_insert P q [] h a = (h, tt)
all_insert P q (p ∷ ps) h a = bit (leb q p) (λ e. rw e (h, a)) (λ e. rw e (a.0, all_insert P q ps h a.1))

pub all_sorted : (P : ℕ → Type 0) (qs : List ℕ) → All P qs → All P (sorted qs)
all_sorted P [] a = tt
all_sorted P (q ∷ qs) a = all_insert P q (sorted qs) a.0 (all_sorted P qs a.1)

----------------------------------------------------------------------
-- Low and high numbers

insert_join : (a : ℕ) (ls hs : List ℕ) → All (λ b. a ≤ b) hs → insert a (ls ++ hs) ≡ insert a ls ++ hs
insert_join a [] [] k = refl
insert_join a [] (b ∷ hs) k = rw (le-leb a b k.0)
insert_join a (l ∷ ls) hs k = bit (leb a l) (λ e. rw e) (λ e. rw e (ap (◌∷◌ l) (insert_join a ls hs k)))

all_map : (P Q : ℕ → Type 0) → ((q : ℕ) → P q → Q q) → (qs : List ℕ) → All P qs → All Q qs
all_map P Q f [] a = tt
all_map P Q f (q ∷ qs) a = (f q a.0, all_map P Q f qs a.1)

-- Numbers below a bound are sorted before those from it on.
pub sorted_join : (n : ℕ) (ls hs : List ℕ) → All (λ a. a < n) ls → All (λ b. n ≤ b) hs → sorted (ls ++ hs) ≡ sorted ls ++ sorted hs
sorted_join n [] hs low high = refl
sorted_join n (l ∷ ls) hs low high =
    ap (insert l) (sorted_join n ls hs low.1 high)
    ∙ insert_join l (sorted ls) (sorted hs) (all_map (λ b. n ≤ b) (λ b. l ≤ b) (λ b h. omega (arith, low.0)) (sorted hs) (all_sorted (λ b. n ≤ b) hs high))

insert_raised : (n q : ℕ) (ps : List ℕ) → insert (n + q) (map (λ p. n + p) ps) ≡ map (λ p. n + p) (insert q ps)
insert_raised n q [] = refl
insert_raised n q (p ∷ ps) =
    bit (leb q p) (λ e. rw (e, le-leb (n + q) (n + p) (omega (arith, leb-true q p e))))
    (λ e. rw (e, lt-leb (n + q) (n + p) (omega (arith, leb-false q p e))) (ap (◌∷◌ (n + p)) (insert_raised n q ps)))

pub sorted_raised : (n : ℕ) (qs : List ℕ) → sorted (map (λ q. n + q) qs) ≡ map (λ q. n + q) (sorted qs)
sorted_raised n [] = refl
sorted_raised n (q ∷ qs) = ap (insert (n + q)) (sorted_raised n qs) ∙ insert_raised n q (sorted qs)
