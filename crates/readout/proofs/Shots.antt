-- The shot that a list holds: begun, and with a number more. Assumes nothing.
use mathlib.Core.Path.{◌≡◌, refl, sym, ap, ap₂, ◌∙◌, subst}
use mathlib.Core.Bool.{Bool, true, false, ◌||◌, cond, or-true}
use mathlib.Core.Logic.{◌⊎◌, inl, inr}
use mathlib.Core.List.{List}
use Prim.Native.Nat.{ℕ, ◌+◌, ◌≤◌, ◌<◌}
use native.Mathlib.Nat.{zero-add, add_assoc}
use native.Mathlib.Omega.{arith}
use native.Mathlib.Decide.{ℕ_discrete}
use lib.Dec.{eqb}
use lib.ListN.{length, get_or, set}
use lib.Seq.{get_or-set_other}
use borrow.Author.Tests.{eq-eqb, ne_eqb, eqb-true}
use Rattle.binary.proofs.Bits.{bit, never}
use Rattle.machine.specs.Machine.{put}
use Rattle.records.specs.declared.Sizes.{Sizes}
use Rattle.records.specs.declared.State.{State}
use Rattle.records.specs.declared.Pauli.TheVariants.{X, Z}
use Rattle.records.specs.Records.{Set, lost, lit, unread}
use Rattle.records.specs.History.{Code, row_count, sizes_of, Shot, Domain, qubits, rows, domain_of, size_of, already, adding, joined}
use Rattle.records.specs.Lists.{held, first_numbers, element, marks, HeldShot, NoShot, ShotIn, Holds}
use Rattle.records.specs.States.{opened_of}
use Rattle.records.specs.Promise.{ShotLeft}
use Rattle.records.proofs.Range.{Small}
use Rattle.readout.specs.Readout.{Begun, marked?}
use Rattle.readout.proofs.Marks.{marks_at, marks_zero, marks_put, marks_past}

some_element : (u : Set) → 1 ≤ element u
some_element lost = omega arith
some_element (lit p) = omega arith
some_element (unread p) = omega arith

either : (a b : Bool) → a ≡ false → b ≡ false → (a || b) ≡ false
either a b e f = rw (e, f)

-- The test of the list is that of the shot.
module _ (c : Code) (s : Shot) (shot : List ℕ) where
  abbrev at : Domain → ℕ → ℕ
  at p k = get_or shot (first_numbers p (sizes_of c) + k) 0

  zero_out : HeldShot c s shot → (u : Set) (k : ℕ) → k < size_of (domain_of u) (sizes_of c) → at (domain_of u) k ≡ 0 → s.sets u k ≡ false
  zero_out v u k h z =
      ap (λ (f : ℕ → Bool). f k) (v.sets u) ∙ marks_at (element u) (size_of (domain_of u) (sizes_of c)) (first_numbers (domain_of u) (sizes_of c)) shot k h
      ∙ ne_eqb (at (domain_of u) k) (element u) (λ t. let e = some_element u in omega arith)

  none_in : HeldShot c s shot → (p : Domain) (k : ℕ) → k < size_of p (sizes_of c) → at p k ≡ 0 → already p s k ≡ false
  none_in v qubits k h z = zero_out v lost k h z
  none_in v (rows p) k h z = either _ _ (zero_out v (lit p) k h z) (zero_out v (unread p) k h z)

  none_stale : NoShot s → (p : Domain) (k : ℕ) → already p s k ≡ false
  none_stale v qubits k = ap (λ (f : ℕ → Bool). f k) (v lost)
  none_stale v (rows p) k = either _ _ (ap (λ (f : ℕ → Bool). f k) (v (lit p))) (ap (λ (f : ℕ → Bool). f k) (v (unread p)))

  pub already_at : (stale : Bool) → ShotIn stale c s shot → (p : Domain) (k : ℕ) → k < size_of p (sizes_of c)
      → already p s k ≡ marked? stale shot (first_numbers p (sizes_of c) + k)
  already_at true v p k h = none_stale v p k
  already_at false v p k h =
      bit (already p s k)
      (λ y. bit (eqb (at p k) 0) (λ e. never y (none_in v p k h (eqb-true (at p k) 0 e))) (λ e. rw (y, e)))
      (λ n. rw (n, v.zeros p k h n))

----------------------------------------------------------------------
-- Begun

zeros : (st : State) (old new : List ℕ) → Begun st old new → st.stale ≡ true → (p : Domain) (k : ℕ) → k < size_of p st.sizes
    → get_or new (first_numbers p st.sizes + k) 0 ≡ 0
zeros st old new b e qubits k h = rw (zero-add k) (b.qubits e k h)
zeros st old new b e (rows X) k h = b.rows e k (omega arith)
zeros st old new b e (rows Z) k h = rw (add_assoc 1024 st.sizes.x k) (b.rows e (st.sizes.x + k) (omega arith))

module _ (c : Code) (s : Shot) (st : State) (flat ends old new : List ℕ) (v : Holds c s st (held flat ends old)) (b : Begun st old new) where
  -- A list that is begun holds the shot.
  held_begun : HeldShot c s new
  held_begun = by st.stale refl v.shot
    where
      zero_at : st.stale ≡ true → (p : Domain) (k : ℕ) → k < size_of p (sizes_of c) → get_or new (first_numbers p (sizes_of c) + k) 0 ≡ 0
      zero_at e p = subst (λ (z : Sizes). (k : ℕ) → k < size_of p z → get_or new (first_numbers p z + k) 0 ≡ 0) v.sizes (zeros st old new b e p)

      by : (stale : Bool) → st.stale ≡ stale → ShotIn stale c s old → HeldShot c s new
      by true e i = record {
        sets = λ u. i u ∙ marks_zero (element u) (size_of (domain_of u) (sizes_of c)) (first_numbers (domain_of u) (sizes_of c)) (some_element u) new (zero_at e (domain_of u));
        zeros = λ p k h t. zero_at e p k h;
      }
      by false e i = subst (HeldShot c s) (sym (b.still e)) i

  -- Past the code's qubits and rows it holds what it held.
  pub left_begun : ShotLeft c s (held flat ends old) (held flat ends new)
  left_begun =
      record {
        flat = refl;
        ends = refl;
        held = held_begun;
        rest = subst (λ (z : Sizes). (k : ℕ) → z.n ≤ k → (k < 1024) ⊎ (1024 + (z.x + z.z) ≤ k) → get_or new k 0 ≡ get_or old k 0) v.sizes b.rest;
      }

----------------------------------------------------------------------
-- A number more

-- A set is told by the kind of record that adds to it, and by its domain with its element.
abbrev set_of : ℕ → Set
set_of k = cond (eqb k 2) lost (cond (eqb k 3) (lit Z) (cond (eqb k 4) (lit X) (cond (eqb k 6) (unread Z) (unread X))))

is_set : (u : Set) → set_of (adding u) ≡ u
is_set lost = refl
is_set (lit X) = refl
is_set (lit Z) = refl
is_set (unread X) = refl
is_set (unread Z) = refl

abbrev set_at : Domain → ℕ → Set
set_at qubits e = lost
set_at (rows p) e = cond (eqb e 1) (lit p) (unread p)

set_at_lem : (u : Set) → set_at (domain_of u) (element u) ≡ u
set_at_lem lost = refl
set_at_lem (lit p) = refl
set_at_lem (unread p) = refl

-- What was in the shot still is, and the number that joined.
module _ (u : Set) (k : ℕ) (s : Shot) where
  grows : (v : Set) (j : ℕ) → s.sets v j ≡ true → (joined u k s).sets v j ≡ true
  grows v j t = bit (eqb (adding v) (adding u)) (λ e. rw (e, t) (put_in (eqb k j))) (λ e. rw (e, t))
    where
      put_in : (b : Bool) → cond b true true ≡ true
      put_in true = refl
      put_in false = refl

  stays : (p : Domain) (j : ℕ) → already p (joined u k s) j ≡ false → already p s j ≡ false
  stays qubits j e = bit (s.sets lost j) (λ t. never (grows lost j t) e) (λ t. t)
  stays (rows p) j e =
      either _ _
      (bit (s.sets (lit p) j) (λ t. never (rw (grows (lit p) j t)) e) (λ t. t))
      (bit (s.sets (unread p) j) (λ t. never (rw (grows (unread p) j t) (or-true ((joined u k s).sets (lit p) j))) e) (λ t. t))

is_in : (u : Set) (k : ℕ) (s : Shot) → already (domain_of u) (joined u k s) k ≡ true
is_in lost k s = rw (eq-eqb k k refl)
is_in (lit X) k s = rw (eq-eqb k k refl)
is_in (lit Z) k s = rw (eq-eqb k k refl)
is_in (unread X) k s = rw (eq-eqb k k refl) (or-true (s.sets (lit X) k))
is_in (unread Z) k s = rw (eq-eqb k k refl) (or-true (s.sets (lit Z) k))

module _ (c : Code) (m : Small c) where
  abbrev z : Sizes
  z = sizes_of c

  within : (p : Domain) (k : ℕ) → k < size_of p z → first_numbers p z + k < 2048
  within qubits k h = omega (arith, m.qubits)
  within (rows X) k h = omega (arith, m.xs)
  within (rows Z) k h = omega (arith, m.xs, m.zs)

  -- Qubits, X rows and Z rows have their elements apart.
  same_domain : (p r : Domain) (i k : ℕ) → i < size_of p z → k < size_of r z → first_numbers p z + i ≡ first_numbers r z + k → p ≡ r
  same_domain qubits qubits i k h j e = refl
  same_domain qubits (rows X) i k h j e = absurd (omega (arith, m.qubits))
  same_domain qubits (rows Z) i k h j e = absurd (omega (arith, m.qubits))
  same_domain (rows X) qubits i k h j e = absurd (omega (arith, m.qubits))
  same_domain (rows X) (rows X) i k h j e = refl
  same_domain (rows X) (rows Z) i k h j e = absurd (omega arith)
  same_domain (rows Z) qubits i k h j e = absurd (omega (arith, m.qubits))
  same_domain (rows Z) (rows X) i k h j e = absurd (omega arith)
  same_domain (rows Z) (rows Z) i k h j e = refl

  module _ (s : Shot) (l : List ℕ) (w : HeldShot c s l) (long : 2048 ≤ length l) (u : Set) (k : ℕ) (h : k < size_of (domain_of u) z)
      (new : already (domain_of u) s k ≡ false) where
    abbrev place : ℕ
    place = first_numbers (domain_of u) z + k

    abbrev list : List ℕ
    list = set l place (element u)

    inside : place < length l
    inside = let i = within (domain_of u) k h in omega arith

    sets_joined : (o : Set) → (joined u k s).sets o ≡ marks (element o) (size_of (domain_of o) z) (first_numbers (domain_of o) z) list
    sets_joined o = by (ℕ_discrete (adding o) (adding u))
      where
        own : (joined u k s).sets u ≡ marks (element u) (size_of (domain_of u) z) (first_numbers (domain_of u) z) list
        own =
            rw (eq-eqb (adding u) (adding u) refl)
            (ap (put k true) (w.sets u) ∙ marks_put (element u) (size_of (domain_of u) z) (first_numbers (domain_of u) z) l k h inside)

        by : Dec (adding o ≡ adding u) → (joined u k s).sets o ≡ marks (element o) (size_of (domain_of o) z) (first_numbers (domain_of o) z) list
        by (yes e) =
            subst (λ (v : Set). (joined u k s).sets v ≡ marks (element v) (size_of (domain_of v) z) (first_numbers (domain_of v) z) list)
            (sym (sym (is_set o) ∙ ap set_of e ∙ is_set u)) own
        by (no e) =
            rw (ne_eqb (adding o) (adding u) e)
            (w.sets o ∙ marks_past (element o) (size_of (domain_of o) z) (first_numbers (domain_of o) z) l place (element u) inside
            (λ i j t. (
              (λ f. let v = w.zeros (domain_of u) k h new in omega (arith, some_element o)),
              (λ f. e (ap adding (sym (set_at_lem o) ∙ ap₂ set_at (same_domain (domain_of o) (domain_of u) i k j h t) (sym f) ∙ set_at_lem u))),
            )))

    zeros_joined : (p : Domain) (j : ℕ) → j < size_of p z → already p (joined u k s) j ≡ false → get_or list (first_numbers p z + j) 0 ≡ 0
    zeros_joined p j i t = by (ℕ_discrete (first_numbers p z + j) place)
      where
        by : Dec (first_numbers p z + j ≡ place) → get_or list (first_numbers p z + j) 0 ≡ 0
        by (yes e) =
            let d = same_domain p (domain_of u) j k i h e in
            let f : first_numbers (domain_of u) z + j ≡ place = subst (λ (r : Domain). first_numbers r z + j ≡ place) d e in
            let same : j ≡ k = omega arith in
            never (is_in u k s) (subst (λ (x : ℕ). already (domain_of u) (joined u k s) x ≡ false) same (subst (λ (r : Domain). already r (joined u k s) j ≡ false) d t))
        by (no e) = get_or-set_other l place (first_numbers p z + j) (element u) 0 e ∙ w.zeros p j i (stays u k s p j t)

    held_joined : HeldShot c (joined u k s) list
    held_joined = record { sets = sets_joined; zeros = zeros_joined }

  apart : (p : Domain) (k : ℕ) → k < size_of p z → (j : ℕ) → c.n ≤ j → (j < 1024) ⊎ (1024 + row_count c ≤ j) → j ≡ first_numbers p z + k → ⊥
  apart qubits k h j i o e = omega arith
  apart (rows X) k h j i (inl o) e = omega arith
  apart (rows X) k h j i (inr o) e = omega arith
  apart (rows Z) k h j i (inl o) e = omega arith
  apart (rows Z) k h j i (inr o) e = omega arith

  pub left_joined : (s : Shot) (old : List ℕ) (flat ends l : List ℕ) → ShotLeft c s (held flat ends old) (held flat ends l) → 2048 ≤ length l
      → (u : Set) (k : ℕ) → k < size_of (domain_of u) z → already (domain_of u) s k ≡ false
      → ShotLeft c (joined u k s) (held flat ends old) (held flat ends (set l (first_numbers (domain_of u) z + k) (element u)))
  left_joined s old flat ends l v long u k h new =
      record {
        flat = refl;
        ends = refl;
        held = held_joined s l v.held long u k h new;
        rest = λ j i o. get_or-set_other l (first_numbers (domain_of u) z + k) j (element u) 0 (apart (domain_of u) k h j i o) ∙ v.rest j i o;
      }

----------------------------------------------------------------------
-- State and lists

pub holds_opened : (c : Code) (s s' : Shot) (st : State) (flat ends old new : List ℕ) → Holds c s st (held flat ends old)
    → s.spoiled ≡ s'.spoiled → HeldShot c s' new → Holds c s' (opened_of st) (held flat ends new)
holds_opened c s s' st flat ends old new v e w =
    record {
      phase = v.phase;
      sizes = v.sizes;
      range = v.range;
      good_xs = v.good_xs;
      good_zs = v.good_zs;
      commute = v.commute;
      flat = v.flat;
      on = v.on;
      spoiled = v.spoiled ∙ e;
      shot = w;
    }
