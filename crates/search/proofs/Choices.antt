-- The first that passes a test, and the shortest column. Assumes nothing.
use mathlib.Core.Path.{◌≡◌, refl, sym, ap, ap₂, ◌∙◌, subst}
use mathlib.Core.Bool.{Bool, true, false, cond}
use mathlib.Core.Logic.{⊎_elim}
use mathlib.Core.Option.{Option, none, some}
use Prim.Native.Nat.{ℕ, zero, suc, ◌≤◌, ◌<◌}
use native.Mathlib.Nat.{not-suc-le-zero, le_of_suc-le-suc, eq-or-lt_of_le}
use native.Mathlib.Omega.{arith}
use borrow.Author.Tests.{lt-ltb, le-ltb, ltb-true, ltb-false}
use lib.Dec.{ltb}
use Rattle.binary.specs.Meaning.{Qubits}
use Rattle.binary.proofs.Bits.{never}
use Rattle.search.specs.Route.{earlier, first, shorter, shortest}

----------------------------------------------------------------------
-- The first

pub first_none : (n : ℕ) (f : ℕ → Bool) → ((i : ℕ) → i < n → f i ≡ false) → first n f ≡ none
first_none zero f h = refl
first_none (suc n) f h = ap₂ (λ (r : Option ℕ) (b : Bool). earlier r b n) (first_none n f (λ i l. h i (omega arith))) (h n (omega arith))

pub first_some : (n i : ℕ) (f : ℕ → Bool) → i < n → f i ≡ true → ((j : ℕ) → j < i → f j ≡ false) → first n f ≡ some i
first_some zero i f l t h = absurd (not-suc-le-zero l)
first_some (suc n) i f l t h =
    ⊎_elim
    (λ (e : i ≡ n). ap₂ (λ (r : Option ℕ) (b : Bool). earlier r b n) (first_none n f (λ j k. h j (omega arith))) (subst (λ (x : ℕ). f x ≡ true) e t) ∙ ap some (sym e))
    (λ (e : i < n). ap (λ (r : Option ℕ). earlier r (f n) n) (first_some n i f e t h))
    (eq-or-lt_of_le (le_of_suc-le-suc l))

-- What it says: none passes, or this one does and no lower one.
abbrev pub First? : ℕ → (ℕ → Bool) → Option ℕ → Type 0
First? n f none = (i : ℕ) → i < n → f i ≡ false
First? n f (some i) = (i < n) × (f i ≡ true)

pub first_out : (n : ℕ) (f : ℕ → Bool) → First? n f (first n f)
first_out zero f = λ i l. absurd (not-suc-le-zero l)
first_out (suc n) f = look (first n f) (f n) refl (first_out n f)
  where
    look : (r : Option ℕ) (b : Bool) → f n ≡ b → First? n f r → First? (suc n) f (earlier r b n)
    look (some i) b e h = (omega (arith, h.0), h.1)
    look none true e h = (omega arith, e)
    look none false e h = λ i l. ⊎_elim (λ (d : i ≡ n). rw d e) (λ (d : i < n). h i d) (eq-or-lt_of_le (le_of_suc-le-suc l))

----------------------------------------------------------------------
-- The shortest

module _ (len : ℕ → ℕ) (u : Qubits) where
  -- What it says: no column is untaken, or this one is.
  abbrev pub Among : ℕ → Option ℕ → Type 0
  Among n none = (p : ℕ) → p < n → u p ≡ false
  Among n (some q) = (q < n) × (u q ≡ true)

  pub shortest_out : (n : ℕ) → Among n (shortest len n u)
  shortest_out zero = λ p l. absurd (not-suc-le-zero l)
  shortest_out (suc n) = look (u n) refl (shortest len n u) (shortest_out n)
    where
      pick : (b : Bool) (p : ℕ) → u n ≡ true → p < n → u p ≡ true → Among (suc n) (cond b (some n) (some p))
      pick true p e l t = (omega arith, e)
      pick false p e l t = (omega arith, t)

      look : (b : Bool) → u n ≡ b → (r : Option ℕ) → Among n r → Among (suc n) (shorter b len n r)
      look false e none h = λ p l. ⊎_elim (λ (d : p ≡ n). rw d e) (λ (d : p < n). h p d) (eq-or-lt_of_le (le_of_suc-le-suc l))
      look false e (some p) h = (omega (arith, h.0), h.1)
      look true e none h = (omega arith, e)
      look true e (some p) h = pick (ltb (len n) (len p)) p e h.0 h.1

  pub shortest_none : (n : ℕ) → ((p : ℕ) → p < n → u p ≡ false) → shortest len n u ≡ none
  shortest_none zero h = refl
  shortest_none (suc n) h = ap₂ (λ (b : Bool) (r : Option ℕ). shorter b len n r) (h n (omega arith)) (shortest_none n (λ p l. h p (omega arith)))

  -- Column q is untaken, no untaken one is shorter, and every lower one is longer.
  pub shortest_some : (n q : ℕ) → q < n → u q ≡ true → ((p : ℕ) → p < n → u p ≡ true → len q ≤ len p) → ((p : ℕ) → p < q → u p ≡ true → len q < len p)
      → shortest len n u ≡ some q
  shortest_some zero q l t least lowest = absurd (not-suc-le-zero l)
  shortest_some (suc n) q l t least lowest =
      ⊎_elim
      (λ (e : q ≡ n). ap (λ (b : Bool). shorter b len n (shortest len n u)) (subst (λ (x : ℕ). u x ≡ true) e t) ∙ last e (shortest len n u) (shortest_out n))
      (λ (e : q < n). ap (shorter (u n) len n) (shortest_some n q e t (λ p k. least p (omega arith)) lowest) ∙ stays (u n) refl)
      (eq-or-lt_of_le (le_of_suc-le-suc l))
    where
      last : q ≡ n → (r : Option ℕ) → Among n r → shorter true len n r ≡ some q
      last e none h = ap some (sym e)
      last e (some p) h =
          let k = lowest p (omega (arith, h.0)) h.1 in
          rw (← e) (ap (λ (b : Bool). cond b (some q) (some p)) (lt-ltb (len q) (len p) k))

      stays : (b : Bool) → u n ≡ b → shorter b len n (some q) ≡ some q
      stays true e = ap (λ (b : Bool). cond b (some n) (some q)) (le-ltb (len n) (len q) (least n (omega arith) e))
      stays false e = refl

  -- No untaken one is shorter.
  abbrev Least : ℕ → Option ℕ → Type 0
  Least n none = Unit {0}
  Least n (some q) = (p : ℕ) → p < n → u p ≡ true → len q ≤ len p

  least_out : (n : ℕ) → Least n (shortest len n u)
  least_out zero = tt
  least_out (suc n) = look (u n) refl (shortest len n u) (shortest_out n) (least_out n)
    where
      up_to : (q : ℕ) → len q ≤ len n → ((p : ℕ) → p < n → u p ≡ true → len q ≤ len p) → Least (suc n) (some q)
      up_to q at below p l t = ⊎_elim (λ (d : p ≡ n). rw d at) (λ (d : p < n). below p d t) (eq-or-lt_of_le (le_of_suc-le-suc l))

      pick : (q : ℕ) → Least n (some q) → (b : Bool) → ltb (len n) (len q) ≡ b → Least (suc n) (cond b (some n) (some q))
      pick q h true e = let less = ltb-true (len n) (len q) e in up_to n (omega arith) (λ p d t. omega (arith, h p d t))
      pick q h false e = let more = ltb-false (len n) (len q) e in up_to q (omega arith) h

      look : (b : Bool) → u n ≡ b → (r : Option ℕ) → Among n r → Least n r → Least (suc n) (shorter b len n r)
      look false e none a h = tt
      look false e (some q) a h = λ p l t. ⊎_elim (λ (d : p ≡ n). never (subst (λ (x : ℕ). u x ≡ true) d t) e) (λ (d : p < n). h p d t) (eq-or-lt_of_le (le_of_suc-le-suc l))
      look true e none a h = up_to n (omega arith) (λ p d t. never t (a p d))
      look true e (some q) a h = pick q h (ltb (len n) (len q)) refl

  pub shortest_least : (n q : ℕ) → shortest len n u ≡ some q → (p : ℕ) → p < n → u p ≡ true → len q ≤ len p
  shortest_least n q e = subst (Least n) e (least_out n)

-- It looks at the columns below n.
pub shortest_same : (len : ℕ → ℕ) (u v : Qubits) (n : ℕ) → ((p : ℕ) → p < n → u p ≡ v p) → shortest len n u ≡ shortest len n v
shortest_same len u v zero h = refl
shortest_same len u v (suc n) h = ap₂ (λ (b : Bool) (r : Option ℕ). shorter b len n r) (h n (omega arith)) (shortest_same len u v n (λ p l. h p (omega arith)))
