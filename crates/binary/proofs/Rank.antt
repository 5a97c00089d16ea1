-- The rank is the number of qubits that are the lowest of some product, so every choice of independent rows that none can join has as many. Assumes nothing.
use mathlib.Core.Path.{◌≡◌, refl, sym, ap, ◌∙◌, fun_ext, subst}
use mathlib.Core.Bool.{Bool, true, false, not, ◌&&◌, true≢false}
use mathlib.Core.Logic.{◌⊎◌, inl, inr, ⊎_elim}
use mathlib.Core.List.Memᴰ
use mathlib.Core.List.{List, [], ◌∷◌, Memᴰ}
use Prim.Native.Nat.{ℕ, zero, suc, ◌≤◌, ◌<◌}
use native.Mathlib.Nat.{not-suc-le-zero, le_of_suc-le-suc, eq-or-lt_of_le, le_refl}
use native.Mathlib.Omega.{arith}
use borrow.Author.Tests.{lt-ltb, ltb-true, eqb-false}
use lib.Dec.{eqb, ltb}
use lib.ListN.{length}
use Rattle.binary.specs.Bits.{◌⊕◌, count, tally}
use Rattle.binary.specs.Meaning.{Qubits, Row, Below, All, has, sum, product, IsProduct, Lowest, fixed?}
use Rattle.binary.specs.Classes.{Reduced}
use Rattle.binary.specs.Rank.{chosen_if, chosen, Independent, product?, rank, RankLaw}
use Rattle.binary.proofs.Bits.{xors, ⊕_false, ⊕_self, ⊕_eq, bit, never, iff_eq, tally_same, tally_none}
use Rattle.binary.proofs.Weights.{tally_up}
use Rattle.binary.proofs.Rows.{all_out, empty_product, sum_product, choice, has_below, product_below}
use Rattle.binary.proofs.WordBits.{order}
use Rattle.binary.proofs.Tests.{differ_test, fixed_out, fixed_in_lem}
use Rattle.binary.proofs.Classes.{class_has}

----------------------------------------------------------------------
-- Products of one row more

-- Every product of these rows is one of those.
abbrev Spans : List Row → List Row → Type 0
Spans rs ts = (s : Qubits) → IsProduct rs s → IsProduct ts s

product_more : (r : Row) (rs : List Row) → Spans rs (r ∷ rs)
product_more r rs s x = (choice false x.0, x.1)

product_first : (r : Row) (rs : List Row) → IsProduct (r ∷ rs) (has r)
product_first r rs =
    let z = empty_product rs in (choice true z.0, λ q. sym (⊕_false (has r q)) ∙ ap (λ (b : Bool). has r q ⊕ b) (z.1 q))

-- A product of the rows after the first, or the first one and such a product.
parted : (r : Row) (rs : List Row) (s : Qubits) → IsProduct (r ∷ rs) s → IsProduct rs s ⊎ IsProduct rs (sum (has r) s)
parted r rs s x =
    bit (x.0 0) (λ e. inr (λ i. x.0 (suc i), λ q. rw (x.1 q, e) (simp xors)))
    (λ e. inl (λ i. x.0 (suc i), λ q. x.1 q ∙ ap (λ (b : Bool). (b && has r q) ⊕ product rs (λ i. x.0 (suc i)) q) e))

-- The first row, added once more, is gone.
rejoined : (r : Row) (rs : List Row) (s : Qubits) → IsProduct rs (has r) → IsProduct rs (sum (has r) s) → IsProduct rs s
rejoined r rs s x y = subst (IsProduct rs) (fun_ext (λ q. simp xors)) (sum_product rs x y)

spans_all : (rs ts : List Row) → ((r : Row) → Memᴰ r rs → IsProduct ts (has r)) → Spans rs ts
spans_all [] ts h s x = let z = empty_product ts in (z.0, λ q. x.1 q ∙ z.1 q)
spans_all (r ∷ rs) ts h s x =
    let rest : Spans rs ts = spans_all rs ts (λ k m. h k (Memᴰ.tail m)) in
    ⊎_elim (rest s) (λ y. rejoined r ts s (h r (Memᴰ.head refl)) (rest (sum (has r) s) y)) (parted r rs s x)

----------------------------------------------------------------------
-- Tallies, and the lowest qubit of a set

tally_mono : (n : ℕ) (f g : ℕ → Bool) → ((q : ℕ) → f q ≡ true → g q ≡ true) → tally n f ≤ tally n g
tally_mono zero f g h = le_refl 0
tally_mono (suc n) f g h =
    let rest = tally_mono n f g h in
    bit (f n) (λ e. rw (e, h n e) (omega (arith, rest))) (λ e. bit (g n) (λ d. rw (e, d) (omega (arith, rest))) (λ d. rw (e, d) rest))

-- Of the qubits below n.
lowest_of : (n : ℕ) (s : Qubits) → ((q : ℕ) → q < n → s q ≡ false) ⊎ ((p : ℕ) × (p < n) × Lowest s p)
lowest_of zero s = inl (λ q l. absurd (not-suc-le-zero l))
lowest_of (suc n) s = by (lowest_of n s) (s n) refl
  where
    by : ((q : ℕ) → q < n → s q ≡ false) ⊎ ((p : ℕ) × (p < n) × Lowest s p) → (b : Bool) → s n ≡ b
        → ((q : ℕ) → q < suc n → s q ≡ false) ⊎ ((p : ℕ) × (p < suc n) × Lowest s p)
    by (inr z) b e = inr (z.0, omega (arith, z.1), z.2)
    by (inl none) true e = inr (n, omega arith, (e, none))
    by (inl none) false e = inl (λ q l. ⊎_elim (λ (d : q ≡ n). rw d e) (λ (d : q < n). none q d) (eq-or-lt_of_le (le_of_suc-le-suc l)))

----------------------------------------------------------------------
-- The lowest qubits of products

module _ (n : ℕ) where
  abbrev everything : Qubits
  everything q = ltb q n

  product_in : (rs : List Row) (r : Row) → Below n rs → All (λ q. q < n) r → IsProduct rs (has r) → product? n rs (has r) ≡ true
  unfolding product?
  product_in rs r b v = (differ_test n rs b (λ q. false) (has r) (λ q t. never t refl) (has_below n r v)).0

  product_out : (rs : List Row) (r : Row) → Below n rs → All (λ q. q < n) r → product? n rs (has r) ≡ true → IsProduct rs (has r)
  unfolding product?
  product_out rs r b v = (differ_test n rs b (λ q. false) (has r) (λ q t. never t refl) (has_below n r v)).1

  -- Whether a qubit is the lowest of some product.
  abbrev leads : List Row → Qubits
  leads rs = fixed? n rs everything

  leads_in : (rs : List Row) → Below n rs → (s : Qubits) (q : ℕ) → IsProduct rs s → Lowest s q → leads rs q ≡ true
  leads_in rs b s q x l =
      fixed_in_lem n rs everything b q (s, x, λ p t. lt-ltb p n (product_below n rs b x.0 p (sym (x.1 p) ∙ t)), l)

  leads_out : (rs : List Row) → Below n rs → (q : ℕ) → leads rs q ≡ true → (s : Qubits) × IsProduct rs s × Lowest s q
  leads_out rs b q t = let f = fixed_out n rs everything b q t in (f.0, f.1, f.3)

  leads_mono : (rs ts : List Row) → Below n rs → Below n ts → Spans rs ts → (q : ℕ) → leads rs q ≡ true → leads ts q ≡ true
  leads_mono rs ts b d h q t = let z = leads_out rs b q t in leads_in ts d z.0 q (h z.0 z.1) z.2

  abbrev leading : List Row → ℕ
  leading rs = tally n (leads rs)

  leading_mono : (rs ts : List Row) → Below n rs → Below n ts → Spans rs ts → leading rs ≤ leading ts
  leading_mono rs ts b d h = tally_mono n (leads rs) (leads ts) (leads_mono rs ts b d h)

  module _ (r : Row) (rs : List Row) (v : All (λ q. q < n) r) (b : Below n rs) where
    leading_same : IsProduct rs (has r) → leading (r ∷ rs) ≡ leading rs
    leading_same x =
        tally_same n (leads rs) (leads (r ∷ rs)) (λ q l. iff_eq (leads (r ∷ rs) q) (leads rs q)
        (leads_mono (r ∷ rs) rs (v, b) b (λ s y. ⊎_elim (λ z. z) (rejoined r rs s x) (parted r rs s y)) q)
        (leads_mono rs (r ∷ rs) b (v, b) (product_more r rs) q))

    -- What is left of the row when the lowest qubits of products are cleared.
    rest_of_lem : (e : Qubits) × Reduced rs everything (has r) e
    rest_of_lem = class_has n rs everything b (λ q t. ltb-true q n t) (has r) (λ q t. lt-ltb q n (has_below n r v q t))

    abbrev rest : Qubits
    rest = rest_of_lem.0

    rest_product : IsProduct (r ∷ rs) rest
    rest_product =
        rejoined r (r ∷ rs) rest (product_first r rs) (product_more r rs (sum (has r) rest) rest_of_lem.1.differ)

    module _ (p : ℕ) (low : Lowest rest p) where
      new : leads (r ∷ rs) p ≡ true
      new = leads_in (r ∷ rs) (v, b) rest p rest_product low

      not_led : leads rs p ≡ false
      not_led = bit (leads rs p) (λ t. never low.0 (rest_of_lem.1.zeros p (fixed_out n rs everything b p t))) (λ t. t)

      -- A product with the first row in it has its lowest qubit at p, or that of a product without.
      led : (q : ℕ) (s : Qubits) → eqb p q ≡ false → Lowest s q → IsProduct rs (sum (has r) s) → leads rs q ≡ true
      led q s d l x = ⊎_elim before (λ h. ⊎_elim (λ i. absurd (eqb-false p q d i)) after (eq-or-lt_of_le h)) (order q p)
        where
          both : IsProduct rs (sum rest s)
          both = subst (IsProduct rs) (fun_ext (λ k. simp xors)) (sum_product rs rest_of_lem.1.differ x)

          before : q < p → leads rs q ≡ true
          before h = leads_in rs b (sum rest s) q both (rw (low.1 q h) l.0, λ k i. rw (low.1 k (omega arith)) (l.1 k i))

          after : p < q → leads rs q ≡ true
          after h = never (leads_in rs b (sum rest s) p both (rw (low.0, l.1 p h), λ k i. rw (low.1 k i) (l.1 k (omega arith)))) not_led

      leading_one : p < n → leading (r ∷ rs) ≡ suc (leading rs)
      leading_one h =
          tally_up n p (leads rs) (leads (r ∷ rs)) h not_led new (λ q d. iff_eq (leads (r ∷ rs) q) (leads rs q)
          (λ t. let z = leads_out (r ∷ rs) (v, b) q t in
          ⊎_elim (λ x. leads_in rs b z.0 q x z.2) (led q z.0 d z.2) (parted r rs z.0 z.1))
          (leads_mono rs (r ∷ rs) b (v, b) (product_more r rs) q))

    leading_more : (IsProduct rs (has r) → ⊥) → leading (r ∷ rs) ≡ suc (leading rs)
    leading_more f = ⊎_elim (λ none. absurd (f (whole none))) (λ z. leading_one z.0 z.2 z.1) (lowest_of n rest)
      where
        empty : ((q : ℕ) → q < n → rest q ≡ false) → (q : ℕ) → rest q ≡ false
        empty none q = bit (rest q) (λ t. never t (none q (ltb-true q n (rest_of_lem.1.inside q t)))) (λ t. t)

        whole : ((q : ℕ) → q < n → rest q ≡ false) → IsProduct rs (has r)
        whole none =
            subst (IsProduct rs) (fun_ext (λ q. ap (λ (c : Bool). has r q ⊕ c) (empty none q) ∙ ⊕_false (has r q))) rest_of_lem.1.differ

  leading_none : leading [] ≡ 0
  leading_none = tally_none n (leads []) (λ q. bit (leads [] q) (λ t. let z = leads_out [] tt q t in never z.2.0 (z.1.1 q)) (λ t. t))

  -- As many as the qubits that are the lowest of some product.
  pub rank_fixed : (rs : List Row) → Below n rs → rank n rs ≡ tally n (fixed? n rs (λ q. ltb q n))
  unfolding rank
  rank_fixed [] b = sym leading_none
  rank_fixed (r ∷ rs) b = by (product? n rs (has r)) refl (rank_fixed rs b.1)
    where
      by : (t : Bool) → product? n rs (has r) ≡ t → rank n rs ≡ leading rs → count (not t) (rank n rs) ≡ leading (r ∷ rs)
      by true e h = h ∙ sym (leading_same r rs b.0 b.1 (product_out rs r b.1 b.0 e))
      by false e h = ap suc h ∙ sym (leading_more r rs b.0 b.1 (λ x. never (product_in rs r b.1 b.0 x) e))

----------------------------------------------------------------------
-- Independent rows

independent_less : (r : Row) (rs : List Row) → Independent (r ∷ rs) → Independent rs
independent_less r rs f c e i l = f (choice false c) e (suc i) (omega arith)

independent_no : (r : Row) (rs : List Row) → Independent (r ∷ rs) → IsProduct rs (has r) → ⊥
independent_no r rs f x =
    let z : true ≡ false = f (choice true x.0) (λ q. ap (λ (b : Bool). has r q ⊕ b) (sym (x.1 q)) ∙ ⊕_self (has r q)) 0 (omega arith) in
    true≢false z

independent_more : (r : Row) (rs : List Row) → (IsProduct rs (has r) → ⊥) → Independent rs → Independent (r ∷ rs)
independent_more r rs f g c e = bit (c 0) (λ t. absurd (f (λ i. c (suc i), λ q. joins t q))) rest
  where
    joins : c 0 ≡ true → (q : ℕ) → has r q ≡ product rs (λ i. c (suc i)) q
    joins t q = ⊕_eq (has r q) (product rs (λ i. c (suc i)) q) (rw t at (e q))

    rest : c 0 ≡ false → (i : ℕ) → i < suc (length rs) → c i ≡ false
    rest t zero l = t
    rest t (suc i) l = g (λ j. c (suc j)) (λ q. rw t at (e q)) i (le_of_suc-le-suc l)

module _ (n : ℕ) where
  independent_rank : (rs : List Row) → Below n rs → Independent rs → rank n rs ≡ length rs
  unfolding rank
  independent_rank [] b f = refl
  independent_rank (r ∷ rs) b f = by (product? n rs (has r)) refl (independent_rank rs b.1 (independent_less r rs f))
    where
      by : (t : Bool) → product? n rs (has r) ≡ t → rank n rs ≡ length rs → count (not t) (rank n rs) ≡ suc (length rs)
      by true e h = absurd (independent_no r rs f (product_out n rs r b.1 b.0 e))
      by false e h = ap suc h

  ----------------------------------------------------------------------
  -- Choices

  chosen_below : (rs : List Row) (c : ℕ → Bool) → Below n rs → Below n (chosen rs c)
  chosen_below [] c b = tt
  chosen_below (r ∷ rs) c b = by (c 0) (chosen_below rs (λ i. c (suc i)) b.1)
    where
      by : (t : Bool) → Below n (chosen rs (λ i. c (suc i))) → Below n (chosen_if t r (chosen rs (λ i. c (suc i))))
      by true d = (b.0, d)
      by false d = d

chosen_in : (rs : List Row) (c : ℕ → Bool) (r : Row) → Memᴰ r (chosen rs c) → Memᴰ r rs
chosen_in [] c r m = m
chosen_in (k ∷ rs) c r m = by (c 0) (chosen_in rs (λ i. c (suc i)) r) m
  where
    by : (t : Bool) → (Memᴰ r (chosen rs (λ i. c (suc i))) → Memᴰ r rs) → Memᴰ r (chosen_if t k (chosen rs (λ i. c (suc i)))) → Memᴰ r (k ∷ rs)
    by true f i = ⊎_elim (λ e. Memᴰ.head e) (λ j. Memᴰ.tail (f j)) (Memᴰ.cases_cons i)
    by false f i = Memᴰ.tail (f i)

-- Each row is a product.
product_of : (rs : List Row) (r : Row) → Memᴰ r rs → IsProduct rs (has r)
product_of [] r m = absurd (Memᴰ.not-nil m)
product_of (k ∷ rs) r m =
    ⊎_elim (λ e. rw e (product_first k rs)) (λ i. product_more k rs (has r) (product_of rs r i)) (Memᴰ.cases_cons m)

chosen_spans : (rs : List Row) (c : ℕ → Bool) → Spans (chosen rs c) rs
chosen_spans rs c = spans_all (chosen rs c) rs (λ r m. product_of rs r (chosen_in rs c r m))

module _ (n : ℕ) where
  -- Each row that is no product of those after it.
  picked : List Row → ℕ → Bool
  picked [] = λ i. false
  picked (r ∷ rs) = choice (not (product? n rs (has r))) (picked rs)

  record Picked (rs : List Row) : Type 0 where
    free : Independent (chosen rs (picked rs))
    many : length (chosen rs (picked rs)) ≡ rank n rs

  all_picked : (rs : List Row) → Below n rs → Picked rs
  unfolding rank picked
  all_picked [] b = record { free = λ c e i l. absurd (not-suc-le-zero l); many = refl }
  all_picked (r ∷ rs) b = let z = by (product? n rs (has r)) refl (all_picked rs b.1) in record { free = z.0; many = z.1 }
    where
      by : (t : Bool) → product? n rs (has r) ≡ t → Picked rs
          → Independent (chosen_if (not t) r (chosen rs (picked rs))) × (length (chosen_if (not t) r (chosen rs (picked rs))) ≡ count (not t) (rank n rs))
      by true e p = (p.free, p.many)
      by false e p = (
        independent_more r (chosen rs (picked rs)) (λ x. never (product_in n rs r b.1 b.0 (chosen_spans rs (picked rs) (has r) x)) e) p.free,
        ap suc p.many,
      )

  module _ (rs : List Row) (b : Below n rs) (c : ℕ → Bool) (f : Independent (chosen rs c)) where
    chosen_leading : length (chosen rs c) ≡ leading n (chosen rs c)
    chosen_leading = sym (independent_rank n (chosen rs c) (chosen_below n rs c b) f) ∙ rank_fixed n (chosen rs c) (chosen_below n rs c b)

    chosen_few : length (chosen rs c) ≤ rank n rs
    chosen_few = rw (chosen_leading, rank_fixed n rs b) (leading_mono n (chosen rs c) rs (chosen_below n rs c b) b (chosen_spans rs c))

    chosen_all : ((r : Row) → Memᴰ r rs → Independent (r ∷ chosen rs c) → ⊥) → rank n rs ≤ length (chosen rs c)
    chosen_all h = rw (chosen_leading, rank_fixed n rs b) (leading_mono n rs (chosen rs c) b (chosen_below n rs c b) (spans_all rs (chosen rs c) joins))
      where
        joins : (r : Row) → Memᴰ r rs → IsProduct (chosen rs c) (has r)
        joins r m =
            let v = all_out (All (λ q. q < n)) rs b r m in
            bit (product? n (chosen rs c) (has r)) (product_out n (chosen rs c) r (chosen_below n rs c b) v)
            (λ t. absurd (h r m (independent_more r (chosen rs c) (λ x. never (product_in n (chosen rs c) r (chosen_below n rs c b) v x) t) f)))

pub ranks : RankLaw
unfolding RankLaw
ranks n rs b =
    record {
      largest = let p = all_picked n rs b in (picked n rs, p.free, p.many);
      most = chosen_few n rs b;
      every = λ c f h. let few = chosen_few n rs b c f in let all = chosen_all n rs b c f h in omega arith;
    }
