-- Products and parities of rows are linear. Assumes nothing.
use mathlib.Core.Path.{◌≡◌, refl, sym, ap₂, ◌∙◌, subst}
use mathlib.Core.Bool.{Bool, true, false, ◌&&◌}
use mathlib.Core.Logic.{⊎_elim}
use mathlib.Core.List.Memᴰ
use mathlib.Core.List.{List, [], ◌∷◌, Memᴰ}
use Prim.Native.Nat.{ℕ, zero, suc, ◌<◌}
use lib.Dec.{eqb}
use Rattle.binary.specs.Bits.{◌⊕◌}
use Rattle.binary.specs.Meaning.{Qubits, Row, All, has, odd, sum, Inside, product, IsProduct, Even, Below}
use Rattle.binary.proofs.Bits.{xors, &&_⊕, ⊕_out, or_out, and_out, never, eqb_eq}

----------------------------------------------------------------------
-- Lists

pub all_out {ℓ} : {A : Type ℓ} (P : A → Type 0) (xs : List A) → All P xs → (x : A) → Memᴰ x xs → P x
all_out P [] a x m = absurd (Memᴰ.not-nil m)
all_out P (y ∷ xs) a x m = ⊎_elim (λ i. subst P (sym i) a.0) (λ i. all_out P xs a.1 x i) (Memᴰ.cases_cons m)

pub all_in {ℓ} : {A : Type ℓ} (P : A → Type 0) (xs : List A) → ((x : A) → Memᴰ x xs → P x) → All P xs
all_in P [] h = tt
all_in P (x ∷ xs) h = (h x (Memᴰ.head refl), all_in P xs (λ y m. h y (Memᴰ.tail m)))

----------------------------------------------------------------------
-- Sums of products are products

product_none : (rs : List Row) (q : ℕ) → product rs (λ i. false) q ≡ false
product_none [] q = refl
product_none (r ∷ rs) q = product_none rs q

product_sum : (rs : List Row) (c d : ℕ → Bool) (q : ℕ) → product rs (λ i. c i ⊕ d i) q ≡ product rs c q ⊕ product rs d q
product_sum [] c d q = refl
product_sum (r ∷ rs) c d q =
    rw (product_sum rs (λ i. c (suc i)) (λ i. d (suc i)) q, &&_⊕ (c 0) (d 0) (has r q)) (simp xors)

pub empty_product : (rs : List Row) → IsProduct rs (λ q. false)
empty_product rs = (λ i. false, λ q. sym (product_none rs q))

pub sum_product : (rs : List Row) {a b : Qubits} → IsProduct rs a → IsProduct rs b → IsProduct rs (sum a b)
sum_product rs x y = (λ i. x.0 i ⊕ y.0 i, λ q. rw (x.1 q, y.1 q, product_sum rs x.0 y.0 q))

-- The choice of rows b for the first, and c for the others.
abbrev pub choice : Bool → (ℕ → Bool) → ℕ → Bool
choice b c zero = b
choice b c (suc i) = c i

----------------------------------------------------------------------
-- Parities

pub odd_sum : (a b : Qubits) (r : Row) → odd (sum a b) r ≡ odd a r ⊕ odd b r
odd_sum a b [] = refl
odd_sum a b (q ∷ r) = rw (odd_sum a b r) (simp xors)

pub odd_none : (r : Row) → odd (λ q. false) r ≡ false
odd_none [] = refl
odd_none (q ∷ r) = odd_none r

odd_part : (b : Bool) (k r : Row) → Even r k → odd (λ q. b && has k q) r ≡ false
odd_part true k r e = e
odd_part false k r e = odd_none r

-- A row that is even with each row is even with each product.
pub odd_product : (rs : List Row) (r : Row) → All (Even r) rs → (c : ℕ → Bool) → odd (product rs c) r ≡ false
odd_product [] r h c = odd_none r
odd_product (k ∷ rs) r h c =
    odd_sum (λ q. c 0 && has k q) (product rs (λ i. c (suc i))) r
    ∙ ap₂ ◌⊕◌ (odd_part (c 0) k r h.0) (odd_product rs r h.1 (λ i. c (suc i)))

----------------------------------------------------------------------
-- Where sets lie

pub inside_sum : {a b l : Qubits} → Inside a l → Inside b l → Inside (sum a b) l
inside_sum {a} {b} f g q t = ⊕_out (a q) (b q) t (f q) (g q)

pub has_below : (n : ℕ) (r : Row) → All (λ q. q < n) r → (q : ℕ) → has r q ≡ true → q < n
has_below n [] h q t = never t refl
has_below n (p ∷ r) h q t = or_out (eqb p q) _ t (λ e. rw (← (eqb_eq p q e)) h.0) (λ l. has_below n r h.1 q l)

pub product_below : (n : ℕ) (rs : List Row) → Below n rs → (c : ℕ → Bool) (q : ℕ) → product rs c q ≡ true → q < n
product_below n [] h c q t = never t refl
product_below n (r ∷ rs) h c q t =
    ⊕_out (c 0 && has r q) _ t (λ l. has_below n r h.0 q (and_out (c 0) _ l).1) (λ l. product_below n rs h.1 (λ i. c (suc i)) q l)
