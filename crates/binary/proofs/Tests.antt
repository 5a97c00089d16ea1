-- The tests of the meaning find just what they are named after. Assumes nothing.
use mathlib.Core.Path.{◌≡◌, refl, sym, ◌∙◌, fun_ext, subst}
use mathlib.Core.Bool.{Bool, true, false, not, ◌&&◌, beq}
use mathlib.Core.Logic.{◌↔◌}
use mathlib.Core.List.{List, [], ◌∷◌}
use Prim.Native.Nat.{ℕ, suc, ◌<◌}
use Rattle.binary.specs.Bits.{◌⊕◌, below}
use Rattle.binary.specs.Meaning.{Qubits, Row, Check, Below, All, all?, has, odd, fires, Inside, inside?, Reads, Fits, fits?, sum, product, any_product, Differ, differ?, Even, Commute, commute?, lowest?, Fixed, fixed?}
use Rattle.binary.proofs.Bits.{bit, and_out, and_in, or_out, or_left, or_right, not_in, not_out, imp_in, imp_out, beq_out, beq_in, below_out, below_in, ⊕_out}
use Rattle.binary.proofs.Rows.{choice, product_below}

----------------------------------------------------------------------
-- Lists

-- A test that decides a property decides it of every element.
pub all_test {ℓ} : {A : Type ℓ} (P : A → Type 0) (f : A → Bool) → ((x : A) → P x ↔ (f x ≡ true)) → (xs : List A) → All P xs ↔ (all? f xs ≡ true)
all_test P f h [] = (λ a. refl, λ t. tt)
all_test P f h (x ∷ xs) =
    let i = all_test P f h xs in (
      λ a. and_in ((h x).0 a.0) (i.0 a.1),
      λ t. let z = and_out (f x) (all? f xs) t in ((h x).1 z.0, i.1 z.1),
    )

----------------------------------------------------------------------
-- Fitting

pub inside_test : (n : ℕ) (s l : Qubits) → ((q : ℕ) → s q ≡ true → q < n) → Inside s l ↔ (inside? n s l ≡ true)
inside_test n s l small = (
  λ h. below_in n _ (λ q _. imp_in (s q) (l q) (h q)),
  λ t q e. imp_out (s q) (l q) (below_out n _ t q (small q e)) e,
)

-- Of an error below n.
pub fits_test : (n : ℕ) (lost : Qubits) (checks : List Check) (e : Qubits) → ((q : ℕ) → e q ≡ true → q < n)
    → Fits lost checks e ↔ (fits? n lost checks e ≡ true)
fits_test n lost checks e small =
    let i = inside_test n e lost small in
    let r = all_test (Reads e) (λ c. beq (fires c.row e) c.lit) (λ c. (beq_in, beq_out (fires c.row e) c.lit)) checks in (
      λ f. and_in (i.0 f.0) (r.0 f.1),
      λ t. let z = and_out (inside? n e lost) _ t in (i.1 z.0, r.1 z.1),
    )

----------------------------------------------------------------------
-- Commuting

pub commute_test : (rows others : List Row) → Commute rows others ↔ (commute? rows others ≡ true)
unfolding commute?
commute_test rows others =
    all_test (λ r. All (Even r) others) (λ r. all? (λ k. not (odd (has k) r)) others)
    (λ r. all_test (Even r) (λ k. not (odd (has k) r)) (λ k. (not_in, not_out (odd (has k) r))) others) rows

----------------------------------------------------------------------
-- Products

pub any_out : (rs : List Row) (f : Qubits → Bool) → any_product rs f ≡ true → (c : ℕ → Bool) × (f (product rs c) ≡ true)
any_out [] f t = (λ i. false, t)
any_out (r ∷ rs) f t =
    or_out (any_product rs f) _ t (λ l. let x = any_out rs f l in (choice false x.0, x.1))
    (λ l. let x = any_out rs (λ s. f (λ q. has r q ⊕ s q)) l in (choice true x.0, x.1))

pub any_in : (rs : List Row) (f : Qubits → Bool) (c : ℕ → Bool) → f (product rs c) ≡ true → any_product rs f ≡ true
any_in [] f c t = t
any_in (r ∷ rs) f c t =
    bit (c 0) (λ e. or_right (any_product rs f) (any_in rs (λ s. f (λ q. has r q ⊕ s q)) (λ i. c (suc i)) (at e)))
    (λ e. or_left (any_product rs (λ s. f (λ q. has r q ⊕ s q))) (any_in rs f (λ i. c (suc i)) (at e)))
  where
    at : {b : Bool} → c 0 ≡ b → f (λ q. (b && has r q) ⊕ product rs (λ i. c (suc i)) q) ≡ true
    at e = subst (λ (b : Bool). f (λ q. (b && has r q) ⊕ product rs (λ i. c (suc i)) q) ≡ true) e t

-- Of errors below n.
pub differ_test : (n : ℕ) (rs : List Row) → Below n rs → (a b : Qubits) → ((q : ℕ) → a q ≡ true → q < n) → ((q : ℕ) → b q ≡ true → q < n)
    → Differ rs a b ↔ (differ? n rs a b ≡ true)
differ_test n rs rows_below a b a-below b-below = (
  λ d. any_in rs same d.0 (below_in n _ (λ q _. beq_in (d.1 q))),
  λ t. let z = any_out rs same t in (z.0, λ q. bit (sum a b q) (λ e. inside z q (⊕_out (a q) (b q) e (a-below q) (b-below q))) (outside z q)),
)
  where
    same : Qubits → Bool
    same s = below n (λ q. beq (a q ⊕ b q) (s q))

    inside : (z : (c : ℕ → Bool) × (same (product rs c) ≡ true)) (q : ℕ) → q < n → sum a b q ≡ product rs z.0 q
    inside z q l = beq_out (a q ⊕ b q) (product rs z.0 q) (below_out n _ z.1 q l)

    outside : (z : (c : ℕ → Bool) × (same (product rs c) ≡ true)) (q : ℕ) → sum a b q ≡ false → sum a b q ≡ product rs z.0 q
    outside z q e = bit (product rs z.0 q) (λ t. inside z q (product_below n rs rows_below z.0 q t)) (λ t. e ∙ sym t)

module _ (n : ℕ) (others : List Row) (lost : Qubits) (rows_below : Below n others) where
  pub fixed_out : (q : ℕ) → fixed? n others lost q ≡ true → Fixed others lost q
  unfolding fixed?
  fixed_out q t =
      let x = any_out others (λ s. lowest? s q && inside? n s lost) t in
      let s : Qubits = product others x.0 in
      let a = and_out (lowest? s q) (inside? n s lost) x.1 in
      let b = and_out (s q) (below q (λ p. not (s p))) a.0 in (
        s,
        (x.0, λ p. refl),
        (inside_test n s lost (product_below n others rows_below x.0)).1 a.1,
        (b.0, λ p l. not_out (s p) (below_out q _ b.1 p l)),
      )

  pub fixed_in_lem : (q : ℕ) → Fixed others lost q → fixed? n others lost q ≡ true
  unfolding fixed?
  fixed_in_lem q f =
      any_in others (λ s. lowest? s q && inside? n s lost) f.1.0
      (subst (λ (s : Qubits). (lowest? s q && inside? n s lost) ≡ true) (fun_ext f.1.1)
      (and_in (and_in f.3.0 (below_in q _ (λ p l. not_in (f.3.1 p l)))) (below_in n _ (λ p _. imp_in (f.0 p) (lost p) (f.2 p)))))
