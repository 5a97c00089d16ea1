-- Classes: with commuting rows, every error on the lost set differs by a product of other-kind rows in the lost set from exactly one that
-- is zero on the fixed qubits, and both fit or neither. Assumes nothing.
use mathlib.Core.Path.{◌≡◌, refl, sym, ap, ap₂, ◌∙◌, fun_ext, subst}
use mathlib.Core.Bool.{true, false}
use mathlib.Core.Logic.{⊎_elim, ◌↔◌}
use mathlib.Core.List.{List, [], ◌∷◌}
use Prim.Native.Nat.{ℕ, zero, suc, ◌<◌}
use native.Mathlib.Nat.{not-suc-le-zero, le_of_suc-le-suc, eq-or-lt_of_le}
use Rattle.binary.specs.Bits.{◌⊕◌}
use Rattle.binary.specs.Meaning.{Qubits, Row, Check, Below, All, odd, sum, Inside, Reads, IsProduct, Differ, Even, Fixed, fixed?}
use Rattle.binary.specs.Classes.{Commuting, Reduced, ClassLaw}
use Rattle.binary.proofs.Bits.{⊕_eq, xors, bit, never, strong}
use Rattle.binary.proofs.Rows.{empty_product, sum_product, odd_sum, odd_product, inside_sum}
use Rattle.binary.proofs.Tests.{fixed_out, fixed_in_lem}

module _ (n : ℕ) (others : List Row) (lost : Qubits) (rows_below : Below n others) (lost_below : (q : ℕ) → lost q ≡ true → q < n) where
  -- A product that clears qubit q of e if q is fixed, and touches none below q.
  abbrev Clearing : Qubits → ℕ → Type 0
  Clearing e q =
      (s : Qubits) × IsProduct others s × Inside s lost × ((p : ℕ) → p < q → s p ≡ false) × (Fixed others lost q → e q ⊕ s q ≡ false)

  clear : (e : Qubits) (q : ℕ) → Clearing e q
  clear e q = bit (fixed? n others lost q) (λ t. go (fixed_out n others lost rows_below q t))
      (λ t. keep (λ f. never (fixed_in_lem n others lost rows_below q f) t))
    where
      keep : (Fixed others lost q → e q ≡ false) → Clearing e q
      keep h = (λ p. false, empty_product others, λ p l. never l refl, λ p l. refl, λ f. simp xors (h f))

      go : Fixed others lost q → Clearing e q
      go f = bit (e q) (λ t. (f.0, f.1, f.2, f.3.1, λ g. rw (t, f.3.0))) (λ t. keep (λ g. t))

  -- Fixed qubits are cleared one by one, ascending.
  reduce : (e : Qubits) → Inside e lost → (m : ℕ)
      → (e' : Qubits) × Inside e' lost × Differ others e e' × ((q : ℕ) → q < m → Fixed others lost q → e' q ≡ false)
  reduce e h zero = (e, h, subst (IsProduct others) (fun_ext (λ q. simp xors)) (empty_product others), λ q l. absurd (not-suc-le-zero l))
  reduce e h (suc m) =
      let x = reduce e h m in
      let c = clear x.0 m in (
        sum x.0 c.0,
        inside_sum x.1 c.2,
        subst (IsProduct others) (fun_ext (λ q. simp xors)) (sum_product others x.2 c.1),
        λ q l f. ⊎_elim (λ (u : q ≡ m). rw u (c.4 (rw u at f)))
            (λ (u : q < m). ap₂ ◌⊕◌ (x.3 q u f) (c.3 q u)) (eq-or-lt_of_le (le_of_suc-le-suc l)),
      )

  pub class_has : (e : Qubits) → Inside e lost → (e' : Qubits) × Reduced others lost e e'
  class_has e h =
      let x = reduce e h n in
      (x.0, record { inside = x.1; differ = x.2; zeros = λ q f. x.3 q (lost_below q (f.2 q f.3.0)) f })

-- Where two members first differ, their sum has its lowest qubit: a fixed one, where both are zero.
pub class_one : {others : List Row} {lost e a b : Qubits} → Reduced others lost e a → Reduced others lost e b → (q : ℕ) → a q ≡ b q
class_one {others} {lost} {e} {a} {b} x y =
    strong (λ q. a q ≡ b q) λ q below-q. bit (a q ⊕ b q) (λ t. same q (is_fixed_lem q t below-q)) (⊕_eq (a q) (b q))
  where
    both : Differ others a b
    both = subst (IsProduct others) (fun_ext (λ q. simp xors)) (sum_product others x.differ y.differ)

    is_fixed_lem : (q : ℕ) → a q ⊕ b q ≡ true → ((p : ℕ) → p < q → a p ≡ b p) → Fixed others lost q
    is_fixed_lem q t below-q = (sum a b, both, inside_sum x.inside y.inside, (t, λ p l. rw (below-q p l) (simp xors)))

    same : (q : ℕ) → Fixed others lost q → a q ≡ b q
    same q f = x.zeros q f ∙ sym (y.zeros q f)

-- A row that is even with the other kind fires on both of two errors that differ by a product, or on neither.
pub differ_fires : (others : List Row) (e e' : Qubits) → Differ others e e' → (r : Row) → All (Even r) others → odd e r ≡ odd e' r
differ_fires others e e' d r v =
    ⊕_eq (odd e r) (odd e' r) (sym (odd_sum e e' r) ∙ ap (λ (f : Qubits). odd f r) (fun_ext d.1) ∙ odd_product others r v d.0)

pub differ_reads : (others : List Row) (e e' : Qubits) → Differ others e e' → (checks : List Check) → Commuting others checks
    → All (Reads e) checks ↔ All (Reads e') checks
differ_reads others e e' d [] v = (λ s. tt, λ s. tt)
differ_reads others e e' d (c ∷ cs) v =
    let same = differ_fires others e e' d c.row v.0 in
    let rest = differ_reads others e e' d cs v.1 in
    (λ s. (sym same ∙ s.0, rest.0 s.1), λ s. (same ∙ s.0, rest.1 s.1))

pub classes : ClassLaw
unfolding ClassLaw
classes n others lost checks rows_below lost_below even e h =
    let z = class_has n others lost rows_below lost_below e h in
    let r = z.1 in
    let f = differ_reads others e z.0 r.differ checks even in (
      z.0,
      r,
      inside_sum h r.inside,
      λ x m. class_one m r,
      (λ s. (r.inside, f.0 s.1), λ s. (h, f.1 s.1)),
    )
