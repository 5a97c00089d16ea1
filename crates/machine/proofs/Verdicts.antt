-- What a stage in which no qubit is open says of the errors that fit, and what a failed one says. Assumes nothing.
use mathlib.Core.Path.{◌≡◌, refl, ap, fun_ext, subst}
use mathlib.Core.Bool.{true, false}
use mathlib.Core.List.{List, [], ◌∷◌, Memᴰ}
use Prim.Native.Nat.{ℕ, suc, ◌<◌}
use native.Mathlib.Omega.{arith}
use Rattle.binary.specs.Meaning.{Qubits, Row, Check, Below, Reads, Fits, IsProduct, Differ, fixed?}
use Rattle.binary.specs.Classes.{Commuting, Reduced}
use Rattle.binary.proofs.Bits.{xors, never}
use Rattle.binary.proofs.Rows.{all_out, all_in, empty_product, sum_product}
use Rattle.binary.proofs.Tests.{fixed_out, fixed_in_lem}
use Rattle.binary.proofs.Classes.{class_has, class_one, differ_reads}
use Rattle.machine.specs.Machine.{Form, State, on, failed, is_open, part, empty?}
use Rattle.machine.proofs.Values.{value_closed}
use Rattle.machine.proofs.Settling.{fill, Solution, solution_sub}
use Rattle.machine.proofs.Stages.{Good, Closed}

part_none : (o : Qubits) (r : Row) → ((q : ℕ) → o q ≡ false) → part o r ≡ []
part_none o [] h = refl
part_none o (q ∷ r) h = rw (h q) (part_none o r h)

module _ (n : ℕ) (checks : List Check) (others : List Row) (lost : Qubits)
    (rows_below : Below n others) (lost_below : (q : ℕ) → lost q ≡ true → q < n) (even : Commuting others checks) where
  -- A fitting error that is zero on the fixed qubits.
  abbrev Rep : Qubits → Type 0
  Rep = Solution lost (fixed? n others lost) (λ c. Memᴰ c checks)

  rep_fits : {x : Qubits} → Rep x → Fits lost checks x
  rep_fits {x} s = (s.inside, all_in (Reads x) checks s.reads)

  -- An error that fits has such a one in its class.
  rep_has : (e : Qubits) → Fits lost checks e → (x : Qubits) × Reduced others lost e x × Rep x
  rep_has e f =
      let z = class_has n others lost rows_below lost_below e f.0 in (
        z.0,
        z.1,
        record {
          inside = z.1.inside;
          zeros = λ q t. z.1.zeros q (fixed_out n others lost rows_below q t);
          reads = all_out (Reads z.0) checks ((differ_reads others e z.0 z.1.differ checks even).0 f.1);
        },
      )

  -- Such a one that differs from e by a product is e's.
  rep_reduced : (e x : Qubits) → Differ others e x → Rep x → Reduced others lost e x
  rep_reduced e x d s = record { inside = s.inside; differ = d; zeros = λ q f. s.zeros q (fixed_in_lem n others lost rows_below q f) }

  -- A failed half: no error fits.
  pub failed_fits : (st : State) → Good checks lost (fixed? n others lost) (failed st) → (e : Qubits) → Fits lost checks e → ⊥
  failed_fits st v e f = let z = rep_has e f in v z.0 z.2

  module _ (st : State) (v : Good checks lost (fixed? n others lost) (on st)) (shut : (q : ℕ) → is_open st.mark q ≡ false) where
    closed_all : (c : Check) → Memᴰ c checks → Closed checks (is_open st.mark) c
    closed_all c m = (m, ap empty? (part_none (is_open st.mark) c.row shut))

    -- Values of the guesses give fitting errors, and all of them that are zero on the fixed qubits.
    values_rep : (g : Form) → Rep (fill st.forms g)
    values_rep g = solution_sub closed_all (v.sound g)

    pub values_fit : (g : Form) → Fits lost checks (fill st.forms g)
    values_fit g = rep_fits (values_rep g)

    values_all : (x : Qubits) → Rep x → (g : Form) × ((q : ℕ) → x q ≡ fill st.forms g q)
    values_all x s = let z = v.whole x (solution_sub (λ c i. i.0) s) in (z.0, λ q. z.1 q (shut q))

    -- Every error that fits differs by a product from exactly one of these.
    pub classes_one : (e : Qubits) → Fits lost checks e
        → (g : Form) × Differ others e (fill st.forms g)
        × ((g' : Form) → Differ others e (fill st.forms g') → (q : ℕ) → fill st.forms g' q ≡ fill st.forms g q)
    classes_one e f =
        let z = rep_has e f in
        let y = values_all z.0 z.2 in
        let d : Differ others e (fill st.forms y.0) = subst (Differ others e) (fun_ext y.1) z.1.differ in (
          y.0,
          d,
          λ g' i. class_one (rep_reduced e (fill st.forms g') i (values_rep g')) (rep_reduced e (fill st.forms y.0) d (values_rep y.0)),
        )

    -- No live guess: all errors that fit differ by products.
    pub certain_right : st.forms.live ≡ 0 → (x y : Qubits) → Fits lost checks x → Fits lost checks y → Differ others x y
    certain_right l x y f g =
        let a = classes_one x f in
        let b = classes_one y g in
        let same : fill st.forms b.0 ≡ fill st.forms a.0 = fun_ext (λ q. value_closed st.forms.live (st.forms.form q) b.0 a.0 l) in
        let c : Differ others y (fill st.forms a.0) = subst (Differ others y) same b.1 in
        subst (IsProduct others) (fun_ext (λ q. simp xors)) (sum_product others a.1 c)

    -- A live guess: two errors that fit differ by no product.
    pub unsure_right : (m : ℕ) → st.forms.live ≡ suc m
        → ((x y : Qubits) → Fits lost checks x → Fits lost checks y → Differ others x y) → ⊥
    unsure_right m l all =
        let e : Qubits = fill st.forms (λ k. true) in
        let s = values_rep (λ k. true) in
        let s₀ = values_rep (λ k. false) in
        let self : Differ others e e = subst (IsProduct others) (fun_ext (λ q. simp xors)) (empty_product others) in
        never refl
        (v.once (λ k. true) (λ k. false)
        (class_one (rep_reduced e e self s) (rep_reduced e (fill st.forms (λ k. false)) (all e (fill st.forms (λ k. false)) (rep_fits s) (rep_fits s₀)) s₀))
        0 (omega arith))
