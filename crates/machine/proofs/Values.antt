-- The value of a form at values of the guesses is linear, and how it changes when a guess is added or replaced. Assumes nothing.
use mathlib.Core.Path.{◌≡◌, refl, sym, ap, ap₂, ◌∙◌}
use mathlib.Core.Bool.{Bool, true, false, ◌&&◌}
use mathlib.Core.List.{[], ◌∷◌}
use Prim.Native.Nat.{ℕ, zero, suc, ◌≤◌, ◌<◌}
use native.Mathlib.Nat.{not-suc-le-zero, le_of_suc-le-suc}
use native.Mathlib.Omega.{arith}
use lib.Dec.{eqb, eqb-suc-suc, eqb-zero-suc, eqb-suc-zero}
use Rattle.binary.specs.Bits.{◌⊕◌}
use Rattle.binary.specs.Meaning.{Row, Check, odd}
use Rattle.binary.proofs.Bits.{⊕_false, xors, &&_⊕, &&_false}
use Rattle.machine.specs.Machine.{Form, Forms, without, replace, side}
use Rattle.machine.specs.Fillings.{dot, value}

----------------------------------------------------------------------
-- Sums of forms

dot_none : (m : ℕ) (g : Form) → dot m (λ i. false) g ≡ false
dot_none zero g = refl
dot_none (suc m) g = dot_none m (λ i. g (suc i))

dot_sum : (m : ℕ) (a b g : Form) → dot m (λ i. a i ⊕ b i) g ≡ dot m a g ⊕ dot m b g
dot_sum zero a b g = refl
dot_sum (suc m) a b g =
    rw (dot_sum m (λ i. a (suc i)) (λ i. b (suc i)) (λ i. g (suc i)), &&_⊕ (a 0) (b 0) (g 0)) (simp xors)

value_sum : (m : ℕ) (a b g : Form) → value m (λ i. a i ⊕ b i) g ≡ value m a g ⊕ value m b g
value_sum m a b g = rw (dot_sum m (λ i. a (suc i)) (λ i. b (suc i)) (λ i. g (suc i))) (simp xors)

value_none : (m : ℕ) (g : Form) → value m (λ i. false) g ≡ false
value_none m g = dot_none m (λ i. g (suc i))

value_times : (m : ℕ) (b : Bool) (a g : Form) → value m (λ i. b && a i) g ≡ (b && value m a g)
value_times m true a g = refl
value_times m false a g = value_none m g

-- A bit at 0 alone.
value_constant : (m : ℕ) (b : Bool) (g : Form) → value m (λ k. b && eqb k 0) g ≡ b
value_constant m true g = simp (eqb-suc-zero, dot_none m (λ i. g (suc i)))
value_constant m false g = value_none m g

value_odd : (m : ℕ) (form : ℕ → Form) (r : Row) (g : Form) → value m (λ k. odd (λ q. form q k) r) g ≡ odd (λ q. value m (form q) g) r
value_odd m form [] g = value_none m g
value_odd m form (q ∷ r) g = value_sum m (form q) (λ k. odd (λ p. form p k) r) g ∙ ap (value m (form q) g ⊕◌) (value_odd m form r g)

pub value_side : (fs : Forms) (c : Check) (g : Form)
    → value fs.live (side fs c) g ≡ c.lit ⊕ odd (λ q. value fs.live (fs.form q) g) c.row
value_side fs c g =
    value_sum fs.live (λ k. c.lit && eqb k 0) (λ k. odd (λ q. fs.form q k) c.row) g
    ∙ ap₂ ◌⊕◌ (value_constant fs.live c.lit g) (value_odd fs.live fs.form c.row g)

----------------------------------------------------------------------
-- A new guess

dot_top : (m : ℕ) (f g : Form) → f m ≡ false → dot (suc m) f g ≡ dot m f g
dot_top zero f g e = rw e
dot_top (suc m) f g e = ap ((f 0 && g 0) ⊕◌) (dot_top m (λ i. f (suc i)) (λ i. g (suc i)) e)

pub value_top : (m : ℕ) (f g : Form) → f (suc m) ≡ false → value (suc m) f g ≡ value m f g
value_top m f g e = ap (f 0 ⊕◌) (dot_top m (λ i. f (suc i)) (λ i. g (suc i)) e)

pub dot_same : (m : ℕ) (f g h : Form) → ((i : ℕ) → i < m → g i ≡ h i) → dot m f g ≡ dot m f h
dot_same zero f g h e = refl
dot_same (suc m) f g h e =
    ap₂ ◌⊕◌ (ap (f 0 &&◌) (e 0 (omega arith))) (dot_same m (λ i. f (suc i)) (λ i. g (suc i)) (λ i. h (suc i)) (λ i l. e (suc i) (omega arith)))

pub value_same : (m : ℕ) (f g h : Form) → ((i : ℕ) → i < m → g (suc i) ≡ h (suc i)) → value m f g ≡ value m f h
value_same m f g h e = ap (f 0 ⊕◌) (dot_same m (λ i. f (suc i)) (λ i. g (suc i)) (λ i. h (suc i)) e)

dot_unit : (m k : ℕ) (g : Form) → k < m → dot m (λ i. eqb i k) g ≡ g k
dot_unit zero k g l = absurd (not-suc-le-zero l)
dot_unit (suc m) zero g l = simp (eqb-suc-zero, dot_none m (λ i. g (suc i))) (⊕_false (g 0))
dot_unit (suc m) (suc k) g l = simp (eqb-zero-suc, eqb-suc-suc) (dot_unit m k (λ i. g (suc i)) (le_of_suc-le-suc l))

pub value_unit : (m k : ℕ) (g : Form) → k < m → value m (λ i. eqb i (suc k)) g ≡ g (suc k)
value_unit m k g l = simp (eqb-zero-suc, eqb-suc-suc) (dot_unit m k (λ i. g (suc i)) l)

----------------------------------------------------------------------
-- A guess replaced

dot_without : (k m : ℕ) (f g : Form) → k ≤ m → f k ≡ false → dot (suc m) f g ≡ dot m (without k f) (without k g)
dot_without zero m f g l e = rw e
dot_without (suc k) zero f g l e = absurd (not-suc-le-zero l)
dot_without (suc k) (suc m) f g l e =
    ap ((f 0 && g 0) ⊕◌) (dot_without k m (λ i. f (suc i)) (λ i. g (suc i)) (le_of_suc-le-suc l) e)

cleared : (a b : Bool) → b ≡ true → a ⊕ (a && b) ≡ false
cleared true b e = rw e
cleared false b e = refl

-- At values that make the side 0, the form with guess k replaced has the value that it had.
pub value_replace : (k m : ℕ) (s f g : Form) → k ≤ m → s (suc k) ≡ true → value (suc m) s g ≡ false
    → value m (replace (suc k) s f) (without (suc k) g) ≡ value (suc m) f g
value_replace k m s f g l e z =
    sym (ap ((f 0 ⊕ (f (suc k) && s 0)) ⊕◌)
    (dot_without k m (λ i. f (suc i) ⊕ (f (suc k) && s (suc i))) (λ i. g (suc i)) l (cleared (f (suc k)) (s (suc k)) e)))
    ∙ value_sum (suc m) f (λ i. f (suc k) && s i) g
    ∙ ap (value (suc m) f g ⊕◌) (value_times (suc m) (f (suc k)) s g ∙ ap (f (suc k) &&◌) z ∙ &&_false (f (suc k))) ∙ simp xors

-- Values of the guesses with one more at place k.
abbrev insert : ℕ → Bool → Form → Form
insert zero b g zero = b
insert zero b g (suc j) = g j
insert (suc k) b g zero = g zero
insert (suc k) b g (suc j) = insert k b (λ i. g (suc i)) j

without_insert : (k : ℕ) (b : Bool) (g : Form) (j : ℕ) → without k (insert k b g) j ≡ g j
without_insert zero b g j = refl
without_insert (suc k) b g zero = refl
without_insert (suc k) b g (suc j) = without_insert k b (λ i. g (suc i)) j

dot_insert : (k m : ℕ) (s g : Form) (b : Bool) → k < m → dot m s (insert k b g) ≡ dot m s (insert k false g) ⊕ (s k && b)
dot_insert k zero s g b l = absurd (not-suc-le-zero l)
dot_insert zero (suc m) s g b l = rw (&&_false (s 0)) (simp xors)
dot_insert (suc k) (suc m) s g b l =
    rw (dot_insert k m (λ i. s (suc i)) (λ i. g (suc i)) b (le_of_suc-le-suc l)) (simp xors)

-- To any values of the other guesses there is a value of guess k that makes the side 0.
pub value_solve : (k m : ℕ) (s g : Form) → k ≤ m → s (suc k) ≡ true
    → (h : Form) × ((j : ℕ) → without (suc k) h j ≡ g j) × (value (suc m) s h ≡ false)
value_solve k m s g l e =
    let b : Bool = value (suc m) s (insert (suc k) false g) in (
      insert (suc k) b g,
      without_insert (suc k) b g,
      ap (s 0 ⊕◌) (dot_insert k (suc m) (λ i. s (suc i)) (λ i. g (suc i)) b (omega arith)) ∙ rw e (simp xors),
    )

----------------------------------------------------------------------
-- No guess

dot_zero : (m : ℕ) (f g : Form) → ((i : ℕ) → i < m → f i ≡ false) → dot m f g ≡ false
dot_zero zero f g e = refl
dot_zero (suc m) f g e =
    rw (e 0 (omega arith)) (dot_zero m (λ i. f (suc i)) (λ i. g (suc i)) (λ i l. e (suc i) (omega arith)))

-- A form with no guess in it.
pub value_const : (m : ℕ) (f g : Form) → ((i : ℕ) → i < m → f (suc i) ≡ false) → value m f g ≡ f 0
value_const m f g e = ap (f 0 ⊕◌) (dot_zero m (λ i. f (suc i)) (λ i. g (suc i)) e) ∙ simp xors

-- No live guess.
pub value_closed : (m : ℕ) (f g h : Form) → m ≡ 0 → value m f g ≡ value m f h
value_closed m f g h e = rw e

-- All live guesses 0: bit 0 of the form.
pub value_off : (m : ℕ) (f : Form) → value m f (λ k. false) ≡ f 0
value_off m f = ap (f 0 ⊕◌) (dot_off m (λ i. f (suc i))) ∙ ⊕_false (f 0)
  where
    dot_off : (m : ℕ) (f : Form) → dot m f (λ k. false) ≡ false
    dot_off zero f = refl
    dot_off (suc m) f = ap₂ ◌⊕◌ (&&_false (f 0)) (dot_off m (λ i. f (suc i)))
