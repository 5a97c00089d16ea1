-- What holds before and after a turn: as the live guesses take all values, the settled qubits take exactly the solutions of the rows taken
-- up, each once. Settling a qubit, by a dangling row or as a guess, keeps it so. Assumes nothing.
use mathlib.Core.Path.{◌≡◌, refl, sym, ap, ◌∙◌, fun_ext, subst}
use mathlib.Core.Bool.{Bool, true, false, cond}
use mathlib.Core.Logic.{◌⊎◌, inl, inr, ⊎_elim}
use mathlib.Core.List.{List, [], ◌∷◌}
use Prim.Native.Nat.{ℕ, zero, suc, ◌<◌}
use native.Mathlib.Nat.{not-suc-le-zero, le_of_suc-le-suc, eq-or-lt_of_le}
use native.Mathlib.Omega.{arith}
use lib.Dec.{eqb, eqb-suc-zero}
use Rattle.binary.specs.Bits.{◌⊕◌}
use Rattle.binary.specs.Meaning.{Qubits, Row, Check, odd, sum, Inside, Reads}
use Rattle.binary.proofs.Bits.{⊕_false, ⊕_self, ⊕_eq, ⊕_move, xors, &&_false, bit, never, eqb_eq, eq_eqb, eqb_differ}
use Rattle.binary.proofs.Rows.{odd_sum, odd_none}
use Rattle.machine.specs.Machine.{Form, Forms, put, part, keep_if, side}
use Rattle.machine.specs.Fillings.{filling}
use Rattle.machine.proofs.Values.{value_side, value_top, value_same, value_unit}

abbrev pub Agree : Qubits → Qubits → Qubits → Type 0
Agree o x y = (q : ℕ) → o q ≡ false → x q ≡ y q

-- What lies off the open set decides the row's parity.
abbrev pub Decided : Qubits → Check → Type 0
Decided o c = (x y : Qubits) → Agree o x y → odd x c.row ≡ odd y c.row

abbrev pub fill : Forms → Form → Qubits
fill fs g = filling fs.live fs.form g

-- A set of lost qubits, the fixed ones not among them, on which the rows of R read right.
pub record Solution (lost fixed : Qubits) (R : Check → Type 0) (x : Qubits) : Type 0 where
  pub inside : Inside x lost
  pub zeros : (q : ℕ) → fixed q ≡ true → x q ≡ false
  pub reads : (c : Check) → R c → Reads x c

-- R: the rows taken up; o: the open qubits.
pub record Invariant (lost fixed o : Qubits) (R : Check → Type 0) (fs : Forms) : Type 0 where
  pub open_lost : (q : ℕ) → o q ≡ true → lost q ≡ true
  pub fixed_shut : (q : ℕ) → fixed q ≡ true → o q ≡ false
  pub top : (q k : ℕ) → fs.live < k → fs.form q k ≡ false
  pub blank : (q : ℕ) → o q ≡ true → (g : Form) → fill fs g q ≡ false
  pub decided : (c : Check) → R c → Decided o c
  pub sound : (g : Form) → Solution lost fixed R (fill fs g)
  pub whole : (x : Qubits) → Solution lost fixed R x → (g : Form) × Agree o x (fill fs g)
  pub once : (g h : Form) → ((q : ℕ) → fill fs g q ≡ fill fs h q) → (k : ℕ) → k < fs.live → g (suc k) ≡ h (suc k)

----------------------------------------------------------------------
-- Parities and open qubits

pub odd_open : (o z : Qubits) (r : Row) → ((q : ℕ) → o q ≡ false → z q ≡ false) → odd z r ≡ odd z (part o r)
odd_open o z [] h = refl
odd_open o z (q ∷ r) h = go (o q) refl (odd_open o z r h)
  where
    go : (b : Bool) → o q ≡ b → odd z r ≡ odd z (part o r) → z q ⊕ odd z r ≡ odd z (keep_if b q (part o r))
    go true e i = ap (z q ⊕◌) i
    go false e i = rw (h q e) i

-- Two sets that agree off the open qubits differ in parity by the row's open qubits alone.
row_differs : (o x y : Qubits) (r : Row) → Agree o x y → odd x r ⊕ odd y r ≡ odd (sum x y) (part o r)
row_differs o x y r a = sym (odd_sum x y r) ∙ odd_open o (sum x y) r (λ q e. rw (a q e) (⊕_self (y q)))

pub closed_decided : (o : Qubits) (c : Check) → part o c.row ≡ [] → Decided o c
closed_decided o c e x y a = ⊕_eq (odd x c.row) (odd y c.row) (row_differs o x y c.row a ∙ ap (odd (sum x y)) e)

pub part_open : (o : Qubits) (r : Row) (p : ℕ) (l : List ℕ) → part o r ≡ p ∷ l → o p ≡ true
part_open o [] p l e = cc
part_open o (q ∷ r) p l e = bit (o q) (λ t. hit t (rw t at e)) (λ t. part_open o r p l (rw t at e))
  where
    hit : o q ≡ true → q ∷ part o r ≡ p ∷ l → o p ≡ true
    hit t e' = let s : q ≡ p = cc in rw (← s) t

----------------------------------------------------------------------
-- Solutions

-- What agrees with a solution off the open qubits, and lies in the lost set on them, is one.
solution_agree : {lost fixed o : Qubits} {R : Check → Type 0} {fs : Forms} (v : Invariant lost fixed o R fs) {x y : Qubits}
    → Agree o x y → Solution lost fixed R y → Solution lost fixed R x
solution_agree {o = o} v {x = x} {y = y} a s =
    record {
      inside = λ q t. bit (o q) (v.open_lost q) (λ e. s.inside q (rw (a q e) at t));
      zeros = λ q t. a q (v.fixed_shut q t) ∙ s.zeros q t;
      reads = λ c r. v.decided c r x y a ∙ s.reads c r;
    }

-- The rows of R, and c.
abbrev pub Plus : (Check → Type 0) → Check → Check → Type 0
Plus R c d = R d ⊎ (d ≡ c)

pub solution_sub : {lost fixed : Qubits} {R R' : Check → Type 0} {x : Qubits} → ((c : Check) → R c → R' c) → Solution lost fixed R' x
    → Solution lost fixed R x
solution_sub i s = record { inside = s.inside; zeros = s.zeros; reads = λ c r. s.reads c (i c r) }

pub solution_less : {lost fixed : Qubits} {R : Check → Type 0} {c : Check} {x : Qubits} → Solution lost fixed (Plus R c) x → Solution lost fixed R x
solution_less s = solution_sub (λ d r. inl r) s

pub solution_more : {lost fixed : Qubits} {R : Check → Type 0} {c : Check} {x : Qubits} → Solution lost fixed R x → Reads x c
    → Solution lost fixed (Plus R c) x
solution_more {x = x} s t =
    record {
      inside = s.inside;
      zeros = s.zeros;
      reads = λ d r. ⊎_elim (λ i. s.reads d i) (λ e. subst (Reads x) (sym e) t) r;
    }

----------------------------------------------------------------------
-- The open set with p settled

apart : (o : Qubits) (p q : ℕ) → o p ≡ true → o q ≡ false → eqb p q ≡ false
apart o p q t f = eqb_differ p q (λ e. never t (ap o e ∙ f))

pub shut_less : (o : Qubits) (p q : ℕ) → o q ≡ false → put p false o q ≡ false
shut_less o p q e = bit (eqb p q) (λ t. rw t) (λ t. rw t e)

shut_more : (o : Qubits) (p q : ℕ) → put p false o q ≡ true → (o q ≡ true) × (eqb p q ≡ false)
shut_more o p q t = bit (eqb p q) (λ e. never (subst (λ (b : Bool). cond b false (o q) ≡ true) e t) refl)
    (λ e. (subst (λ (b : Bool). cond b false (o q) ≡ true) e t, e))

shut_case {ℓ} : {C : Type ℓ} (o : Qubits) (p q : ℕ) → put p false o q ≡ false → (p ≡ q → C) → (eqb p q ≡ false → o q ≡ false → C) → C
shut_case o p q t f h = bit (eqb p q) (λ e. f (eqb_eq p q e)) (λ e. h e (subst (λ (b : Bool). cond b false (o q) ≡ false) e t))

shut_agree : (o : Qubits) (p : ℕ) {x y : Qubits} → Agree (put p false o) x y → Agree o x y
shut_agree o p a q e = a q (shut_less o p q e)

shut_at : (o : Qubits) (p : ℕ) {x y : Qubits} → Agree (put p false o) x y → x p ≡ y p
shut_at o p a = a p (rw (eq_eqb p))

----------------------------------------------------------------------
-- One qubit settled

-- What both kinds of turn share: p is settled, and the other qubits keep their values.
module _ {lost fixed o : Qubits} {R : Check → Type 0} {fs : Forms} (v : Invariant lost fixed o R fs) (p : ℕ) (is_open_lem : o p ≡ true) (fs' : Forms)
    (same : (g : Form) (q : ℕ) → eqb p q ≡ false → fill fs' g q ≡ fill fs g q) where
  off : (g : Form) → Agree o (fill fs' g) (fill fs g)
  off g q e = same g q (apart o p q is_open_lem e)

  still_once : (g h : Form) → ((q : ℕ) → fill fs' g q ≡ fill fs' h q) → (k : ℕ) → k < fs.live → g (suc k) ≡ h (suc k)
  still_once g h e =
      v.once g h λ q. bit (o q) (λ t. v.blank q t g ∙ sym (v.blank q t h)) (λ t. sym (off g q t) ∙ e q ∙ off h q t)

  -- For rows R' taken up that have at least R.
  settled : (R' : Check → Type 0)
      → ((q k : ℕ) → fs'.live < k → fs'.form q k ≡ false)
      → ((c : Check) → R' c → Decided (put p false o) c)
      → ((g : Form) → Solution lost fixed R (fill fs' g) → Solution lost fixed R' (fill fs' g))
      → ((x : Qubits) → Solution lost fixed R' x
      → (g : Form) × Agree o x (fill fs g) × ((q : ℕ) → eqb p q ≡ false → fill fs' g q ≡ fill fs g q) × (x p ≡ fill fs' g p))
      → ((g h : Form) → ((q : ℕ) → fill fs' g q ≡ fill fs' h q) → (k : ℕ) → k < fs'.live → g (suc k) ≡ h (suc k))
      → Invariant lost fixed (put p false o) R' fs'
  settled R' t d s w u =
      record {
        open_lost = λ q e. v.open_lost q (shut_more o p q e).0;
        fixed_shut = λ q e. shut_less o p q (v.fixed_shut q e);
        top = t;
        blank = λ q e g. same g q (shut_more o p q e).1 ∙ v.blank q (shut_more o p q e).0 g;
        decided = d;
        sound = λ g. s g (solution_agree v (off g) (v.sound g));
        whole = λ x y. let z = w x y in
            (z.0, λ q e. shut_case o p q e (λ i. subst (λ (j : ℕ). x j ≡ fill fs' z.0 j) i z.3) (λ i j. z.1 q j ∙ sym (z.2 q i)));
        once = u;
      }

pub side_top : (fs : Forms) (c : Check) (k : ℕ) → ((q : ℕ) → fs.form q k ≡ false) → 0 < k → side fs c k ≡ false
side_top fs c zero h l = absurd (not-suc-le-zero l)
side_top fs c (suc k) h l = simp (eqb-suc-zero, &&_false) (ap (λ (f : Qubits). odd f c.row) (fun_ext h) ∙ odd_none c.row)

-- Peeling: the open qubit p of row c gets the side of c.
module _ {lost fixed o : Qubits} {R : Check → Type 0} {fs : Forms} (v : Invariant lost fixed o R fs) (p : ℕ) (c : Check)
    (one : part o c.row ≡ p ∷ []) where
  dangle : (x y : Qubits) → Agree o x y → odd x c.row ≡ (x p ⊕ y p) ⊕ odd y c.row
  dangle x y a =
      ⊕_move (odd x c.row) (odd y c.row) (x p ⊕ y p) (row_differs o x y c.row a ∙ ap (odd (sum x y)) one ∙ ⊕_false (x p ⊕ y p))

  pub peel_keeps : Invariant lost fixed (put p false o) (Plus R c) (record { form = put p (side fs c) fs.form; live = fs.live })
  peel_keeps = settled v p is_open_lem fs' same (Plus R c) tops decides
      (λ g s. solution_more s (dangle (fill fs' g) (fill fs g) (off v p is_open_lem fs' same g)
      ∙ rw (v.blank p is_open_lem g, at_p g) (simp xors)))
      (λ x s. let z = v.whole x (solution_less s) in (
        z.0,
        z.1,
        same z.0,
        sym (at_p z.0 ∙ ap (◌⊕ odd (fill fs z.0) c.row) (sym (s.reads c (inr refl)) ∙ dangle x (fill fs z.0) z.1)
            ∙ rw (v.blank p is_open_lem z.0) (simp xors)),
      ))
      (still_once v p is_open_lem fs' same)
    where
      is_open_lem : o p ≡ true
      is_open_lem = part_open o c.row p [] one

      fs' : Forms
      fs' = record { form = put p (side fs c) fs.form; live = fs.live }

      same : (g : Form) (q : ℕ) → eqb p q ≡ false → fill fs' g q ≡ fill fs g q
      same g q e = rw e

      at_p : (g : Form) → fill fs' g p ≡ c.lit ⊕ odd (fill fs g) c.row
      at_p g = rw (eq_eqb p) (value_side fs c g)

      tops : (q k : ℕ) → fs'.live < k → fs'.form q k ≡ false
      tops q k l = bit (eqb p q) (λ e. rw e (side_top fs c k (λ j. v.top j k l) (omega arith))) (λ e. rw e (v.top q k l))

      decides : (d : Check) → Plus R c d → Decided (put p false o) d
      decides d r x y a = ⊎_elim (λ i. v.decided d i x y (shut_agree o p a))
          (λ i. rw i (dangle x y (shut_agree o p a) ∙ rw (shut_at o p a) (simp xors))) r

-- Guessing: the open qubit p becomes a new live guess.
module _ {lost fixed o : Qubits} {R : Check → Type 0} {fs : Forms} (v : Invariant lost fixed o R fs) (p : ℕ) (is_open_lem : o p ≡ true) where
  pub guess_keeps : Invariant lost fixed (put p false o) R
      (record { form = put p (λ k. eqb k (suc fs.live)) fs.form; live = suc fs.live })
  guess_keeps = settled v p is_open_lem fs' same R tops (λ c r x y a. v.decided c r x y (shut_agree o p a)) (λ g s. s)
      (λ x s. let z = v.whole x s in let g : Form = put (suc fs.live) (x p) z.0 in (
        g,
        λ q e. z.1 q e ∙ value_same fs.live (fs.form q) z.0 g (λ i l. sym (older z.0 (x p) i l)),
        same g,
        sym (at_p g ∙ rw (eq_eqb (suc fs.live))),
      ))
      (λ g h e k l. ⊎_elim (λ (i : k ≡ fs.live). subst (λ (j : ℕ). g (suc j) ≡ h (suc j)) (sym i) (sym (at_p g) ∙ e p ∙ at_p h))
      (λ (i : k < fs.live). still_once v p is_open_lem fs' same g h e k i) (eq-or-lt_of_le (le_of_suc-le-suc l)))
    where
      fs' : Forms
      fs' = record { form = put p (λ k. eqb k (suc fs.live)) fs.form; live = suc fs.live }

      same : (g : Form) (q : ℕ) → eqb p q ≡ false → fill fs' g q ≡ fill fs g q
      same g q e = rw e (value_top fs.live (fs.form q) g (v.top q (suc fs.live) (omega arith)))

      at_p : (g : Form) → fill fs' g p ≡ g (suc fs.live)
      at_p g = rw (eq_eqb p) (value_unit (suc fs.live) fs.live g (omega arith))

      tops : (q k : ℕ) → fs'.live < k → fs'.form q k ≡ false
      tops q k l = bit (eqb p q) (λ e. rw e (eqb_differ k (suc fs.live) (λ i. absurd (omega arith)))) (λ e. rw e (v.top q k (omega arith)))

      older : (g : Form) (b : Bool) (i : ℕ) → i < fs.live → put (suc fs.live) b g (suc i) ≡ g (suc i)
      older g b i l = rw (eqb_differ (suc fs.live) (suc i) (λ e. absurd (omega arith)))
