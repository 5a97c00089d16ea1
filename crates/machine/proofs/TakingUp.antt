-- Taking up closed rows keeps the invariant, or shows that nothing satisfies them. Assumes nothing.
use mathlib.Core.Path.{◌≡◌, refl, sym, ap, ◌∙◌, fun_ext, subst}
use mathlib.Core.Bool.{Bool, true, false, ◌&&◌, cond}
use mathlib.Core.Logic.{◌⊎◌, inl, inr, ⊎_elim}
use mathlib.Core.Option.{Option, none, some}
use mathlib.Core.List.Memᴰ
use mathlib.Core.List.{List, [], ◌∷◌, Memᴰ}
use Prim.Native.Nat.{ℕ, zero, suc, ◌≤◌, ◌<◌}
use native.Mathlib.Nat.{not-suc-le-zero, le_of_suc-le-suc, eq-or-lt_of_le}
use native.Mathlib.Omega.{arith}
use Rattle.binary.specs.Bits.{◌⊕◌}
use Rattle.binary.specs.Meaning.{Qubits, Check, odd, Reads}
use Rattle.binary.proofs.Bits.{⊕_self, ⊕_eq, &&_false, bit, never}
use Rattle.machine.specs.Machine.{Form, Forms, side, newest, without, replace, take_at, take_if, take_up_all, bind}
use Rattle.machine.specs.Fillings.{value}
use Rattle.machine.proofs.Values.{value_side, value_replace, value_solve, value_const}
use Rattle.machine.proofs.Settling.{Agree, Decided, fill, Solution, Invariant, Plus, solution_sub, solution_less, solution_more, side_top}

----------------------------------------------------------------------
-- The newest guess in a side, and a bit taken out

newest_none : (m : ℕ) (s : Form) → newest m s ≡ 0 → (i : ℕ) → i < m → s (suc i) ≡ false
newest_none zero s e i l = absurd (not-suc-le-zero l)
newest_none (suc m) s e i l =
    bit (s (suc m)) (λ t. let z : suc m ≡ 0 = subst (λ (b : Bool). cond b (suc m) (newest m s) ≡ 0) t e in absurd (omega arith))
    (λ t. ⊎_elim (λ (j : i ≡ m). rw j t)
    (λ (j : i < m). newest_none m s (subst (λ (b : Bool). cond b (suc m) (newest m s) ≡ 0) t e) i j) (eq-or-lt_of_le (le_of_suc-le-suc l)))

newest_some : (m k : ℕ) (s : Form) → newest m s ≡ suc k → (k < m) × (s (suc k) ≡ true)
newest_some zero k s e = absurd (omega arith)
newest_some (suc m) k s e =
    bit (s (suc m))
    (λ t. let z : suc m ≡ suc k = subst (λ (b : Bool). cond b (suc m) (newest m s) ≡ suc k) t e in (omega arith, subst (λ (j : ℕ). s j ≡ true) z t))
    (λ t. let z = newest_some m k s (subst (λ (b : Bool). cond b (suc m) (newest m s) ≡ suc k) t e) in (omega arith, z.1))

-- What a side's highest bit has to show to be its newest guess.
pub newest_is : (m k : ℕ) (s : Form) → k < m → s (suc k) ≡ true → ((i : ℕ) → k < i → i < m → s (suc i) ≡ false) → newest m s ≡ suc k
newest_is zero k s l t h = absurd (not-suc-le-zero l)
newest_is (suc m) k s l t h =
    ⊎_elim (λ (e : k ≡ m). let u : s (suc m) ≡ true = subst (λ (j : ℕ). s (suc j) ≡ true) e t in rw u (ap suc (sym e)))
    (λ (e : k < m). let u : s (suc m) ≡ false = h m e (omega arith) in rw u (newest_is m k s e t (λ i a b. h i a (omega arith))))
    (eq-or-lt_of_le (le_of_suc-le-suc l))

pub without_below : (k j : ℕ) (f : Form) → j < k → without k f j ≡ f j
without_below zero j f l = absurd (not-suc-le-zero l)
without_below (suc k) zero f l = refl
without_below (suc k) (suc j) f l = without_below k j (λ i. f (suc i)) (le_of_suc-le-suc l)

pub without_above : (k j : ℕ) (f : Form) → k ≤ j → without k f j ≡ f (suc j)
without_above zero j f l = refl
without_above (suc k) zero f l = absurd (not-suc-le-zero l)
without_above (suc k) (suc j) f l = without_above k j (λ i. f (suc i)) (le_of_suc-le-suc l)

without_same : (k m : ℕ) (a b : Form) → ((j : ℕ) → j < suc m → a j ≡ b j) → (j : ℕ) → j < m → without k a j ≡ without k b j
without_same zero m a b h j l = h (suc j) (omega arith)
without_same (suc k) m a b h zero l = h 0 (omega arith)
without_same (suc k) zero a b h (suc j) l = absurd (not-suc-le-zero l)
without_same (suc k) (suc m) a b h (suc j) l =
    without_same k m (λ i. a (suc i)) (λ i. b (suc i)) (λ i n. h (suc i) (omega arith)) j (le_of_suc-le-suc l)

----------------------------------------------------------------------
-- One closed row

-- The invariant with the row taken up, or nothing that satisfies it.
abbrev pub Result : Qubits → Qubits → Qubits → (Check → Type 0) → Option Forms → Type 0
Result lost fixed o R none = (x : Qubits) → Solution lost fixed R x → ⊥
Result lost fixed o R (some fs) = Invariant lost fixed o R fs

module _ (lost fixed o : Qubits) (R : Check → Type 0) (c : Check) (d : Decided o c) where
  -- The side is 0 at values of the guesses just where the row is satisfied.
  side_reads : (fs : Forms) (g : Form) → value fs.live (side fs c) g ≡ false → Reads (fill fs g) c
  side_reads fs g e = sym (⊕_eq c.lit (odd (fill fs g) c.row) (sym (value_side fs c g) ∙ e))

  reads_side : (fs : Forms) (x : Qubits) (g : Form) → Agree o x (fill fs g) → Reads x c → value fs.live (side fs c) g ≡ false
  reads_side fs x g a e = value_side fs c g ∙ rw (sym (d x (fill fs g) a) ∙ e) (⊕_self c.lit)

  decides : ((b : Check) → R b → Decided o b) → (b : Check) → Plus R c b → Decided o b
  decides h b r = ⊎_elim (h b) (λ i. subst (Decided o) (sym i) d) r

  take_none : {fs : Forms} → Invariant lost fixed o R fs → ((g : Form) → value fs.live (side fs c) g ≡ true)
      → (x : Qubits) → Solution lost fixed (Plus R c) x → ⊥
  take_none {fs} v t x s =
      let z = v.whole x (solution_less s) in never (t z.0) (reads_side fs x z.0 z.1 (s.reads c (inr refl)))

  take_zero : {fs : Forms} → Invariant lost fixed o R fs → ((g : Form) → value fs.live (side fs c) g ≡ false) → Invariant lost fixed o (Plus R c) fs
  take_zero {fs} v t =
      record {
        open_lost = v.open_lost;
        fixed_shut = v.fixed_shut;
        top = v.top;
        blank = v.blank;
        decided = decides v.decided;
        sound = λ g. solution_more (v.sound g) (side_reads fs g (t g));
        whole = λ x s. v.whole x (solution_less s);
        once = v.once;
      }

  take_replace : (form : ℕ → Form) (m k : ℕ) → let fs : Forms = record { form = form; live = suc m } in
      Invariant lost fixed o R fs → k ≤ m → side fs c (suc k) ≡ true
      → Invariant lost fixed o (Plus R c) (record { form = λ q. replace (suc k) (side fs c) (form q); live = m })
  take_replace form m k v l e =
      record {
        open_lost = v.open_lost;
        fixed_shut = v.fixed_shut;
        top = λ q j i. without_above (suc k) j (λ n. form q n ⊕ (form q (suc k) && s n)) (omega arith)
            ∙ rw (v.top q (suc j) (omega arith), side_top fs c (suc j) (λ p. v.top p (suc j) (omega arith)) (omega arith)) (&&_false (form q (suc k)));
        blank = λ q t g. let z = back g in z.1 q ∙ v.blank q t z.0;
        decided = decides v.decided;
        sound = λ g. let z = back g in
            subst (Solution lost fixed (Plus R c)) (sym (fun_ext z.1)) (solution_more (v.sound z.0) (side_reads fs z.0 z.3));
        whole = λ x t. let z = v.whole x (solution_less t) in (
          without (suc k) z.0,
          λ q i. z.1 q i ∙ sym (value_replace k m s (form q) z.0 l e (reads_side fs x z.0 z.1 (t.reads c (inr refl)))),
        );
        once = λ g h i j n. let y = back g in let z = back h in
            sym (y.2 (suc j)) ∙ left_same y.0 z.0 (v.once y.0 z.0 (λ q. sym (y.1 q) ∙ i q ∙ z.1 q)) j n ∙ z.2 (suc j);
      }
    where
      fs : Forms
      fs = record { form = form; live = suc m }

      s : Form
      s = side fs c

      -- Values of the guesses that are left come from values of all the guesses.
      back : (g : Form) → (h : Form) × ((q : ℕ) → value m (replace (suc k) s (form q)) g ≡ fill fs h q)
          × ((j : ℕ) → without (suc k) h j ≡ g j) × (value (suc m) s h ≡ false)
      back g = let z = value_solve k m s g l e in (
        z.0,
        λ q. sym (ap (λ (f : Form). value m (replace (suc k) s (form q)) f) (fun_ext z.1)) ∙ value_replace k m s (form q) z.0 l e z.2,
        z.1,
        z.2,
      )

      left_same : (a b : Form) → ((j : ℕ) → j < suc m → a (suc j) ≡ b (suc j)) → (j : ℕ) → j < m
          → without (suc k) a (suc j) ≡ without (suc k) b (suc j)
      left_same a b h j n = without_same k m (λ i. a (suc i)) (λ i. b (suc i)) h j n

  take_keeps : (form : ℕ → Form) (live n : ℕ) → let fs : Forms = record { form = form; live = live } in
      newest live (side fs c) ≡ n → Invariant lost fixed o R fs → Result lost fixed o (Plus R c) (take_at n (side fs c) fs)
  take_keeps form live zero e v =
      bit (side fs c 0)
      (λ t. subst (λ (b : Bool). Result lost fixed o (Plus R c) (cond b none (some fs))) (sym t)
      (take_none v (λ g. value_const live (side fs c) g (newest_none live (side fs c) e) ∙ t)))
      (λ t. subst (λ (b : Bool). Result lost fixed o (Plus R c) (cond b none (some fs))) (sym t)
      (take_zero v (λ g. value_const live (side fs c) g (newest_none live (side fs c) e) ∙ t)))
    where
      fs : Forms
      fs = record { form = form; live = live }
  take_keeps form zero (suc k) e v = absurd (omega arith)
  take_keeps form (suc m) (suc k) e v =
      let z = newest_some (suc m) k (side (record { form = form; live = suc m }) c) e in take_replace form m k v (le_of_suc-le-suc z.0) z.1

----------------------------------------------------------------------
-- The rows that pass a test

invariant_iff : {lost fixed o : Qubits} {R R' : Check → Type 0} {fs : Forms} → ((c : Check) → R c → R' c) → ((c : Check) → R' c → R c)
    → Invariant lost fixed o R fs → Invariant lost fixed o R' fs
invariant_iff i j v =
    record {
      open_lost = v.open_lost;
      fixed_shut = v.fixed_shut;
      top = v.top;
      blank = v.blank;
      decided = λ c r. v.decided c (j c r);
      sound = λ g. solution_sub j (v.sound g);
      whole = λ x s. v.whole x (solution_sub i s);
      once = v.once;
    }

-- The rows of R, and those of a list that pass the test.
abbrev pub Also : (Check → Type 0) → (Check → Bool) → List Check → Check → Type 0
Also R t cs c = R c ⊎ (Memᴰ c cs × (t c ≡ true))

module _ (lost fixed o : Qubits) where
  pub result_iff : {R R' : Check → Type 0} (r : Option Forms) → ((c : Check) → R c → R' c) → ((c : Check) → R' c → R c)
      → Result lost fixed o R r → Result lost fixed o R' r
  result_iff none i j v = λ x s. v x (solution_sub i s)
  result_iff (some fs) i j v = invariant_iff i j v

  result_bind : {R R' : Check → Type 0} (r : Option Forms) (f : Forms → Option Forms) → ((c : Check) → R c → R' c)
      → Result lost fixed o R r → ((fs : Forms) → Invariant lost fixed o R fs → Result lost fixed o R' (f fs)) → Result lost fixed o R' (bind r f)
  result_bind none f i v h = λ x s. v x (solution_sub i s)
  result_bind (some fs) f i v h = h fs v

  pub take_all_keeps : (R : Check → Type 0) (fs : Forms) (t : Check → Bool) (cs : List Check) → ((c : Check) → t c ≡ true → Decided o c)
      → Invariant lost fixed o R fs → Result lost fixed o (Also R t cs) (take_up_all t cs fs)
  take_all_keeps R fs t [] d v = invariant_iff (λ c r. inl r) (λ c r. ⊎_elim (λ i. i) (λ i. absurd (Memᴰ.not-nil i.0)) r) v
  take_all_keeps R fs t (c ∷ cs) d v =
      bit (t c)
      (λ e. subst (λ (b : Bool). Result lost fixed o (Also R t (c ∷ cs)) (bind (take_if b fs c) (take_up_all t cs))) (sym e)
      (result_bind (take_if true fs c) (take_up_all t cs) (first e) (take_keeps lost fixed o R c (d c e) fs.form fs.live _ refl v)
      (λ fs' v'. result_iff (take_up_all t cs fs') (λ b r. ⊎_elim (first e b) (rest b) r) split (take_all_keeps (Plus R c) fs' t cs d v'))))
      (λ e. subst (λ (b : Bool). Result lost fixed o (Also R t (c ∷ cs)) (bind (take_if b fs c) (take_up_all t cs))) (sym e)
      (result_iff (take_up_all t cs fs) (λ b r. ⊎_elim inl (rest b) r) (skip e) (take_all_keeps R fs t cs d v)))
    where
      first : t c ≡ true → (b : Check) → Plus R c b → Also R t (c ∷ cs) b
      first e b (inl r) = inl r
      first e b (inr i) = inr (Memᴰ.head i, ap t i ∙ e)

      rest : (b : Check) → Memᴰ b cs × (t b ≡ true) → Also R t (c ∷ cs) b
      rest b m = inr (Memᴰ.tail m.0, m.1)

      split : (b : Check) → Also R t (c ∷ cs) b → Also (Plus R c) t cs b
      split b (inl r) = inl (inl r)
      split b (inr m) = ⊎_elim (λ i. inl (inr i)) (λ i. inr (i, m.1)) (Memᴰ.cases_cons m.0)

      skip : t c ≡ false → (b : Check) → Also R t (c ∷ cs) b → Also R t cs b
      skip e b (inl r) = inl r
      skip e b (inr m) = ⊎_elim (λ i. never m.1 (ap t i ∙ e)) (λ i. inr (i, m.1)) (Memᴰ.cases_cons m.0)
