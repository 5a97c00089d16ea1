-- Marks, turns and blank forms of every stage that a half comes to. Assumes nothing.
use mathlib.Core.Path.{◌≡◌, refl, sym, ap, ap₂, ◌∙◌, subst}
use mathlib.Core.Bool.{Bool, true, false, not, ◌&&◌, cond}
use mathlib.Core.Option.{Option, none, some}
use mathlib.Core.List.{List, [], ◌∷◌}
use Prim.Native.Nat.{ℕ, zero, suc, ◌+◌, ◌<◌}
use native.Mathlib.Nat.{zero-add}
use native.Mathlib.Omega.{arith}
use lib.Dec.{eqb}
use Rattle.binary.specs.Bits.{◌⊕◌, tally}
use Rattle.binary.specs.Meaning.{Qubits, Check}
use Rattle.binary.proofs.Bits.{bit, never, eqb_eq, eq_eqb, and_out, tally_same, tally_none}
use Rattle.binary.proofs.Weights.{tally_up}
use Rattle.machine.specs.Machine.{Form, Forms, blank, State, Stage, on, failed, put, is_open, is_settled, closed?, without, newest, side, take_at, take_if, take_up_all, bind, closing, stage, start_mark, start, settle, turn}
use Rattle.machine.specs.Report.{marked}
use Rattle.machine.proofs.Settling.{part_open}
use Rattle.machine.proofs.Stages.{dangling_is, start_open}
use Rattle.machine.proofs.Runs.{Rule, turn_keeps}

----------------------------------------------------------------------
-- Marks and turns

-- `left`: how many qubits were open at the start.
pub record Counted (n left : ℕ) (lost fixed : Qubits) (mark : ℕ → ℕ) (turns : ℕ) : Type 0 where
  pub made : turns ≡ marked n mark 2 + marked n mark 3
  pub open_left : turns + marked n mark 4 ≡ left
  pub open_below_lem : (q : ℕ) → is_open mark q ≡ true → q < n
  pub unlost : (q : ℕ) → eqb (mark q) 0 ≡ not (lost q)
  pub is_fixed_lem : (q : ℕ) → eqb (mark q) 1 ≡ (lost q && fixed q)

abbrev pub CountedAt : ℕ → ℕ → Qubits → Qubits → Stage → Type 0
CountedAt n left lost fixed (on st) = Counted n left lost fixed st.mark st.turns
CountedAt n left lost fixed (failed st) = Counted n left lost fixed st.mark st.turns

counted_stage : (n left : ℕ) (lost fixed : Qubits) (mark : ℕ → ℕ) (turns : ℕ) (r : Option Forms) → Counted n left lost fixed mark turns
    → CountedAt n left lost fixed (stage mark turns r)
counted_stage n left lost fixed mark turns none c = c
counted_stage n left lost fixed mark turns (some fs) c = c

-- The open qubit p gets mark m.
module _ (n p m : ℕ) (mark : ℕ → ℕ) (l : p < n) (e : mark p ≡ 4) where
  put_off : (k q : ℕ) → eqb p q ≡ false → eqb (put p m mark q) k ≡ eqb (mark q) k
  put_off k q t = rw t

  up : (k : ℕ) → eqb 4 k ≡ false → eqb m k ≡ true → marked n (put p m mark) k ≡ suc (marked n mark k)
  up k a b = tally_up n p (λ q. eqb (mark q) k) (λ q. eqb (put p m mark q) k) l (rw e a) (rw (eq_eqb p) b) (put_off k)

  down : eqb m 4 ≡ false → suc (marked n (put p m mark) 4) ≡ marked n mark 4
  down a = sym (tally_up n p (λ q. eqb (put p m mark q) 4) (λ q. eqb (mark q) 4) l (rw (eq_eqb p) a) (rw e) (λ q t. sym (put_off 4 q t)))

  -- A mark that p neither had nor gets.
  same : (k : ℕ) → eqb 4 k ≡ false → eqb m k ≡ false → (q : ℕ) → eqb (put p m mark q) k ≡ eqb (mark q) k
  same k a b q = bit (eqb p q) (λ t. rw t (b ∙ sym (subst (λ (x : ℕ). eqb (mark x) k ≡ false) (eqb_eq p q t) (rw e a)))) (put_off k q)

  keep : (k : ℕ) → eqb 4 k ≡ false → eqb m k ≡ false → marked n (put p m mark) k ≡ marked n mark k
  keep k a b = tally_same n (λ q. eqb (mark q) k) (λ q. eqb (put p m mark q) k) (λ q i. same k a b q)

  still_below : eqb m 4 ≡ false → ((q : ℕ) → is_open mark q ≡ true → q < n) → (q : ℕ) → is_open (put p m mark) q ≡ true → q < n
  still_below a h q t = bit (eqb p q) (λ i. subst (λ (x : ℕ). x < n) (eqb_eq p q i) l) (λ i. h q (sym (put_off 4 q i) ∙ t))

  counted_put : (left : ℕ) (lost fixed : Qubits) (turns : ℕ) → eqb m 0 ≡ false → eqb m 1 ≡ false → eqb m 4 ≡ false
      → marked n (put p m mark) 2 + marked n (put p m mark) 3 ≡ suc (marked n mark 2 + marked n mark 3)
      → Counted n left lost fixed mark turns → Counted n left lost fixed (put p m mark) (suc turns)
  counted_put left lost fixed turns a b d made c =
      record {
        made = sym (made ∙ ap suc (sym c.made));
        open_left = omega (arith, c.open_left, down d);
        open_below_lem = still_below d c.open_below_lem;
        unlost = λ q. same 0 refl a q ∙ c.unlost q;
        is_fixed_lem = λ q. same 1 refl b q ∙ c.is_fixed_lem q;
      }

module _ (checks : List Check) (n : ℕ) (choose : Qubits → Option ℕ) (rule : Rule n choose) (left : ℕ) (lost fixed : Qubits) where
  counted_settle : (st : State) (p m : ℕ) (fs : Forms) → is_open st.mark p ≡ true → eqb m 0 ≡ false → eqb m 1 ≡ false → eqb m 4 ≡ false
      → (p < n → st.mark p ≡ 4
      → marked n (put p m st.mark) 2 + marked n (put p m st.mark) 3 ≡ suc (marked n st.mark 2 + marked n st.mark 3))
      → CountedAt n left lost fixed (on st) → CountedAt n left lost fixed (settle checks st p m fs)
  counted_settle st p m fs o a b d made c =
      let l = c.open_below_lem p o in
      let e = eqb_eq (st.mark p) 4 o in
      counted_stage n left lost fixed (put p m st.mark) (suc st.turns) (take_up_all (closing st.mark (put p m st.mark)) checks fs)
      (counted_put n p m st.mark l e left lost fixed st.turns a b d (made l e) c)

  pub counted_turn : (st : State) → CountedAt n left lost fixed (on st) → CountedAt n left lost fixed (turn checks n choose st)
  counted_turn =
      turn_keeps checks n choose (CountedAt n left lost fixed)
      (λ st d e c. counted_settle st d.0 2 _ (part_open (is_open st.mark) d.1.row d.0 [] (dangling_is (is_open st.mark) checks d e).0)
      refl refl refl
      (λ l i. ap₂ ◌+◌ (up n d.0 2 st.mark l i 2 refl refl) (keep n d.0 2 st.mark l i 3 refl refl) ∙ omega arith) c)
      (λ st p e c. counted_settle st p 3 _ (rule.names_open (is_open st.mark) p e) refl refl refl
      (λ l i. ap₂ ◌+◌ (keep n p 3 st.mark l i 2 refl refl) (up n p 3 st.mark l i 3 refl refl) ∙ omega arith) c)

-- The turns made and the open qubits, which lie below n, stay the same in all.
abbrev pub OpenAt : ℕ → ℕ → Stage → Type 0
OpenAt n total (on st) = (st.turns + marked n st.mark 4 ≡ total) × ((q : ℕ) → is_open st.mark q ≡ true → q < n)
OpenAt n total (failed st) = (st.turns + marked n st.mark 4 ≡ total) × ((q : ℕ) → is_open st.mark q ≡ true → q < n)

pub open_turn : (checks : List Check) (n : ℕ) (choose : Qubits → Option ℕ) → Rule n choose → (total : ℕ) (st : State) → OpenAt n total (on st)
    → OpenAt n total (turn checks n choose st)
open_turn checks n choose rule total =
    turn_keeps checks n choose (OpenAt n total)
    (λ st d e v. settles st d.0 2 _ (part_open (is_open st.mark) d.1.row d.0 [] (dangling_is (is_open st.mark) checks d e).0) refl v)
    (λ st p e v. settles st p 3 _ (rule.names_open (is_open st.mark) p e) refl v)
  where
    at_stage : (mark : ℕ → ℕ) (turns : ℕ) (r : Option Forms) → OpenAt n total (on (record { mark = mark; forms = blank; turns = turns })) → OpenAt n total (stage mark turns r)
    at_stage mark turns none v = v
    at_stage mark turns (some fs) v = v

    settles : (st : State) (p m : ℕ) (fs : Forms) → is_open st.mark p ≡ true → eqb m 4 ≡ false → OpenAt n total (on st) → OpenAt n total (settle checks st p m fs)
    settles st p m fs o d v =
        let l = v.1 p o in
        let e = eqb_eq (st.mark p) 4 o in
        at_stage (put p m st.mark) (suc st.turns) (take_up_all (closing st.mark (put p m st.mark)) checks fs)
        (omega (arith, v.0, down n p m st.mark l e d), still_below n p m st.mark l e d v.1)

start_not : (k : ℕ) → eqb 0 k ≡ false → eqb 1 k ≡ false → eqb 4 k ≡ false → (a b : Bool) → eqb (cond a (cond b 1 4) 0) k ≡ false
start_not k x y z true true = y
start_not k x y z true false = z
start_not k x y z false b = x

start_unlost : (a b : Bool) → eqb (cond a (cond b 1 4) 0) 0 ≡ not a
start_unlost true true = refl
start_unlost true false = refl
start_unlost false b = refl

start_fixed : (a b : Bool) → eqb (cond a (cond b 1 4) 0) 1 ≡ (a && b)
start_fixed true true = refl
start_fixed true false = refl
start_fixed false b = refl

pub counted_start : (checks : List Check) (n : ℕ) (lost fixed : Qubits) → ((q : ℕ) → lost q ≡ true → q < n)
    → CountedAt n (tally n (λ q. lost q && not (fixed q))) lost fixed (start checks lost fixed)
unfolding start
counted_start checks n lost fixed lost_below =
    counted_stage n left lost fixed mark 0 (take_up_all (closed? (is_open mark)) checks blank)
    (record {
      made = sym (ap₂ ◌+◌ (tally_none n (λ q. eqb (mark q) 2) (λ q. start_not 2 refl refl refl (lost q) (fixed q)))
          (tally_none n (λ q. eqb (mark q) 3) (λ q. start_not 3 refl refl refl (lost q) (fixed q))));
      open_left = zero-add (marked n mark 4)
          ∙ tally_same n (λ q. lost q && not (fixed q)) (λ q. eqb (mark q) 4) (λ q l. start_open (lost q) (fixed q));
      open_below_lem = λ q t. lost_below q (and_out (lost q) (not (fixed q)) (sym (start_open (lost q) (fixed q)) ∙ t)).0;
      unlost = λ q. start_unlost (lost q) (fixed q);
      is_fixed_lem = λ q. start_fixed (lost q) (fixed q);
    })
  where
    mark : ℕ → ℕ
    mark = start_mark lost fixed

    left : ℕ
    left = tally n (λ q. lost q && not (fixed q))

----------------------------------------------------------------------
-- A qubit that is not settled has form 0

without_zero : (k : ℕ) (f : Form) → ((j : ℕ) → f j ≡ false) → (j : ℕ) → without k f j ≡ false
without_zero zero f h j = h (suc j)
without_zero (suc k) f h zero = h zero
without_zero (suc k) f h (suc j) = without_zero k (λ i. f (suc i)) (λ i. h (suc i)) j

-- Z: the qubits in question.
module _ (Z : ℕ → Type 0) where
  abbrev Zero : Forms → Type 0
  Zero fs = (q : ℕ) → Z q → (k : ℕ) → fs.form q k ≡ false

  abbrev Zeros : Option Forms → Type 0
  Zeros none = Unit {0}
  Zeros (some fs) = Zero fs

  zero_at : (n : ℕ) (s : Form) (fs : Forms) → Zero fs → Zeros (take_at n s fs)
  zero_at zero s fs h = go (s 0)
    where
      go : (b : Bool) → Zeros (cond b none (some fs))
      go true = tt
      go false = h
  zero_at (suc k) s fs h =
      λ q z j. without_zero (suc k) (λ i. fs.form q i ⊕ (fs.form q (suc k) && s i)) (λ i. rw (h q z i, h q z (suc k))) j

  zero_if : (b : Bool) (fs : Forms) (c : Check) → Zero fs → Zeros (take_if b fs c)
  zero_if true fs c h = zero_at (newest fs.live (side fs c)) (side fs c) fs h
  zero_if false fs c h = h

  zero_all : (t : Check → Bool) (cs : List Check) (fs : Forms) → Zero fs → Zeros (take_up_all t cs fs)
  zero_all t [] fs h = h
  zero_all t (c ∷ cs) fs h = go (take_if (t c) fs c) (zero_if (t c) fs c h) (zero_all t cs)
    where
      go : (r : Option Forms) → Zeros r → ((fs' : Forms) → Zero fs' → Zeros (take_up_all t cs fs')) → Zeros (bind r (take_up_all t cs))
      go none h' i = tt
      go (some fs') h' i = i fs' h'

abbrev pub Unsettled : (ℕ → ℕ) → ℕ → Type 0
Unsettled mark q = is_settled mark q ≡ false

abbrev pub BlankAt : Stage → Type 0
BlankAt (on st) = Zero (Unsettled st.mark) st.forms
BlankAt (failed st) = st.forms ≡ blank

blank_stage : (mark : ℕ → ℕ) (turns : ℕ) (r : Option Forms) → Zeros (Unsettled mark) r → BlankAt (stage mark turns r)
blank_stage mark turns none h = refl
blank_stage mark turns (some fs) h = h

module _ (checks : List Check) (n : ℕ) (choose : Qubits → Option ℕ) where
  blank_settle : (st : State) (p m : ℕ) (f : Form) (live : ℕ) → (not (eqb m 0) && not (eqb m 4)) ≡ true → BlankAt (on st)
      → BlankAt (settle checks st p m (record { form = put p f st.forms.form; live = live }))
  blank_settle st p m f live e h =
      blank_stage (put p m st.mark) (suc st.turns) (take_up_all t checks fs) (zero_all (Unsettled (put p m st.mark)) t checks fs
      (λ q z k. bit (eqb p q) (λ u. never e (subst (λ (b : Bool). settled_if b q ≡ false) u z))
      (λ u. rw u (h q (subst (λ (b : Bool). settled_if b q ≡ false) u z) k))))
    where
      fs : Forms
      fs = record { form = put p f st.forms.form; live = live }

      t : Check → Bool
      t = closing st.mark (put p m st.mark)

      settled_if : Bool → ℕ → Bool
      settled_if b q = not (eqb (cond b m (st.mark q)) 0) && not (eqb (cond b m (st.mark q)) 4)

  pub blank_turn : (st : State) → BlankAt (on st) → BlankAt (turn checks n choose st)
  blank_turn =
      turn_keeps checks n choose BlankAt
      (λ st d e h. blank_settle st d.0 2 (side st.forms d.1) st.forms.live refl h)
      (λ st p e h. blank_settle st p 3 (λ k. eqb k (suc st.forms.live)) (suc st.forms.live) refl h)

pub blank_start : (checks : List Check) (lost fixed : Qubits) → BlankAt (start checks lost fixed)
unfolding start
blank_start checks lost fixed =
    blank_stage mark 0 (take_up_all (closed? (is_open mark)) checks blank)
    (zero_all (Unsettled mark) (closed? (is_open mark)) checks blank (λ q z k. refl))
  where
    mark : ℕ → ℕ
    mark = start_mark lost fixed
