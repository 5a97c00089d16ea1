-- A half that ends finished or in none ends so with any larger budget and turn limit. No more guesses are live than the budget.
-- Assumes nothing.
use mathlib.Core.Path.{◌≡◌, refl, ap, subst}
use mathlib.Core.Bool.{Bool, true, false, not, ◌&&◌, cond}
use mathlib.Core.Option.{Option, none, some}
use mathlib.Core.List.{List, [], ◌∷◌}
use Prim.Native.Nat.{ℕ, zero, suc, ◌+◌, ◌≤◌}
use native.Mathlib.Numerals.{lt_of_le_of_ne}
use native.Mathlib.Omega.{arith}
use lib.Dec.{eqb}
use Rattle.binary.specs.Meaning.{Qubits, Check}
use Rattle.binary.proofs.Bits.{bit, never, eq_eqb, eqb_differ, and_in, not_in}
use Rattle.machine.specs.declared.Word.{Word}
use Rattle.machine.specs.declared.Word.TheVariants.{Certain, Unsure, None, Spent, Stopped}
use Rattle.machine.specs.Words.{finished}
use Rattle.machine.specs.Machine.{Form, Forms, State, Stage, on, failed, End, put, is_open, dangling, some?, newest, side, one_less, take_at, take_if, take_up_all, bind, closing, stage, turn_by, turn, none_open, dangles, before, onward, run}
use Rattle.machine.proofs.Runs.{Rule, turns_of, turn_counts, Unsaid}

----------------------------------------------------------------------
-- The live guesses

abbrev Few : ℕ → Option Forms → Type 0
Few b none = Unit {0}
Few b (some fs) = fs.live ≤ b

less_few : (n b : ℕ) → n ≤ b → one_less n ≤ b
less_few zero b l = l
less_few (suc n) b l = omega arith

few_at : (b n : ℕ) (s : Form) (fs : Forms) → fs.live ≤ b → Few b (take_at n s fs)
few_at b zero s fs l = go (s 0)
  where
    go : (x : Bool) → Few b (cond x none (some fs))
    go true = tt
    go false = l
few_at b (suc k) s fs l = less_few fs.live b l

few_if : (b : ℕ) (x : Bool) (fs : Forms) (c : Check) → fs.live ≤ b → Few b (take_if x fs c)
few_if b true fs c l = few_at b (newest fs.live (side fs c)) (side fs c) fs l
few_if b false fs c l = l

few_all : (b : ℕ) (t : Check → Bool) (cs : List Check) (fs : Forms) → fs.live ≤ b → Few b (take_up_all t cs fs)
few_all b t [] fs l = l
few_all b t (c ∷ cs) fs l = go (take_if (t c) fs c) (few_if b (t c) fs c l) (few_all b t cs)
  where
    go : (r : Option Forms) → Few b r → ((fs' : Forms) → fs'.live ≤ b → Few b (take_up_all t cs fs')) → Few b (bind r (take_up_all t cs))
    go none l' h = tt
    go (some fs') l' h = h fs' l'

-- At most b guesses are live.
abbrev pub FewAt : ℕ → Stage → Type 0
FewAt b (on st) = st.forms.live ≤ b
FewAt b (failed st) = Unit {0}

pub few_stage : (b : ℕ) (mark : ℕ → ℕ) (turns : ℕ) (t : Check → Bool) (cs : List Check) (fs : Forms) → fs.live ≤ b
    → FewAt b (stage mark turns (take_up_all t cs fs))
few_stage b mark turns t cs fs l = go (take_up_all t cs fs) (few_all b t cs fs l)
  where
    go : (r : Option Forms) → Few b r → FewAt b (stage mark turns r)
    go none i = tt
    go (some fs') i = i

module _ (checks : List Check) (n : ℕ) (choose : Qubits → Option ℕ) where
  -- A guess is made only below the budget.
  pub few_turn : (b l : ℕ) (st : State) → st.forms.live ≤ b → Unsaid checks n choose b l st → FewAt b (turn checks n choose st)
  few_turn b l st few u = look (dangling (is_open st.mark) checks) (choose (is_open st.mark)) refl refl
    where
      look : (d : Option (ℕ × Check)) (p : Option ℕ) → dangling (is_open st.mark) checks ≡ d → choose (is_open st.mark) ≡ p
          → FewAt b (turn_by checks n choose st d p)
      look (some d) p i j =
          few_stage b (put d.0 2 st.mark) (suc st.turns) (closing st.mark (put d.0 2 st.mark)) checks
          (record { form = put d.0 (side st.forms d.1) st.forms.form; live = st.forms.live }) few
      look none (some p) i j =
          few_stage b (put p 3 st.mark) (suc st.turns) (closing st.mark (put p 3 st.mark)) checks
          (record { form = put p (λ k. eqb k (suc st.forms.live)) st.forms.form; live = suc st.forms.live })
          (lt_of_le_of_ne few (λ e. never (and_in (not_in (ap some? i)) (subst (λ (k : ℕ). eqb st.forms.live k ≡ true) e (eq_eqb st.forms.live))) u.free))
      look none none i j = few

----------------------------------------------------------------------
-- Larger limits

-- Finished or none.
abbrev pub Settled : Word → Type 0
Settled Certain = Unit {0}
Settled Unsure = Unit {0}
Settled None = Unit {0}
Settled Spent = ⊥
Settled Stopped = ⊥

module _ (checks : List Check) (n : ℕ) (choose : Qubits → Option ℕ) (rule : Rule n choose) (b b' l l' : ℕ) (more-guesses : b ≤ b')
    (more-turns : l ≤ l') where
  pub larger : (m m' : ℕ) (s : Stage) → turns_of s + m ≡ suc l → turns_of s + m' ≡ suc l' → FewAt b s
      → Settled (run checks n choose b l m s).word → run checks n choose b' l' m' s ≡ run checks n choose b l m s
  unfolding run
  larger zero zero (on st) i i' few e = absurd e
  larger zero (suc m') (on st) i i' few e = absurd e
  larger zero zero (failed st) i i' few e = refl
  larger zero (suc m') (failed st) i i' few e = refl
  larger (suc m) zero (failed st) i i' few e = refl
  larger (suc m) (suc m') (failed st) i i' few e = refl
  larger (suc m) zero (on st) i i' few e = absurd (omega arith)
  larger (suc m) (suc m') (on st) i i' few e =
      look (none_open checks n choose st) (eqb st.turns l) (not (dangles checks n choose st) && eqb st.forms.live b) refl refl refl e
      (λ u. larger m m' (turn checks n choose st) (count u m l i) (count u m' l' i') (few_turn checks n choose b l st few u))
    where
      s' : Stage
      s' = turn checks n choose st

      f : Stage → End
      f = run checks n choose b l m

      f' : Stage → End
      f' = run checks n choose b' l' m'

      count : Unsaid checks n choose b l st → (k j : ℕ) → st.turns + suc k ≡ suc j → turns_of s' + k ≡ suc j
      count u k j h = let t = turn_counts checks n choose rule st u.some_open_lem in omega arith

      at : Bool → Bool → Bool → Option Word
      at x y z = cond x (some (finished st.forms.live)) (cond y (some Stopped) (cond z (some Spent) none))

      -- Where a turn is made with the smaller limits, it is with the larger ones.
      room : eqb st.turns l ≡ false → eqb st.turns l' ≡ false
      room h = eqb_differ st.turns l' (λ (k : st.turns ≡ l'). never (subst (λ (j : ℕ). eqb st.turns j ≡ true) (same k) (eq_eqb st.turns)) h)
        where
          same : st.turns ≡ l' → st.turns ≡ l
          same k = omega arith

      free : (not (dangles checks n choose st) && eqb st.forms.live b) ≡ false
          → (not (dangles checks n choose st) && eqb st.forms.live b') ≡ false
      free h = bit (dangles checks n choose st) (λ d. rw d)
          (λ d. let g : eqb st.forms.live b ≡ false = rw d at h in
          rw d (eqb_differ st.forms.live b' (λ k. never (subst (λ (j : ℕ). eqb st.forms.live j ≡ true) (same k) (eq_eqb st.forms.live)) g)))
        where
          same : st.forms.live ≡ b' → st.forms.live ≡ b
          same k = omega arith

      look : (x y z : Bool) → none_open checks n choose st ≡ x → eqb st.turns l ≡ y
          → (not (dangles checks n choose st) && eqb st.forms.live b) ≡ z
          → Settled (onward checks n choose (at x y z) st f s').word
          → (Unsaid checks n choose b l st → Settled (f s').word → f' s' ≡ f s')
          → onward checks n choose (before checks n choose b' l' st) st f' s' ≡ onward checks n choose (at x y z) st f s'
      look true y z p q r w h = rw p
      look false true z p q r w h = absurd w
      look false false true p q r w h = absurd w
      look false false false p q r w h =
          rw (p, room q, free r) (h (record { some_open_lem = p; room = q; free = r }) w)
