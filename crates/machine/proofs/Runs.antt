-- One induction for every law of a half: what each turn keeps, the whole half keeps; and what the word says of the test that ended it.
-- Assumes nothing.
use mathlib.Core.Path.{◌≡◌, refl, sym, ap, ◌∙◌, subst}
use mathlib.Core.Bool.{Bool, true, false, not, ◌&&◌, cond}
use mathlib.Core.Logic.{◌⊎◌, inl, inr}
use mathlib.Core.Option.{Option, none, some}
use mathlib.Core.List.{List}
use Prim.Native.Nat.{ℕ, zero, suc, ◌+◌, ◌<◌}
use native.Mathlib.Nat.{add-zero}
use native.Mathlib.Omega.{arith}
use lib.Dec.{eqb}
use Rattle.binary.specs.Meaning.{Qubits, Check}
use Rattle.binary.proofs.Bits.{never, below_in, eqb_eq, eq_eqb, not_in, not_out, and_out}
use Rattle.machine.specs.declared.Word.{Word}
use Rattle.machine.specs.declared.Word.TheVariants.{Certain, Unsure, None, Spent, Stopped}
use Rattle.machine.specs.Words.{finished?, finished}
use Rattle.machine.specs.Machine.{Forms, State, Stage, on, failed, End, put, is_open, dangling, take_up_all, closing, stage, settle, side, peel, guess, turn_by, turn, none_open, dangles, before, onward, run}
use Rattle.machine.specs.Report.{none?}
use Rattle.machine.specs.Demands.{stage_of}

-- A guess rule names an open qubit, if one below n is open.
pub record Rule (n : ℕ) (choose : Qubits → Option ℕ) : Type 0 where
  pub names_open : (o : Qubits) (p : ℕ) → choose o ≡ some p → o p ≡ true
  pub names_one : (o : Qubits) → choose o ≡ none → (q : ℕ) → q < n → o q ≡ false

abbrev pub turns_of : Stage → ℕ
turns_of (on st) = st.turns
turns_of (failed st) = st.turns

settle_turns : (checks : List Check) (st : State) (p m : ℕ) (fs : Forms) → turns_of (settle checks st p m fs) ≡ suc st.turns
settle_turns checks st p m fs = go (take_up_all (closing st.mark (put p m st.mark)) checks fs)
  where
    go : (r : Option Forms) → turns_of (stage (put p m st.mark) (suc st.turns) r) ≡ suc st.turns
    go none = refl
    go (some fs') = refl

----------------------------------------------------------------------
-- The tests before a turn

module _ (checks : List Check) (n : ℕ) (choose : Qubits → Option ℕ) (budget limit : ℕ) where
  -- What each word says of the state in which a test before a turn said it.
  abbrev pub Said : Word → State → Type 0
  Said Certain st = (none_open checks n choose st ≡ true) × (st.forms.live ≡ 0)
  Said Unsure st = (none_open checks n choose st ≡ true) × ((m : ℕ) × (st.forms.live ≡ suc m))
  Said None st = Unit {0}
  Said Spent st = (dangling (is_open st.mark) checks ≡ none) × (st.forms.live ≡ budget) × (none_open checks n choose st ≡ false)
  Said Stopped st = st.turns ≡ limit

  -- A finished half has no open qubit.
  pub said_shut : (w : Word) (st : State) → finished? w ≡ true → Said w st → none_open checks n choose st ≡ true
  said_shut Certain st e s = s.0
  said_shut Unsure st e s = s.0
  said_shut None st e s = never e refl
  said_shut Spent st e s = never e refl
  said_shut Stopped st e s = never e refl

  -- What no word says: a turn is to be made.
  pub record Unsaid (st : State) : Type 0 where
    pub some_open_lem : none_open checks n choose st ≡ false
    pub room : eqb st.turns limit ≡ false
    pub free : (not (dangles checks n choose st) && eqb st.forms.live budget) ≡ false

  module _ (st : State) where
    -- The tests at given outcomes.
    abbrev at : Bool → Bool → Bool → Option Word
    at a b c = cond a (some (finished st.forms.live)) (cond b (some Stopped) (cond c (some Spent) none))

    -- By which test, with its word, or by none.
    pub before_cases {ℓ} : (P : Option Word → Type ℓ) → ((w : Word) → none? w ≡ false → Said w st → P (some w)) → (Unsaid st → P none)
        → P (before checks n choose budget limit st)
    before_cases P f g =
        look (none_open checks n choose st) (eqb st.turns limit) (not (dangles checks n choose st) && eqb st.forms.live budget) refl refl refl
      where
        ended : (live : ℕ) → st.forms.live ≡ live → none_open checks n choose st ≡ true → P (some (finished live))
        ended zero e i = f Certain refl (i, e)
        ended (suc m) e i = f Unsure refl (i, (m, e))

        none_dangles : (d : Option (ℕ × Check)) → dangling (is_open st.mark) checks ≡ d → dangles checks n choose st ≡ false
            → dangling (is_open st.mark) checks ≡ none
        none_dangles none i j = i
        none_dangles (some d) i j = let z : dangles checks n choose st ≡ true = rw i in never z j

        look : (a b c : Bool) → none_open checks n choose st ≡ a → eqb st.turns limit ≡ b
            → (not (dangles checks n choose st) && eqb st.forms.live budget) ≡ c → P (at a b c)
        look true b c i j k = ended st.forms.live refl i
        look false true c i j k = f Stopped refl (eqb_eq st.turns limit j)
        look false false true i j k =
            let z = and_out (not (dangles checks n choose st)) (eqb st.forms.live budget) k in
            f Spent refl (none_dangles (dangling (is_open st.mark) checks) refl (not_out (dangles checks n choose st) z.0), eqb_eq st.forms.live budget z.1, i)
        look false false false i j k = g (record { some_open_lem = i; room = j; free = k })

----------------------------------------------------------------------
-- What a turn keeps

module _ (checks : List Check) (n : ℕ) (choose : Qubits → Option ℕ) where
  pub turn_keeps : (P : Stage → Type 0)
      → ((st : State) (d : ℕ × Check) → dangling (is_open st.mark) checks ≡ some d → P (on st) → P (peel checks st d.0 d.1))
      → ((st : State) (p : ℕ) → choose (is_open st.mark) ≡ some p → P (on st) → P (guess checks st p))
      → (st : State) → P (on st) → P (turn checks n choose st)
  turn_keeps P peels guesses st v = look (dangling (is_open st.mark) checks) (choose (is_open st.mark)) refl refl
    where
      look : (d : Option (ℕ × Check)) (p : Option ℕ) → dangling (is_open st.mark) checks ≡ d → choose (is_open st.mark) ≡ p
          → P (turn_by checks n choose st d p)
      look (some d) p i j = peels st d i v
      look none (some p) i j = guesses st p j v
      look none none i j = v

  -- A row dangles, or the rule names a qubit.
  abbrev Named : Option (ℕ × Check) → Option ℕ → Type 0
  Named (some d) p = Unit {0}
  Named none (some p) = Unit {0}
  Named none none = ⊥

  made : (st : State) (d : Option (ℕ × Check)) (p : Option ℕ) → Named d p → turns_of (turn_by checks n choose st d p) ≡ suc st.turns
  made st (some d) p h =
      settle_turns checks st d.0 2 (record { form = put d.0 (side st.forms d.1) st.forms.form; live = st.forms.live })
  made st none (some p) h =
      settle_turns checks st p 3
      (record { form = put p (λ k. eqb k (suc st.forms.live)) st.forms.form; live = suc st.forms.live })
  made st none none h = absurd h

  -- A turn is made, and counts, or there is none to make.
  pub turn_either : (st : State) → (turns_of (turn checks n choose st) ≡ suc st.turns) ⊎ (turn checks n choose st ≡ on st)
  turn_either st = look (dangling (is_open st.mark) checks) (choose (is_open st.mark))
    where
      look : (d : Option (ℕ × Check)) (p : Option ℕ)
          → (turns_of (turn_by checks n choose st d p) ≡ suc st.turns) ⊎ (turn_by checks n choose st d p ≡ on st)
      look (some d) p = inl (made st (some d) p tt)
      look none (some p) = inl (made st none (some p) tt)
      look none none = inr refl

  -- Where some qubit is open a turn is made.
  pub turn_counts : Rule n choose → (st : State) → none_open checks n choose st ≡ false → turns_of (turn checks n choose st) ≡ suc st.turns
  turn_counts rule st some_open_lem = look (dangling (is_open st.mark) checks) (choose (is_open st.mark)) refl
    where
      look : (d : Option (ℕ × Check)) (p : Option ℕ) → choose (is_open st.mark) ≡ p → turns_of (turn_by checks n choose st d p) ≡ suc st.turns
      look (some d) p j = made st (some d) p tt
      look none (some p) j = made st none (some p) tt
      look none none j = never (below_in n _ (λ q l. not_in (rule.names_one (is_open st.mark) j q l))) some_open_lem

----------------------------------------------------------------------
-- What a half keeps

module _ (checks : List Check) (n : ℕ) (choose : Qubits → Option ℕ) (budget limit : ℕ) where
  -- What holds of the stage before each turn holds of the stage that the half ends in.
  pub run_keeps : (P : Stage → Type 0) → ((st : State) → Unsaid checks n choose budget limit st → P (on st) → P (turn checks n choose st))
      → (m : ℕ) (s : Stage) → P s → P (stage_of (run checks n choose budget limit m s))
  unfolding run
  run_keeps P turns zero (on st) v = v
  run_keeps P turns zero (failed st) v = v
  run_keeps P turns (suc m) (failed st) v = v
  run_keeps P turns (suc m) (on st) v =
      before_cases checks n choose budget limit st
      (λ b. P (stage_of (onward checks n choose b st (run checks n choose budget limit m) (turn checks n choose st))))
      (λ w e s. rw e v) (λ u. run_keeps P turns m (turn checks n choose st) (turns st u v))

  -- The fuel does not run out: a test before a turn ends the half, or a row that was taken up.
  pub run_said : Rule n choose → (m : ℕ) (s : Stage) → turns_of s + m ≡ limit
      → let e : End = run checks n choose budget limit (suc m) s in Said checks n choose budget limit e.word e.state
  unfolding run
  run_said rule zero (failed st) l = tt
  run_said rule zero (on st) l =
      before_cases checks n choose budget limit st
      (λ b. let e : End = onward checks n choose b st (run checks n choose budget limit zero) (turn checks n choose st) in
      Said checks n choose budget limit e.word e.state)
      (λ w e s. s) (λ u. never (subst (λ (k : ℕ). eqb st.turns k ≡ true) (sym (add-zero st.turns) ∙ l) (eq_eqb st.turns)) u.room)
  run_said rule (suc m) (failed st) l = tt
  run_said rule (suc m) (on st) l =
      before_cases checks n choose budget limit st
      (λ b. let e : End = onward checks n choose b st (run checks n choose budget limit (suc m)) (turn checks n choose st) in
      Said checks n choose budget limit e.word e.state)
      (λ w e s. s)
      (λ u. run_said rule m (turn checks n choose st) (ap (◌+ m) (turn_counts checks n choose rule st u.some_open_lem) ∙ step l))
    where
      step : st.turns + suc m ≡ limit → suc st.turns + m ≡ limit
      step e = omega arith
