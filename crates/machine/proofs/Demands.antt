-- The demands of one half hold: the machine's laws, said of what a half shows. Assumes nothing.
use mathlib.Core.Path.{◌≡◌, refl, sym, ap, ◌∙◌, subst}
use mathlib.Core.Bool.{Bool, true, false, not, ◌&&◌}
use mathlib.Core.Logic.{◌↔◌, ◌⊎◌, inl, inr, ⊎_elim}
use mathlib.Core.Option.{Option, none, some}
use mathlib.Core.List.{List, [], ◌∷◌}
use Prim.Native.Nat.{ℕ, zero, suc, ◌+◌, ◌≤◌, ◌<◌, zero-le}
use native.Mathlib.Nat.{not-suc-le-zero, zero-add}
use Rattle.binary.specs.Bits.{tally}
use Rattle.binary.specs.Meaning.{Qubits, Row, Check, All, Even, Differ}
use Rattle.binary.specs.Classes.{Commuting}
use Rattle.binary.proofs.Bits.{bit, never, below_out, not_out}
use Rattle.machine.specs.declared.Word.{Word}
use Rattle.machine.specs.declared.Word.TheVariants.{Certain, Unsure, None, Spent, Stopped}
use Rattle.machine.specs.Words.{finished?}
use Rattle.machine.specs.Machine.{Form, Forms, blank, State, Stage, on, failed, End, Half, keep_if, readings, checks, fixed_of, rule_of, start_of, decoded, start, start_mark, is_open, closed?, dangling, fewer, take_up_all, stage, turn, none_open, run}
use Rattle.machine.specs.Fillings.{filling}
use Rattle.machine.specs.Report.{Shown, shown, outcome, none?}
use Rattle.machine.specs.Demands.{Obeys, FitsHalf, VerdictLaw, Fillings, FillingsLaw, ClassesLaw, BudgetsLaw, turn_of, turned, stage_of, CountsLaw, CountedLaw, EmptiedLaw, ReachLaw}
use Rattle.machine.proofs.Runs.{Rule, turns_of, Said, turn_either, run_keeps, run_said}
use Rattle.machine.proofs.Stages.{Good, turn_good, start_good}
use Rattle.machine.proofs.Guessing.{best_rule}
use Rattle.machine.proofs.Budgets.{FewAt, few_stage, few_turn, Settled, larger}
use Rattle.machine.proofs.Counts.{Counted, CountedAt, counted_turn, counted_start, BlankAt, blank_turn, blank_start}
use Rattle.machine.proofs.Verdicts.{failed_fits, values_fit, classes_one, certain_right, unsure_right}

----------------------------------------------------------------------
-- Words told apart

pub not_none : (w : Word) → (w ≡ None → ⊥) → none? w ≡ false
not_none Certain h = refl
not_none Unsure h = refl
not_none None h = absurd (h refl)
not_none Spent h = refl
not_none Stopped h = refl

is_none : (w : Word) → none? w ≡ false → w ≡ None → ⊥
is_none w e i = never (ap none? i) e

settled_word : (w : Word) → (finished? w ≡ true) ⊎ (w ≡ None) → Settled w
settled_word Certain h = tt
settled_word Unsure h = tt
settled_word None h = tt
settled_word Spent (inl e) = never e refl
settled_word Spent (inr e) = let j : ◌≡◌ {A = Bool} true false = cc in never refl j
settled_word Stopped (inl e) = never e refl
settled_word Stopped (inr e) = let j : ◌≡◌ {A = Bool} true false = cc in never refl j

----------------------------------------------------------------------
-- The half of a code and a shot

pub rule_of_lem : (h : Half) → Rule h.size (rule_of h)
rule_of_lem h = best_rule (fewer (checks h)) h.size

pub commuting : (others : List Row) (i : ℕ) (lit unread : ℕ → Bool) (rows : List Row) → All (λ r. All (Even r) others) rows
    → Commuting others (readings i lit unread rows)
commuting others i lit unread [] e = tt
commuting others i lit unread (r ∷ rows) e = go (not (unread i)) (commuting others (suc i) lit unread rows e.1)
  where
    go : (b : Bool) → Commuting others (readings (suc i) lit unread rows)
        → Commuting others (keep_if b (record { lit = lit i; row = r }) (readings (suc i) lit unread rows))
    go true v = (e.0, v)
    go false v = v

start_turns : (cs : List Check) (lost fixed : Qubits) → turns_of (start cs lost fixed) ≡ 0
unfolding start
start_turns cs lost fixed = go (take_up_all (closed? (is_open (start_mark lost fixed))) cs blank)
  where
    go : (r : Option Forms) → turns_of (stage (start_mark lost fixed) 0 r) ≡ 0
    go none = refl
    go (some fs) = refl

pub start_few : (b : ℕ) (cs : List Check) (lost fixed : Qubits) → FewAt b (start cs lost fixed)
unfolding start
start_few b cs lost fixed = few_stage b (start_mark lost fixed) 0 (closed? (is_open (start_mark lost fixed))) cs blank zero-le

-- How the half ends from a start with these qubits fixed.
module _ (h : Half) (fixed : Qubits) where
  abbrev pub end_from : ℕ → ℕ → End
  end_from budget limit = run (checks h) h.size (rule_of h) budget limit (suc limit) (start (checks h) h.lost fixed)

  from_turns : (l : ℕ) → turns_of (start (checks h) h.lost fixed) + l ≡ l
  from_turns l = ap (◌+ l) (start_turns (checks h) h.lost fixed) ∙ zero-add l

  pub from_said : (budget limit : ℕ) → let e : End = end_from budget limit in Said (checks h) h.size (rule_of h) budget limit e.word e.state
  from_said budget limit =
      run_said (checks h) h.size (rule_of h) budget limit (rule_of_lem h) limit (start (checks h) h.lost fixed) (from_turns limit)

  pub from_larger : (b b' l l' : ℕ) → b ≤ b' → l ≤ l' → (finished? (end_from b l).word ≡ true) ⊎ ((end_from b l).word ≡ None) → end_from b' l' ≡ end_from b l
  from_larger b b' l l' more-guesses more-turns ended =
      larger (checks h) h.size (rule_of h) (rule_of_lem h) b b' l l' more-guesses more-turns (suc l) (suc l') (start (checks h) h.lost fixed)
      (from_turns (suc l)) (from_turns (suc l')) (start_few b (checks h) h.lost fixed) (settled_word _ ended)

module _ (h : Half) (budget limit : ℕ) where
  half_good : Good (checks h) h.lost (fixed_of h) (stage_of (decoded h budget limit))
  unfolding decoded
  half_good =
      run_keeps (checks h) h.size (rule_of h) budget limit (Good (checks h) h.lost (fixed_of h))
      (λ st u. turn_good (checks h) h.lost (fixed_of h) h.size (rule_of h) (rule_of_lem h) st) (suc limit) (start_of h)
      (start_good (checks h) h.lost (fixed_of h))

  half_few : FewAt budget (stage_of (decoded h budget limit))
  unfolding decoded
  half_few =
      run_keeps (checks h) h.size (rule_of h) budget limit (FewAt budget) (λ st u few. few_turn (checks h) h.size (rule_of h) budget limit st few u)
      (suc limit) (start_of h) (start_few budget (checks h) h.lost (fixed_of h))

  pub half_said : let e : End = decoded h budget limit in Said (checks h) h.size (rule_of h) budget limit e.word e.state
  unfolding decoded
  half_said = from_said h (fixed_of h) budget limit

----------------------------------------------------------------------
-- Demand 3: fillings and classes

-- The state that a half shows, if it is not none.
abbrev pub as_state : Shown → State
as_state s = record { mark = s.mark; forms = record { form = s.form; live = s.report.live }; turns = 0 }

shown_good : (h : Half) (w : Word) (st : State) → none? w ≡ false
    → Good (checks h) h.lost (fixed_of h) (stage_of (record { word = w; state = st }))
    → Good (checks h) h.lost (fixed_of h) (on (as_state (shown h.size (record { word = w; state = st }))))
unfolding shown
shown_good h Certain st e v = v
shown_good h Unsure st e v = v
shown_good h None st e v = never refl e
shown_good h Spent st e v = v
shown_good h Stopped st e v = v

pub outcome_good : (h : Half) (budget limit : ℕ) → ((outcome h budget limit).report.word ≡ None → ⊥)
    → Good (checks h) h.lost (fixed_of h) (on (as_state (outcome h budget limit)))
unfolding shown
outcome_good h budget limit some_word =
    let e = decoded h budget limit in
    shown_good h e.word e.state (not_none e.word some_word) (half_good h budget limit)

pub fillings : FillingsLaw
unfolding FillingsLaw
fillings h obeys budget limit some_word = all_of (outcome h budget limit) (outcome_good h budget limit some_word)
  where
    all_of : (s : Shown) → Good (checks h) h.lost (fixed_of h) (on (as_state s)) → Fillings h s
    all_of s v =
        record {
          are = λ g. record {
            settled = λ q t. ((v.sound g).inside q t, bit (is_open s.mark q) (λ u. never t (v.blank q u g)) (λ u. u));
            zeros = (v.sound g).zeros;
            satisfies = λ c m e. (v.sound g).reads c (m, e);
          };
          all = λ x f.
              let z = v.whole x (record { inside = λ q t. (f.settled q t).0; zeros = f.zeros; reads = λ c r. f.satisfies c r.0 r.1 }) in (
                z.0,
                λ q. bit (is_open s.mark q)
                    (λ t. bit (x q) (λ u. never t (f.settled q u).1) (λ u. u ∙ sym (v.blank q t z.0))) (z.1 q),
              );
          once = λ g g' e. guess_once g g' (v.once g g' e);
        }
      where
        guess_once : (g g' : Form) → ((k : ℕ) → suc k ≤ s.report.live → g (suc k) ≡ g' (suc k))
            → (k : ℕ) → 1 ≤ k → k ≤ s.report.live → g k ≡ g' k
        guess_once g g' f zero a b = absurd (not-suc-le-zero a)
        guess_once g g' f (suc k) a b = f k b

module _ (h : Half) (obeys : Obeys h) where
  pub even : Commuting h.others (checks h)
  even = commuting h.others 0 h.lit h.unread h.rows obeys.commute

  -- No open qubit below n: none at all.
  pub shut_all : (st : State) → Good (checks h) h.lost (fixed_of h) (on st) → none_open (checks h) h.size (rule_of h) st ≡ true
      → (q : ℕ) → is_open st.mark q ≡ false
  shut_all st v t q =
      bit (is_open st.mark q) (λ e. not_out (is_open st.mark q) (below_out h.size _ t q (obeys.lost_below q (v.open_lost q e)))) (λ e. e)

pub classes : ClassesLaw
unfolding ClassesLaw
classes h obeys budget limit some_word shut =
    classes_one h.size (checks h) h.others h.lost obeys.others_below obeys.lost_below (even h obeys)
    (as_state (outcome h budget limit)) (outcome_good h budget limit some_word) shut

----------------------------------------------------------------------
-- Demand 2

module _ (h : Half) (obeys : Obeys h) (budget limit : ℕ) where
  abbrev Ended : Word → State → Type 0
  Ended w st =
      Good (checks h) h.lost (fixed_of h) (stage_of (record { word = w; state = st })) × Said (checks h) h.size (rule_of h) budget limit w st

  abbrev show : Word → State → Shown
  show w st = shown h.size (record { word = w; state = st })

  abbrev AllDiffer : Type 0
  AllDiffer = (x y : Qubits) → FitsHalf h x → FitsHalf h y → Differ h.others x y

  module _ (st : State) (v : Good (checks h) h.lost (fixed_of h) (on st)) (t : none_open (checks h) h.size (rule_of h) st ≡ true) where
    finished_flips : FitsHalf h (λ q. filling st.forms.live st.forms.form (λ k. false) q)
    finished_flips =
        values_fit h.size (checks h) h.others h.lost obeys.others_below obeys.lost_below (even h obeys) st v
        (shut_all h obeys st v t) (λ k. false)

    finished_certain : st.forms.live ≡ 0 → AllDiffer
    finished_certain =
        certain_right h.size (checks h) h.others h.lost obeys.others_below obeys.lost_below (even h obeys) st v (shut_all h obeys st v t)

    finished_unsure : (m : ℕ) → st.forms.live ≡ suc m → AllDiffer → ⊥
    finished_unsure =
        unsure_right h.size (checks h) h.others h.lost obeys.others_below obeys.lost_below (even h obeys) st v (shut_all h obeys st v t)

  flips_fit : (w : Word) (st : State) → Ended w st → finished? w ≡ true → FitsHalf h (show w st).flip
  unfolding shown
  flips_fit Certain st z e = finished_flips st z.0 z.1.0
  flips_fit Unsure st z e = finished_flips st z.0 z.1.0
  flips_fit None st z e = never e refl
  flips_fit Spent st z e = never e refl
  flips_fit Stopped st z e = never e refl

  certain_is : (w : Word) (st : State) → Ended w st → finished? w ≡ true → (w ≡ Certain) ↔ AllDiffer
  certain_is Certain st z e = (λ i. finished_certain st z.0 z.1.0 z.1.1, λ a. refl)
  certain_is Unsure st z e =
      (λ i. let j : ◌≡◌ {A = Bool} true false = cc in never refl j, λ a. absurd (finished_unsure st z.0 z.1.0 z.1.1.0 z.1.1.1 a))
  certain_is None st z e = never e refl
  certain_is Spent st z e = never e refl
  certain_is Stopped st z e = never e refl

  none_is : (w : Word) (st : State) → Ended w st → (w ≡ Spent → ⊥) → (w ≡ Stopped → ⊥) → (w ≡ None) ↔ ((x : Qubits) → FitsHalf h x → ⊥)
  none_is Certain st z a b = (λ i. absurd (is_none Certain refl i), λ f. absurd (f _ (finished_flips st z.0 z.1.0)))
  none_is Unsure st z a b = (λ i. absurd (is_none Unsure refl i), λ f. absurd (f _ (finished_flips st z.0 z.1.0)))
  none_is None st z a b =
      (λ i. failed_fits h.size (checks h) h.others h.lost obeys.others_below obeys.lost_below (even h obeys) st z.0, λ f. refl)
  none_is Spent st z a b = absurd (a refl)
  none_is Stopped st z a b = absurd (b refl)

  spent_is : (w : Word) (st : State) → Ended w st → w ≡ Spent
      → (st.forms.live ≡ budget) × (dangling (is_open (show w st).mark) (checks h) ≡ none)
  unfolding shown
  spent_is Certain st z e = let j : ◌≡◌ {A = Bool} true false = cc in never refl j
  spent_is Unsure st z e = let j : ◌≡◌ {A = Bool} true false = cc in never refl j
  spent_is None st z e = let j : ◌≡◌ {A = Bool} true false = cc in never refl j
  spent_is Spent st z e = (z.1.1, z.1.0)
  spent_is Stopped st z e = let j : ◌≡◌ {A = Bool} true false = cc in never refl j

  stopped_is : (w : Word) (st : State) → Ended w st → w ≡ Stopped → st.turns ≡ limit
  stopped_is Certain st z e = let j : ◌≡◌ {A = Bool} true false = cc in never refl j
  stopped_is Unsure st z e = let j : ◌≡◌ {A = Bool} true false = cc in never refl j
  stopped_is None st z e = let j : ◌≡◌ {A = Bool} true false = cc in never refl j
  stopped_is Spent st z e = let j : ◌≡◌ {A = Bool} true false = cc in never refl j
  stopped_is Stopped st z e = z.1

pub verdict : VerdictLaw
unfolding VerdictLaw shown
verdict h obeys budget limit =
    let e = decoded h budget limit in
    let z : Ended h obeys budget limit e.word e.state = (half_good h budget limit, half_said h budget limit) in
    record {
      flips = flips_fit h obeys budget limit e.word e.state z;
      certain = certain_is h obeys budget limit e.word e.state z;
      fitting = none_is h obeys budget limit e.word e.state z;
      spent = spent_is h obeys budget limit e.word e.state z;
      stopped = stopped_is h obeys budget limit e.word e.state z;
    }

----------------------------------------------------------------------
-- Demand 3: budgets

pub budgets : BudgetsLaw
unfolding BudgetsLaw shown decoded
budgets h obeys b b' l l' more-guesses more-turns ended = ap (shown h.size) (from_larger h (fixed_of h) b b' l l' more-guesses more-turns ended)

----------------------------------------------------------------------
-- Turns and counts

abbrev Stepped : Half → Stage → Type 0
Stepped h s = s ≡ turned h (turns_of s) (start_of h)

stepped_turn : (h : Half) (st : State) → Stepped h (on st) → Stepped h (turn (checks h) h.size (rule_of h) st)
stepped_turn h st e =
    ⊎_elim (λ c. ap (turn_of h) e ∙ ap (λ (k : ℕ). turned h k (start_of h)) (sym c)) (λ same. subst (Stepped h) (sym same) e)
    (turn_either (checks h) h.size (rule_of h) st)

module _ (h : Half) (budget limit : ℕ) where
  keeps : (P : Stage → Type 0) → ((st : State) → P (on st) → P (turn (checks h) h.size (rule_of h) st)) → P (start_of h)
      → P (stage_of (decoded h budget limit))
  unfolding decoded
  keeps P turns begins = run_keeps (checks h) h.size (rule_of h) budget limit P (λ st u. turns st) (suc limit) (start_of h) begins

half_blank : (h : Half) (budget limit : ℕ) → BlankAt (stage_of (decoded h budget limit))
half_blank h budget limit =
    keeps h budget limit BlankAt (blank_turn (checks h) h.size (rule_of h)) (blank_start (checks h) h.lost (fixed_of h))

-- What holds of a stage by its state alone holds of the state that a half ended in.
pub of_state : (P : State → Type 0) (Q : Stage → Type 0) → ((st : State) → Q (on st) → P st) → ((st : State) → Q (failed st) → P st)
    → (e : End) → Q (stage_of e) → P e.state
of_state P Q f g e = by (none? e.word) refl
  where
    by : (b : Bool) → none? e.word ≡ b → Q (stage_of e) → P e.state
    by true i q = g e.state (rw i at q)
    by false i q = f e.state (rw i at q)

pub counts : CountsLaw
unfolding CountsLaw
counts h obeys budget limit =
    record {
      steps = rw (← turns_of_lem) (keeps h budget limit (Stepped h) (stepped_turn h) (sym (ap (λ (k : ℕ). turned h k (start_of h)) (start_turns (checks h) h.lost (fixed_of h)))));
      turns = counted.made;
      left = counted.open_left;
      unlost = counted.unlost;
      fixed = counted.is_fixed_lem;
      blank = of_state (λ st. BlankAt (on st)) BlankAt (λ st b. b) (λ st b q z k. ap (λ (fs : Forms). fs.form q k) b) e (half_blank h budget limit);
    }
  where
    e : End
    e = decoded h budget limit

    left : ℕ
    left = tally h.size (λ q. h.lost q && not (fixed_of h q))

    counted : Counted h.size left h.lost (fixed_of h) e.state.mark e.state.turns
    counted =
        of_state (λ st. Counted h.size left h.lost (fixed_of h) st.mark st.turns) (CountedAt h.size left h.lost (fixed_of h)) (λ st c. c) (λ st c. c) e
        (keeps h budget limit (CountedAt h.size left h.lost (fixed_of h))
        (counted_turn (checks h) h.size (rule_of h) (rule_of_lem h) left h.lost (fixed_of h))
        (counted_start (checks h) h.size h.lost (fixed_of h) obeys.lost_below))

    turns_of_lem : turns_of (stage_of e) ≡ e.state.turns
    turns_of_lem = by (none? e.word) refl
      where
        by : (b : Bool) → none? e.word ≡ b → turns_of (stage_of e) ≡ e.state.turns
        by true i = rw i
        by false i = rw i

pub counted : CountedLaw
unfolding CountsLaw CountedLaw shown
counted h obeys budget limit =
    let c = counts h obeys budget limit in
    record {
      state = (decoded h budget limit).state;
      steps = sym c.steps;
      fixed = refl;
      turns = c.turns;
      guesses = refl;
      live = refl;
      left = c.left;
      marks = λ e q. rw e;
      forms = λ e q k. rw e;
    }

----------------------------------------------------------------------
-- Lists

pub emptied : EmptiedLaw
unfolding EmptiedLaw shown
emptied h budget limit =
    record {
      none_live = λ i. none_live e.word e.state i (half_blank h budget limit);
      none_marks = λ i q. rw (ap none? i);
      none_forms = λ i q k. rw (ap none? i);
      unfinished = λ i q. rw i;
    }
  where
    e : End
    e = decoded h budget limit

    none_live : (w : Word) (st : State) → w ≡ None → BlankAt (stage_of (record { word = w; state = st })) → st.forms.live ≡ 0
    none_live w st i b =
        let c : BlankAt (failed st) = subst (λ (x : Word). BlankAt (stage_of (record { word = x; state = st }))) i b in ap (λ (fs : Forms). fs.live) c

----------------------------------------------------------------------
-- How far forms reach

pub reach : ReachLaw
unfolding ReachLaw shown
reach h budget limit = record { live = few (none? e.word) refl; forms = top (none? e.word) refl }
  where
    e : End
    e = decoded h budget limit

    few : (b : Bool) → none? e.word ≡ b → e.state.forms.live ≤ budget
    few true i = let z : BlankAt (failed e.state) = rw i at (half_blank h budget limit) in rw (ap (λ (fs : Forms). fs.live) z) zero-le
    few false i = rw i at (half_few h budget limit)

    top : (b : Bool) → none? e.word ≡ b → (q k : ℕ) → e.state.forms.live < k → (not (none? e.word) && e.state.forms.form q k) ≡ false
    top true i q k l = rw i
    top false i q k l =
        let z : Good (checks h) h.lost (fixed_of h) (on e.state) = rw i at (half_good h budget limit) in rw i (z.top q k l)
