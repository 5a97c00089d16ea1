-- A half tried as if no qubit were fixed, without a guess: its turns are steps of peeling. Assumes nothing.
use mathlib.Core.Path.{◌≡◌, refl, sym, ap, ◌∙◌, fun_ext, subst}
use mathlib.Core.Bool.{true, false, not}
use mathlib.Core.Logic.{inl}
use mathlib.Core.Option.{Option, none, some}
use mathlib.Core.List.{List}
use Prim.Native.Nat.{ℕ, suc, ◌+◌, ◌≤◌, zero-le}
use native.Mathlib.Numerals.{add-one}
use native.Mathlib.Omega.{arith}
use lib.Dec.{eqb}
use Rattle.binary.specs.Bits.{below}
use Rattle.binary.specs.Meaning.{Qubits, Check}
use Rattle.binary.proofs.Bits.{bit, never, and_in, not_in, not_out, below_in, below_out}
use Rattle.machine.specs.declared.Word.{Word}
use Rattle.machine.specs.declared.Word.TheVariants.{Spent}
use Rattle.machine.specs.Machine.{Forms, blank, State, Stage, on, failed, End, put, is_open, closed?, dangling, some?, side, take_up_all, closing, stage, start_mark, start, turn_by, turn, none_open, Half, checks, rule_of, decoded}
use Rattle.machine.specs.Peeling.{peel_step, peeled, peels_away, tried, TryLaw, LeftLaw}
use Rattle.machine.proofs.Runs.{Said, said_shut, Unsaid, run_keeps}
use Rattle.machine.proofs.Stages.{open_put, unfixed_open}
use Rattle.machine.proofs.Budgets.{FewAt, few_turn}
use Rattle.machine.proofs.Demands.{start_few, end_from, from_said, from_larger, of_state}
use Rattle.machine.proofs.Peeling.{half_unfixed_after, peeled_plus, peeled_less, peeled_stays}

----------------------------------------------------------------------
-- Turns are steps of peeling

-- Each turn made is a step.
abbrev Left : List Check → Qubits → State → Type 0
Left cs lost st = is_open st.mark ≡ peeled cs st.turns lost

abbrev LeftAt : List Check → Qubits → Stage → Type 0
LeftAt cs lost (on st) = Left cs lost st
LeftAt cs lost (failed st) = Left cs lost st

module _ (cs : List Check) (lost : Qubits) where
  left_stage : (mark : ℕ → ℕ) (turns : ℕ) (r : Option Forms) → is_open mark ≡ peeled cs turns lost → LeftAt cs lost (stage mark turns r)
  left_stage mark turns none e = e
  left_stage mark turns (some fs) e = e

  left_start : LeftAt cs lost (start cs lost (λ q. false))
  unfolding start
  left_start =
      left_stage (start_mark lost (λ q. false)) 0 (take_up_all (closed? (is_open (start_mark lost (λ q. false)))) cs blank) (unfixed_open lost)

  next : (o : Qubits) (k : ℕ) (d : ℕ × Check) → o ≡ peeled cs k lost → dangling o cs ≡ some d → put d.0 false o ≡ peeled cs (suc k) lost
  next o k d e i =
      ap (λ (x : Option (ℕ × Check)). peel_step x o) (sym i) ∙ ap (peeled cs 1) e ∙ sym (peeled_plus cs k 1 lost)
      ∙ ap (λ (m : ℕ). peeled cs m lost) (add-one k)

  module _ (n : ℕ) (choose : Qubits → Option ℕ) (limit : ℕ) where
    -- Where no row dangles and no guess is live, the budget is spent.
    left_turn : (st : State) → st.forms.live ≤ 0 → Unsaid cs n choose 0 limit st → Left cs lost st → LeftAt cs lost (turn cs n choose st)
    left_turn st few u e = look (dangling (is_open st.mark) cs) (choose (is_open st.mark)) refl
      where
        look : (d : Option (ℕ × Check)) (p : Option ℕ) → dangling (is_open st.mark) cs ≡ d → LeftAt cs lost (turn_by cs n choose st d p)
        look (some d) p i =
            left_stage (put d.0 2 st.mark) (suc st.turns)
            (take_up_all (closing st.mark (put d.0 2 st.mark)) cs
            (record { form = put d.0 (side st.forms d.1) st.forms.form; live = st.forms.live }))
            (open_put d.0 2 st.mark refl ∙ next (is_open st.mark) st.turns d e i)
        look none p i =
            let z : st.forms.live ≡ 0 = omega arith in
            never (and_in (not_in (ap some? i)) (ap (λ (k : ℕ). eqb k 0) z)) u.free

----------------------------------------------------------------------
-- The laws

module _ (h : Half) (limit : ℕ) where
  tried_left : Left (checks h) h.lost (tried h limit).state
  unfolding tried
  tried_left =
      of_state (Left (checks h) h.lost) (LeftAt (checks h) h.lost) (λ st e. e) (λ st e. e) (end_from h (λ q. false) 0 limit)
      (run_keeps (checks h) h.size (rule_of h) 0 limit (λ s. FewAt 0 s × LeftAt (checks h) h.lost s)
      (λ st u v. (few_turn (checks h) h.size (rule_of h) 0 limit st v.0 u, left_turn (checks h) h.lost h.size (rule_of h) limit st v.0 u v.1))
      (suc limit) (start (checks h) h.lost (λ q. false)) (start_few 0 (checks h) h.lost (λ q. false), left_start (checks h) h.lost)).1

  tried_said : Said (checks h) h.size (rule_of h) 0 limit (tried h limit).word (tried h limit).state
  unfolding tried
  tried_said = from_said h (λ q. false) 0 limit

pub try_law : TryLaw
unfolding TryLaw tried decoded
try_law h obeys budget limit over =
    ap (λ (fixed : Qubits). end_from h fixed budget limit) (fun_ext (half_unfixed_after h obeys e.state.turns away))
    ∙ from_larger h (λ q. false) 0 budget limit limit zero-le (omega arith) (inl over)
  where
    e : End
    e = tried h limit

    away : below h.size (λ q. not (peeled (checks h) e.state.turns h.lost q)) ≡ true
    away =
        ap (λ (o : Qubits). below h.size (λ q. not (o q))) (sym (tried_left h limit))
        ∙ said_shut (checks h) h.size (rule_of h) 0 limit e.word e.state over (tried_said h limit)

-- Further steps change nothing, and a qubit that they leave was left by the first n.
pub left_law : LeftLaw
unfolding LeftLaw peels_away
left_law h limit spent = bit (below n (λ q. not (peeled cs n lost q))) (λ away. never (shut away) s.2) (λ t. t)
  where
    n : ℕ
    n = h.size

    cs : List Check
    cs = checks h

    lost : Qubits
    lost = h.lost

    st : State
    st = (tried h limit).state

    s : Said cs n (rule_of h) 0 limit Spent st
    s = subst (λ (w : Word). Said cs n (rule_of h) 0 limit w st) spent (tried_said h limit)

    same : is_open st.mark ≡ peeled cs st.turns (peeled cs n lost)
    same =
        let e : st.turns + n ≡ n + st.turns = omega arith in
        sym (peeled_stays cs n (is_open st.mark) s.0) ∙ ap (peeled cs n) (tried_left h limit) ∙ sym (peeled_plus cs st.turns n lost)
        ∙ ap (λ (m : ℕ). peeled cs m lost) e ∙ peeled_plus cs n st.turns lost

    shut : below n (λ q. not (peeled cs n lost q)) ≡ true → none_open cs n (rule_of h) st ≡ true
    shut away =
        below_in n _ λ q l. not_in (bit (is_open st.mark q)
        (λ t. never (peeled_less cs st.turns (peeled cs n lost) q (sym (ap (λ (o : Qubits). o q) same) ∙ t)) (not_out _ (below_out n _ away q l))) (λ t. t))
