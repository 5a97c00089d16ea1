-- A finished half: no qubit is open, and a certain one has no live guess. Assumes nothing.
use mathlib.Core.Path.{◌≡◌, ap, ◌∙◌, subst}
use mathlib.Core.Bool.{Bool, true, false, not, cond}
use Prim.Native.Nat.{ℕ}
use lib.Dec.{eqb}
use Rattle.binary.specs.Bits.{below}
use Rattle.binary.proofs.Bits.{never}
use Rattle.machine.specs.declared.Word.{Word}
use Rattle.machine.specs.declared.Word.TheVariants.{Certain}
use Rattle.machine.specs.Words.{finished?}
use Rattle.machine.specs.Machine.{State, Half, checks, rule_of, decoded, is_open, none_open}
use Rattle.machine.specs.Report.{shown, outcome}
use Rattle.machine.specs.Demands.{Obeys}
use Rattle.machine.proofs.Runs.{Said, said_shut}
use Rattle.machine.proofs.Demands.{not_none, half_said, as_state, outcome_good, shut_all}

module _ (h : Half) (budget limit : ℕ) where
  over_shut : (w : Word) (st : State) → finished? w ≡ true → Said (checks h) h.size (rule_of h) budget limit w st
      → none_open (checks h) h.size (rule_of h) (as_state (shown h.size (record { word = w; state = st }))) ≡ true
  unfolding shown
  over_shut w st e z =
      ap (λ (b : Bool). below h.size (λ q. not (eqb (cond b 0 (st.mark q)) 4))) (not_none w (λ i. never e (ap finished? i)))
      ∙ said_shut (checks h) h.size (rule_of h) budget limit w st e z

  pub certain_none : (w : Word) (st : State) → w ≡ Certain → Said (checks h) h.size (rule_of h) budget limit w st → st.forms.live ≡ 0
  certain_none w st e z = (subst (λ (x : Word). Said (checks h) h.size (rule_of h) budget limit x st) e z).1

-- A finished half shows no open qubit.
pub over_shut_all : (h : Half) → Obeys h → (budget limit : ℕ) → finished? (outcome h budget limit).report.word ≡ true
    → (q : ℕ) → is_open (outcome h budget limit).mark q ≡ false
unfolding shown
over_shut_all h obeys budget limit over =
    shut_all h obeys (as_state (outcome h budget limit)) (outcome_good h budget limit (λ e. never over (ap finished? e)))
    (over_shut h budget limit (decoded h budget limit).word (decoded h budget limit).state over (half_said h budget limit))
