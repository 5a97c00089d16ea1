-- Each class has one candidate: values of the live guesses are the numbers below 2^live. Assumes nothing.
use mathlib.Core.Path.{◌≡◌, refl, sym, ap, ◌∙◌, subst, fun_ext}
use mathlib.Core.Bool.{true, false}
use Prim.Native.Nat.{ℕ, suc, ◌^◌, ◌≤◌, ◌<◌}
use native.Mathlib.Omega.{arith}
use Rattle.binary.specs.Meaning.{Qubits, Differ}
use Rattle.binary.specs.Words.{number_of}
use Rattle.binary.proofs.Bits.{never}
use Rattle.binary.proofs.WordBits.{bit_zero}
use Rattle.binary.proofs.NumberBits.{number_few, number_bit, same_bits}
use Rattle.machine.specs.declared.Word.{Word}
use Rattle.machine.specs.declared.Word.TheVariants.{Certain, Unsure, None, Spent, Stopped}
use Rattle.machine.specs.Words.{finished?}
use Rattle.machine.specs.Machine.{Form, State, on, Half, checks, fixed_of, decoded, is_open}
use Rattle.machine.specs.Report.{Shown, shown, outcome}
use Rattle.machine.specs.Demands.{fills, FillingsLaw, ClassesLaw}
use Rattle.candidates_meaning.specs.Candidates.{choice, candidate_of, CandidatesLaw}
use Rattle.machine.proofs.Stages.{Good}
use Rattle.machine.proofs.Values.{value_same}
use Rattle.machine.proofs.Verdicts.{values_fit}
use Rattle.machine.proofs.Demands.{half_said, as_state, outcome_good, even, fillings, classes}
use Rattle.machine.proofs.Finished.{certain_none, over_shut_all}

----------------------------------------------------------------------
-- Values of the live guesses as a number

-- The number of a choice.
abbrev chosen : ℕ → Form → ℕ
chosen live g = number_of live (λ i. g (suc i))

choice_is : (s : Shown) (g : Form) (q : ℕ) → candidate_of s (chosen s.report.live g) q ≡ fills s g q
choice_is s g q =
    value_same s.report.live (s.form q) (choice (chosen s.report.live g)) g (number_bit s.report.live (λ i. g (suc i)))

-- Two numbers that choose alike are equal.
choice_once : (live c c' : ℕ) → c < 2 ^ live → c' < 2 ^ live → ((k : ℕ) → 1 ≤ k → k ≤ live → choice c k ≡ choice c' k) → c ≡ c'
choice_once live c c' i j e = same_bits live c c' i j (λ k l. e (suc k) (omega arith) (omega arith))

----------------------------------------------------------------------
-- A finished half

module _ (h : Half) (budget limit : ℕ) where
  flips_off : (w : Word) (st : State) → finished? w ≡ true → let s : Shown = shown h.size (record { word = w; state = st }) in
      (q : ℕ) → candidate_of s 0 q ≡ s.flip q
  unfolding shown
  flips_off Certain st e q = value_same st.forms.live (st.forms.form q) (choice 0) (λ k. false) (λ i l. bit_zero i)
  flips_off Unsure st e q = value_same st.forms.live (st.forms.form q) (choice 0) (λ k. false) (λ i l. bit_zero i)
  flips_off None st e q = never e refl
  flips_off Spent st e q = never e refl
  flips_off Stopped st e q = never e refl

pub candidates : CandidatesLaw
unfolding CandidatesLaw FillingsLaw ClassesLaw shown
candidates h obeys budget limit over =
    record {
      fit = λ c l. values_fit h.size (checks h) h.others h.lost obeys.others_below obeys.lost_below (even h obeys) (as_state s) good shut (choice c);
      once = λ e f.
          let z = classes h obeys budget limit some_word shut e f in
          let c : ℕ = chosen live z.0 in
          let same : candidate_of s c ≡ fills s z.0 = fun_ext (choice_is s z.0) in (
            c,
            number_few live (λ i. z.0 (suc i)),
            subst (Differ h.others e) (sym same) z.1,
            λ c' l d. choice_once live c' c l (number_few live (λ i. z.0 (suc i)))
                ((fillings h obeys budget limit some_word).once (choice c') (choice c) (λ q. z.2 (choice c') d q ∙ ap (λ (x : Qubits). x q) (sym same))),
          );
      certain = λ e. ap (λ (x : ℕ). 2 ^ x) (no_guess e);
      correction = off;
    }
  where
    s : Shown
    s = outcome h budget limit

    live : ℕ
    live = s.report.live

    some_word : s.report.word ≡ None → ⊥
    some_word e = never over (ap finished? e)

    good : Good (checks h) h.lost (fixed_of h) (on (as_state s))
    good = outcome_good h budget limit some_word

    shut : (q : ℕ) → is_open s.mark q ≡ false
    shut = over_shut_all h obeys budget limit over

    no_guess : s.report.word ≡ Certain → live ≡ 0
    no_guess e = certain_none h budget limit (decoded h budget limit).word (decoded h budget limit).state e (half_said h budget limit)

    off : (q : ℕ) → candidate_of s 0 q ≡ s.flip q
    off = flips_off h budget limit (decoded h budget limit).word (decoded h budget limit).state over
