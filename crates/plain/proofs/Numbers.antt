-- A state's numbers stand for it again, and a word's number for the word.
use mathlib.Core.Path.{◌≡◌, refl}
use mathlib.Core.Bool.{Bool, true, false}
use Rattle.records.specs.declared.Phase.{Phase}
use Rattle.records.specs.declared.Phase.TheVariants.{Empty, Loading, Ready}
use Rattle.records.specs.declared.State.{State}
use Rattle.machine.specs.declared.Word.TheVariants.{Certain, Unsure, None, Spent, Stopped}
use Rattle.plain.specs.Plain.{phase_number, phase_of, flag_number, flag_of, state_of, plain_state, WordLaw}

phase_back : (p : Phase) → phase_of (phase_number p) ≡ p
phase_back Empty = refl
phase_back Loading = refl
phase_back Ready = refl

flag_back : (b : Bool) → flag_of (flag_number b) ≡ b
flag_back true = refl
flag_back false = refl

pub state_back : (s : State) → state_of (plain_state s) ≡ s
state_back s = rw (phase_back s.phase, flag_back s.clash, flag_back s.spoiled, flag_back s.stale)

pub word_back : WordLaw
unfolding WordLaw
word_back Certain = refl
word_back Unsure = refl
word_back None = refl
word_back Spent = refl
word_back Stopped = refl
