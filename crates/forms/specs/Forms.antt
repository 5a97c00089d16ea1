-- The forms as a lent list holds them, and what taking up a row does to them.
--   with_live    the forms of the first n qubits, with so many live guesses
--   Topped      no form has a bit above the live guesses
--   Taken       what taking up rows comes to: so many guesses are live, or none: the half ends in none
--   TakenAs     the same as the machine's
--   TakesUp     what `take_up` does: of forms that have no bit above the live guesses, what the machine does
--   PutsSide    what `put_side` does: a row's side becomes a qubit's form; PutsGuess, of `put_guess`: a guess does
use Rattle.std.specs.Prelude.{◌≡◌, Some, None, false, List, ℕ, ◌+◌, ◌*◌, ◌/◌, ◌≤◌, ◌<◌, length, get_or}
use Rattle.std.specs.declared.option.Option.{Option as Answer}
use Rattle.std.proofs.Math.Option.{Option, none, some}
use Rattle.binary.specs.Meaning.{Check}
use Rattle.machine.specs.Machine.{Forms, take_up}
use Rattle.machine.specs.Lists.{forms_of}
use Rattle.forms.specs.Words.{side_in, one_bit}
use Rattle.forms.specs.Changes.{WordsPut}
use Rattle.forms.specs.Sides.{top_word}

abbrev pub with_live : ℕ → List ℕ → ℕ → Forms
with_live n forms live = record { form = forms_of n forms; live = live }

abbrev pub Topped : ℕ → ℕ → List ℕ → Type 0
Topped n live forms = (q k : ℕ) → live < k → forms_of n forms q k ≡ false

abbrev pub Taken : Type 0
Taken = Answer ℕ

abbrev pub TakenAs : ℕ → List ℕ → Option Forms → Taken → Type 0
TakenAs n forms none t = t ≡ None
TakenAs n forms (some fs) t = (t ≡ Some fs.live) × (forms_of n forms ≡ fs.form) × Topped n fs.live forms

-- For every input the list keeps its length and what is past 4 × n. Nothing is written to a list that is too short.
pub record TakesUp (n : ℕ) (c : Check) (live : ℕ) (t : Taken) (forms forms' : List ℕ) : Type 0 where
  pub long : length forms' ≡ length forms
  pub rest : (i : ℕ) → 4 * n ≤ i → get_or forms' i 0 ≡ get_or forms i 0
  pub taken : 4 * n ≤ length forms → Topped n live forms → TakenAs n forms' (take_up (with_live n forms live) c) t
  pub refused : length forms < 4 * n → (t ≡ None) × (forms' ≡ forms)

-- The words that the live guesses reach are written, no other element; nothing where p is n or above or the list is too short.
pub record PutsSide (n : ℕ) (c : Check) (live p : ℕ) (forms forms' : List ℕ) : Type 0 where
  pub long : length forms' ≡ length forms
  pub put : p < n → 4 * n ≤ length forms → WordsPut p (top_word live + 1) (side_in n forms c) forms forms'
  pub refused : (p < n → 4 * n ≤ length forms → ⊥) → forms' ≡ forms

-- The words up to the guess's are written, no other element; nothing where p is n or above, the guess above 255 or the list too short.
pub record PutsGuess (n guess p : ℕ) (forms forms' : List ℕ) : Type 0 where
  pub long : length forms' ≡ length forms
  pub put : p < n → 4 * n ≤ length forms → guess < 256 → WordsPut p (guess / 64 + 1) (one_bit guess) forms forms'
  pub refused : (p < n → 4 * n ≤ length forms → guess < 256 → ⊥) → forms' ≡ forms
