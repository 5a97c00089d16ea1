-- What is done to the words of forms: of the first n qubits, when a guess, bit k of word v, is replaced, and of one qubit, when its form is put.
--   Changed      each form's words are changed alike; elements past 4 × n stay
--   adding       a word of the side added where the guess is; adding_below: all words of the side below a number
--   replacing    in the word of the guess: the guess replaced by the rest of the side, later bits moved down
--   moving_down   a word moved down one bit, its lowest bit to the top of the word below; moved_to: all words above v, up to one
--   WordsPut     the first words of one qubit's form are written; every other element stays
use Rattle.std.specs.Prelude.{◌≡◌, ◌&&◌, cond, ◌⊎◌, List, ℕ, suc, ◌+◌, ◌*◌, ◌≤◌, ◌<◌, eqb, ltb, leb, length, get_or}
use Rattle.binary.specs.Bits.{◌⊕◌}
use Rattle.binary.specs.Words.{bit}
use Rattle.machine.specs.Machine.{Form, replace}
use Rattle.forms.specs.Words.{Words, words_in}

pub record Changed (n : ℕ) (change : Words → Words) (forms forms' : List ℕ) : Type 0 where
  pub done : (q : ℕ) → q < n → words_in forms' q ≡ change (words_in forms q)
  pub rest : (i : ℕ) → 4 * n ≤ i → get_or forms' i 0 ≡ get_or forms i 0
  pub long : length forms' ≡ length forms

unfoldable pub adding : ℕ → ℕ → ℕ → Form → Words → Words
adding v k u side w t j = w t j ⊕ (eqb t u && w v k && side j)

unfoldable pub adding_below : ℕ → ℕ → ℕ → Words → Words → Words
adding_below v k u side w t j = w t j ⊕ (ltb t u && w v k && side t j)

unfoldable pub replacing : ℕ → ℕ → Form → Words → Words
replacing v k side w t j = cond (eqb t v) (replace k side (w t) j) (w t j)

unfoldable pub moving_down : ℕ → Words → Words
moving_down u w t j = cond (eqb t u) (w t (suc j)) (w t j ⊕ (eqb (suc t) u && eqb j 63 && w u 0))

unfoldable pub moved_to : ℕ → ℕ → Words → Words
moved_to v top w t j = cond (ltb v t && leb t top) (w t (suc j)) (w t j) ⊕ (leb v t && ltb t top && eqb j 63 && w (suc t) 0)

pub record WordsPut (p u : ℕ) (s : Words) (forms forms' : List ℕ) : Type 0 where
  pub put : (t : ℕ) → t < u → (j : ℕ) → bit (get_or forms' (4 * p + t) 0) j ≡ s t j
  pub beside : (i : ℕ) → (i < 4 * p) ⊎ (4 * p + u ≤ i) → get_or forms' i 0 ≡ get_or forms i 0
  pub long : length forms' ≡ length forms
