-- The lines of an answer (document 01, "The program shots"), in ASCII.
--   line_end   a line feed
--   word_text  a half's word behind a blank
--   flip      a blank and the qubit's number, where it is flipped
--   flips     a blank and the number of each flipped qubit, ascending; q is the first one's number
--   flip_text  the flips of a finished half; count_text: its four counts
--   half_line  the line of a half: its letter, word and four counts, and for a finished half its flips
--   code_line, refused_line  the lines of a complete code and of a refusal
--   lines_of   the lines of an answer to a record of this kind, with the corrections of the halves and the number of qubits
--   room_for   no answer is longer: two lines, with a blank and five digits a flip
--   Lined     a text was put from element `at` on, and nothing else changed; or there was no room for so many bytes, and nothing did
use Rattle.std.specs.Prelude.{◌≡◌, Bool, cond, List, [], ◌∷◌, ◌++◌, ℕ, suc, ◌+◌, ◌*◌, ◌≤◌, min, eqb, leb, length, take, Option, None, is_some, IfSome}
use Rattle.std.proofs.lemmas.List.Edits.{sets}
use Rattle.machine.specs.declared.Word.{Word}
use Rattle.machine.specs.declared.Word.TheVariants.{Certain, Unsure, Spent, Stopped}
use Rattle.machine.specs.declared.HalfReport.{HalfReport}
use Rattle.machine.specs.Words.{finished?}
use Rattle.records.specs.declared.Sizes.{Sizes}
use Rattle.records.specs.declared.Refusal.{Refusal}
use Rattle.records.specs.declared.Answer.{Answer}
use Rattle.records.specs.declared.Answer.TheVariants.{Refused, Taken, Complete, Decoded}
use Rattle.records.specs.Table.{refusal_number}
use Rattle.text.specs.Text.{number}

-- A line feed.
abbrev pub line_end : List ℕ
line_end = 10 ∷ []

-- " certain", " unsure", " none", " spent", " stopped".
abbrev pub word_text : Word → List ℕ
word_text Certain = 32 ∷ 99 ∷ 101 ∷ 114 ∷ 116 ∷ 97 ∷ 105 ∷ 110 ∷ []
word_text Unsure = 32 ∷ 117 ∷ 110 ∷ 115 ∷ 117 ∷ 114 ∷ 101 ∷ []
word_text Word.None = 32 ∷ 110 ∷ 111 ∷ 110 ∷ 101 ∷ []
word_text Spent = 32 ∷ 115 ∷ 112 ∷ 101 ∷ 110 ∷ 116 ∷ []
word_text Stopped = 32 ∷ 115 ∷ 116 ∷ 111 ∷ 112 ∷ 112 ∷ 101 ∷ 100 ∷ []

-- A qubit's part of the flips: an element 0 of the correction flips nothing.
abbrev pub flip : ℕ → ℕ → List ℕ
flip q c = cond (eqb c 0) [] (number q)

unfoldable pub flips : ℕ → List ℕ → List ℕ
flips q [] = []
flips q (c ∷ cs) = flip q c ++ flips (suc q) cs

-- " flip", and the flips of the first n qubits.
abbrev pub flip_text : Bool → List ℕ → ℕ → List ℕ
flip_text finished x n = cond finished ((32 ∷ 102 ∷ 108 ∷ 105 ∷ 112 ∷ []) ++ flips 0 (take n x)) []

abbrev pub count_text : HalfReport → List ℕ
count_text h = number h.fixed ++ number h.turns ++ number h.guesses ++ number h.live

unfoldable pub half_line : ℕ → HalfReport → List ℕ → ℕ → List ℕ
half_line letter h x n = (letter ∷ []) ++ word_text h.word ++ count_text h ++ flip_text (finished? h.word) x n ++ line_end

-- "code n X Z".
unfoldable pub code_line : Sizes → List ℕ
code_line s = (99 ∷ 111 ∷ 100 ∷ 101 ∷ []) ++ number s.n ++ number s.x ++ number s.z ++ line_end

-- "refused number kind".
unfoldable pub refused_line : Refusal → ℕ → List ℕ
refused_line r kind = (114 ∷ 101 ∷ 102 ∷ 117 ∷ 115 ∷ 101 ∷ 100 ∷ []) ++ number (refusal_number r) ++ number kind ++ line_end

-- A record that was only taken has no line.
unfoldable pub lines_of : ℕ → Answer → List ℕ → List ℕ → ℕ → List ℕ
lines_of kind (Refused r) x z n = refused_line r kind
lines_of kind Taken x z n = []
lines_of kind (Complete s) x z n = code_line s
lines_of kind (Decoded r) x z n = half_line 88 r.x x n ++ half_line 90 r.z z n

unfoldable pub room_for : ℕ → List ℕ → List ℕ → ℕ
room_for n x z = 256 + 6 * (min n (length x) + min n (length z))

pub record Lined (text : List ℕ) (most at : ℕ) (old new : List ℕ) (r : Option ℕ) : Type 0 where
  pub told : is_some r ≡ leb (at + most) (length old)
  pub put : IfSome r (λ e. (new ≡ sets old at text) × (e ≡ at + length text) × (e ≤ length old))
  pub none : r ≡ None → new ≡ old
