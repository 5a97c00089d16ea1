-- The last 256 reports (document 02, request h): how they are kept.
--   on_reports  what an answer does to what is known of the reports: a decode that is reported enters, an accepted kind 1 empties, all else leaves it
--   one_more    the number of reports that have come, with one more; place_of: the place of the next; kept_of: how many are kept
--   word_number the number of a word
--   Entry      what is kept of a half: the number of its word, and its counts
--   entry_at    the entry of a half in the window's list
--   Entered    a report entered into the list
use Rattle.std.specs.Prelude.{◌≡◌, cond, ◌⊎◌, List, ℕ, suc, ◌+◌, ◌*◌, ◌%◌, ◌≤◌, ◌<◌, ltb, length, get_or}
use Rattle.machine.specs.declared.Word.{Word}
use Rattle.machine.specs.declared.Word.TheVariants.{Certain, Unsure, None, Spent, Stopped}
use Rattle.machine.specs.declared.HalfReport.{HalfReport}
use Rattle.records.specs.declared.Report.{Report}
use Rattle.records.specs.declared.Answer.{Answer}
use Rattle.records.specs.declared.Answer.TheVariants.{Refused, Taken, Complete, Decoded}
use Rattle.records.specs.declared.Pauli.{Pauli}
use Rattle.records.specs.declared.Pauli.TheVariants.{X, Z}
use Rattle.records.specs.Records.{Record, unknown, wrong, size, row, add, report, encodes}

----------------------------------------------------------------------
-- Which answers enter, and which empty

abbrev pub if_accepted {ℓ} : {A : Type ℓ} → Answer → (A → A) → A → A
if_accepted (Refused n) f a = a
if_accepted Taken f a = f a
if_accepted (Complete s) f a = f a
if_accepted (Decoded r) f a = f a

abbrev pub if_reported {ℓ} : {A : Type ℓ} → Answer → (Report → A → A) → A → A
if_reported (Refused n) f a = a
if_reported Taken f a = a
if_reported (Complete s) f a = a
if_reported (Decoded r) f a = f r a

abbrev pub on_reports {ℓ} : {A : Type ℓ} → (A → A) → (Report → A → A) → Record → Answer → A → A
on_reports empties enters unknown said a = a
on_reports empties enters wrong said a = a
on_reports empties enters (size n x z) said a = if_accepted said empties a
on_reports empties enters (row p r) said a = a
on_reports empties enters (add u k) said a = a
on_reports empties enters (report budget limit) said a = if_reported said enters a
on_reports empties enters (encodes k) said a = a

----------------------------------------------------------------------
-- The list

-- After 511 reports the number is 256 again: as many are kept, and the next has the same place.
abbrev pub one_more : ℕ → ℕ
one_more m = cond (ltb m 511) (suc m) 256

-- With 256 in, the oldest leaves.
abbrev pub place_of : ℕ → ℕ
place_of m = m % 256

abbrev pub kept_of : ℕ → ℕ
kept_of m = cond (ltb m 256) m 256

-- 0 is no word's number.
abbrev pub word_number : Word → ℕ
word_number Certain = 1
word_number Unsure = 2
word_number None = 3
word_number Spent = 4
word_number Stopped = 5

pub record Entry : Type 0 where
  pub word : ℕ
  pub fixed : ℕ
  pub turns : ℕ
  pub guesses : ℕ
  pub live : ℕ

abbrev pub entry_of : HalfReport → Entry
entry_of h = record { word = word_number h.word; fixed = h.fixed; turns = h.turns; guesses = h.guesses; live = h.live }

-- A place has ten elements, five of the X half and then five of the Z half.
abbrev pub offset : Pauli → ℕ
offset X = 0
offset Z = 5

-- The five elements from one on.
abbrev pub entry_from : ℕ → List ℕ → Entry
entry_from k l =
    record { word = get_or l k 0; fixed = get_or l (k + 1) 0; turns = get_or l (k + 2) 0; guesses = get_or l (k + 3) 0; live = get_or l (k + 4) 0 }

abbrev pub entry_at : Pauli → ℕ → List ℕ → Entry
entry_at b p l = entry_from (10 * p + offset b) l

-- Both halves enter, each as its own, and no other element is written.
pub record Entered (p : ℕ) (r : Report) (old new : List ℕ) : Type 0 where
  pub long : length new ≡ length old
  pub x : entry_at X p new ≡ entry_of r.x
  pub z : entry_at Z p new ≡ entry_of r.z
  pub rest : (k : ℕ) → (k < 10 * p) ⊎ (10 * p + 10 ≤ k) → get_or new k 0 ≡ get_or old k 0
