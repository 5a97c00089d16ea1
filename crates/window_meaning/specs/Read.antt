-- A read of the last 256 reports (document 02, request h), what it promises.
--   counted       of any entries: how many had each word, and the sums of turns, guesses and live
--   window_number  the number of a refusal of a read
--   window_answer  the answer to a read, for every input
use Rattle.std.specs.Prelude.{cond, List, ℕ, zero, suc, ◌+◌, eqb, ltb, length, Result, Ok, Err}
use Rattle.machine.specs.declared.Word.{Word}
use Rattle.machine.specs.declared.Word.TheVariants.{Certain, Unsure, None, Spent, Stopped}
use Rattle.machine.specs.Lists.{digit}
use Rattle.records.specs.declared.Pauli.{Pauli}
use Rattle.records.specs.declared.Pauli.TheVariants.{X, Z}
use Rattle.records.specs.Window.{kept_of, word_number, Entry, entry_at}
use Rattle.window_meaning.specs.declared.HalfCounts.{HalfCounts}
use Rattle.window_meaning.specs.declared.Counts.{Counts}
use Rattle.window_meaning.specs.declared.WindowRefusal.{WindowRefusal}
use Rattle.window_meaning.specs.declared.WindowRefusal.TheVariants.{Short}

abbrev pub had : Word → Entry → ℕ
had w e = digit (eqb e.word (word_number w))

-- sum f: f summed over the entries.
abbrev pub counted : ((Entry → ℕ) → ℕ) → HalfCounts
counted sum = record {
  certain = sum (had Certain);
  unsure = sum (had Unsure);
  none = sum (had None);
  spent = sum (had Spent);
  stopped = sum (had Stopped);
  turns = sum (λ e. e.turns);
  guesses = sum (λ e. e.guesses);
  live = sum (λ e. e.live);
}

unfoldable pub sum_below : (ℕ → ℕ) → ℕ → ℕ
sum_below f zero = 0
sum_below f (suc k) = sum_below f k + f k

-- Over the first k places of the list.
unfoldable pub counts_at : Pauli → ℕ → List ℕ → HalfCounts
counts_at b k l = counted (λ f. sum_below (λ p. f (entry_at b p l)) k)

abbrev pub window_number : WindowRefusal → ℕ
window_number Short = 12

-- m: the number of reports in the state.
unfoldable pub window_answer : ℕ → List ℕ → Result Counts WindowRefusal
window_answer m l =
    cond (ltb (length l) 2560) (Err Short) (Ok (record { x = counts_at X (kept_of m) l; z = counts_at Z (kept_of m) l }))
