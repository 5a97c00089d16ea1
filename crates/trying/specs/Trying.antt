-- What the try of a half promises: its turns up to the first guess.
--   Given    the marks of a start with so many fixed qubits
--   enough?  whether sizes are in range and lists long enough for a try
--   Tries    the promise of `try_turns`
use Rattle.std.specs.Prelude.{◌≡◌, Bool, false, ◌&&◌, List, ℕ, ◌*◌, ◌≤◌, eqb, leb, length, get_or}
use Rattle.machine.specs.Report.{marked}
use Rattle.machine.specs.Lists.{view}
use Rattle.scans.specs.Rows.{RowLists, GoodRows}
use Rattle.scans.specs.Half.{sized?}
use Rattle.turns.specs.Turns.{Working, Stays, is_guessed}
use Rattle.turns.specs.Runs.{end_of}
use Rattle.trying.specs.declared.TryAnswer.{TryAnswer}
use Rattle.trying.specs.declared.TryAnswer.TheVariants.{Unknown, Left}
use Rattle.trying.specs.Entries.{rows_over}
use Rattle.trying.specs.Turns.{reopened, Reaches}

pub record Given (n fixed : ℕ) (marks : List ℕ) : Type 0 where
  pub unguessed : (q : ℕ) → is_guessed n marks q ≡ false
  pub so_many : fixed ≡ marked n (view n marks) 1

unfoldable pub enough? : ℕ → RowLists → Working → Bool
enough? n c l = sized? n c && leb 10240 (length l.work) && leb n (length l.marks) && leb (4 * n) (length l.forms)

-- Where sizes are in range and lists long enough.
pub record Tried (n : ℕ) (c : RowLists) (limit fixed : ℕ) (old new : Working) (r : TryAnswer) : Type 0 where
  pub stays : Stays n old new
  pub marks : (q : ℕ) → reopened (get_or new.marks q 0) ≡ reopened (get_or old.marks q 0)
  pub within : (made : ℕ) → r ≡ Left made → made ≤ limit
  pub tells : (flat : List ℕ) → let d = rows_over flat c in GoodRows n d → Given n fixed old.marks
      → Reaches n d limit new r (λ budget. end_of n d budget limit old)

-- For every input lists keep their lengths, marks what is past n and forms what is past 4 × n. Where a size is out of range or a list too short, nothing is written. Where nothing is known,
-- marks that had no peeled qubit are as they were. Of good rows and the marks of a start, with every budget: where the half is told to be over, report and lists are
-- those of its end, which is certain; where a qubit is told to be left, the half goes on from the lists as it does from its start, and with budget 0 it is spent.
pub record Tries (n : ℕ) (c : RowLists) (limit fixed : ℕ) (old new : Working) (r : TryAnswer) : Type 0 where
  pub stays : Stays n old new
  pub refused : enough? n c old ≡ false → (r ≡ Unknown) × (new ≡ old)
  pub unknown : r ≡ Unknown → ((q : ℕ) → eqb (view n old.marks q) 2 ≡ false) → view n new.marks ≡ view n old.marks
  pub within : (made : ℕ) → r ≡ Left made → made ≤ limit
  pub tells : (flat : List ℕ) → let d = rows_over flat c in GoodRows n d → Given n fixed old.marks
      → Reaches n d limit new r (λ budget. end_of n d budget limit old)
