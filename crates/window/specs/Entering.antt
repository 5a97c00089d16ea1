-- A report entered into the window's list.
--   HalfIn  the five numbers of a half are written from an element on
--   Enters  what entering a report promises, for every input
use Rattle.std.specs.Prelude.{◌≡◌, Bool, true, false, ◌⊎◌, List, ℕ, ◌+◌, ◌≤◌, ◌<◌, ltb, length, get_or}
use Rattle.machine.specs.declared.HalfReport.{HalfReport}
use Rattle.records.specs.declared.Report.{Report}
use Rattle.records.specs.Window.{one_more, place_of, entry_of, entry_from, Entered}

pub record HalfIn (k : ℕ) (h : HalfReport) (old new : List ℕ) : Type 0 where
  pub long : length new ≡ length old
  pub entry : entry_from k new ≡ entry_of h
  pub rest : (j : ℕ) → (j < k) ⊎ (k + 5 ≤ j) → get_or new j 0 ≡ get_or old j 0

-- m: the number of reports that came before; m': that with this one. A short list is not written, and the report does not count.
abbrev pub EntersIf : Bool → ℕ → Report → List ℕ → List ℕ → ℕ → Type 0
EntersIf true m r old new m' = (new ≡ old) × (m' ≡ m)
EntersIf false m r old new m' = Entered (place_of m) r old new × (m' ≡ one_more m)

abbrev pub Enters : ℕ → Report → List ℕ → List ℕ → ℕ → Type 0
Enters m r old new m' = EntersIf (ltb (length old) 2560) m r old new m'
