-- The reports so far, and the window that holds the last 256 of them (document 02, request h).
--   reports_by   the reports with those of a call: its own comes after them, an accepted kind 1 empties them, a read leaves them
--   reports_of   those since the last accepted kind 1, told from the calls, in the order in which they came
--   last        the last so many of them
--   fresh_count  a fresh count over reports
--   KeptIn      the number in the state and the window's list are those of these reports
--   ReadOf      the answer to a read
use Rattle.std.specs.Prelude.{◌≡◌, cond, List, [], ◌∷◌, ◌++◌, ℕ, ◌+◌, ◌-◌, ◌≤◌, ◌<◌, ltb, length, get_or, drop, Result, Ok, Err}
use Rattle.machine.specs.declared.HalfReport.{HalfReport}
use Rattle.records.specs.declared.Report.{Report}
use Rattle.window_meaning.specs.declared.HalfCounts.{HalfCounts}
use Rattle.window_meaning.specs.declared.Counts.{Counts}
use Rattle.window_meaning.specs.declared.WindowRefusal.{WindowRefusal}
use Rattle.window_meaning.specs.declared.WindowRefusal.TheVariants.{Short}
use Rattle.records.specs.declared.Pauli.{Pauli}
use Rattle.records.specs.declared.Pauli.TheVariants.{X, Z}
use Rattle.records.specs.Records.{record_of}
use Rattle.records.specs.Window.{on_reports, place_of, kept_of, entry_of, entry_at}
use Rattle.window_meaning.specs.Read.{counted}
use Rattle.claim.specs.Calls.{Call, step, look}

----------------------------------------------------------------------
-- The reports

abbrev pub reports_by : List Report → Call → List Report
reports_by rs (step k) = on_reports (λ rs. []) (λ r rs. rs ++ (r ∷ [])) (record_of k.bytes) k.reply.answer rs
reports_by rs (look a) = rs

unfoldable pub reports_of : List Report → List Call → List Report
reports_of rs [] = rs
reports_of rs (k ∷ ks) = reports_of (reports_by rs k) ks

-- All of them if there are fewer.
abbrev pub last : ℕ → List Report → List Report
last n rs = drop (length rs - n) rs

abbrev pub report_for : Pauli → Report → HalfReport
report_for X r = r.x
report_for Z r = r.z

----------------------------------------------------------------------
-- A fresh count

abbrev pub sum_over : (Report → ℕ) → List Report → ℕ
sum_over f [] = 0
sum_over f (r ∷ rs) = f r + sum_over f rs

-- For each half kind how many had each word, and the sums of turns, guesses and live.
abbrev pub count_over : Pauli → List Report → HalfCounts
count_over b rs = counted (λ f. sum_over (λ r. f (entry_of (report_for b r))) rs)

abbrev pub fresh_count : List Report → Counts
fresh_count rs = record { x = count_over X rs; z = count_over Z rs }

-- window: the list at the start, as long as at the read.
abbrev pub ReadOf : List ℕ → List Report → Result Counts WindowRefusal → Type 0
ReadOf window rs a = a ≡ cond (ltb (length window) 2560) (Err Short) (Ok (fresh_count (last 256 rs)))

----------------------------------------------------------------------
-- The window holds them

-- m: the number of reports in the state. Of the last 256, the k-th to come, from 0 on, has place k modulo 256; d stands for no report, and is never met.
pub record KeptIn (rs : List Report) (m : ℕ) (window : List ℕ) : Type 0 where
  pub few : m ≤ 511
  pub kept : kept_of m ≡ kept_of (length rs)
  pub place : place_of m ≡ place_of (length rs)
  pub entries : (k : ℕ) → k < length rs → length rs ≤ k + 256 → (b : Pauli) (d : Report)
      → entry_at b (place_of k) window ≡ entry_of (report_for b (get_or rs k d))
