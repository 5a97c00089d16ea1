-- What the turns of a half promise, from the marks of its start, or from where turns without a guess led.
--   stage_in     the stage that a half starts in, of its marks
--   Begins      what is kept of the rows is right over the marks, and no qubit is guessed
--   end_of       how the half ends from there
--   Midway      the same, and the forms are plain bits; rest_of: how the half ends from there
--   TurnedHalf  the turns: how the half ended
--   report_by    the report of a half, counted from its marks
--   Ran         the report and the lists are those of an end
--   enough?     whether sizes are in range and lists long enough for the turns
--   Answers     the turns are made, or nothing is written
--   Runs        the promise of `run_turns`; GoesOn: of `go_on`
use Rattle.std.specs.Prelude.{◌≡◌, Bool, true, false, ◌&&◌, List, ℕ, suc, ◌-◌, ◌*◌, leb, length, Option, Some, None}
use Rattle.scans.specs.Rows.{RowLists, row_checks, GoodRows}
use Rattle.scans.specs.Half.{sized?}
use Rattle.kept.specs.Kept.{Kept, RowsOn}
use Rattle.machine.specs.declared.HalfReport.{HalfReport}
use Rattle.machine.specs.Machine.{Stage, End, is_open, closed?, take_up_all, blank, stage, freest, run}
use Rattle.machine.specs.Report.{marked, none?, report}
use Rattle.machine.specs.Lists.{view, forms_of}
use Rattle.turns.specs.declared.Ended.{Ended}
use Rattle.forms.specs.Forms.{Topped}
use Rattle.turns.specs.Turns.{Working, Stays, is_guessed, KeptOver, EndedAs, run_from}

abbrev pub stage_in : ℕ → RowLists → List ℕ → Stage
stage_in n c marks = stage (view n marks) 0 (take_up_all (closed? (is_open (view n marks))) (row_checks c) blank)

pub record Begins (n : ℕ) (c : RowLists) (l : Working) : Type 0 where
  pub good : GoodRows n c
  pub kept : Kept (is_open (view n l.marks)) c l.work
  pub on : RowsOn (is_open (view n l.marks)) c l.work
  pub unguessed : (q : ℕ) → is_guessed n l.marks q ≡ false

abbrev pub end_of : ℕ → RowLists → ℕ → ℕ → Working → End
end_of n c budget limit l = run (row_checks c) n (freest (row_checks c) n) budget limit (suc limit) (stage_in n c l.marks)

pub record Midway (n : ℕ) (c : RowLists) (l : Working) : Type 0 where
  pub begins : Begins n c l
  pub topped : Topped n 0 l.forms

-- After `made` turns.
abbrev pub rest_of : ℕ → RowLists → ℕ → ℕ → ℕ → Working → End
rest_of n c budget limit made l = run_from n c budget limit (suc (limit - made)) l 0 made

-- Where what is asked holds, as this end.
pub record TurnedHalf (n : ℕ) (c : RowLists) (asked : Type 0) (e : End) (old new : Working) (r : Ended) : Type 0 where
  pub stays : Stays n old new
  pub ends : asked → EndedAs n c new r e

-- The counts of the marks.
abbrev pub report_by : ℕ → Ended → List ℕ → HalfReport
report_by n e marks = record {
  word = e.word;
  fixed = marked n (view n marks) 1;
  turns = e.turns;
  guesses = marked n (view n marks) 3;
  live = e.live;
}

----------------------------------------------------------------------
-- The promise

-- Marks and forms are those of the end; after none, the forms are not told. At any end but none, what is kept is a fresh count over the marks.
pub record Ran (n : ℕ) (c : RowLists) (new : Working) (r : HalfReport) (e : End) : Type 0 where
  pub report : r ≡ report n e
  pub marks : view n new.marks ≡ e.state.mark
  pub forms : none? e.word ≡ false → forms_of n new.forms ≡ e.state.forms.form
  pub kept : none? e.word ≡ false → KeptOver n c new.marks new.work

unfoldable pub enough? : ℕ → RowLists → Working → Bool
enough? n c l = sized? n c && leb c.first 512 && leb 10240 (length l.work) && leb n (length l.marks) && leb (4 * n) (length l.forms)

-- For every input lists keep their lengths, marks what is past n and forms what is past 4 × n. Where it is told to be enough, the turns are made: where what is asked
-- holds, as the machine makes them to this end. Otherwise nothing is written.
pub record Answers (n : ℕ) (c : RowLists) (enough : Bool) (asked : Type 0) (e : End) (old new : Working) (r : Option HalfReport) : Type 0 where
  pub stays : Stays n old new
  pub refused : enough ≡ false → (r ≡ None) × (new ≡ old)
  pub over : enough ≡ true → (h : HalfReport) × (r ≡ Some h) × (asked → Ran n c new h e)

-- Where sizes are in range and lists long enough: of rows that are strictly ascending and below n, and of what is kept of them.
abbrev pub Runs : ℕ → RowLists → ℕ → ℕ → Working → Working → Option HalfReport → Type 0
Runs n c budget limit old new r = Answers n c (enough? n c old) (Begins n c old) (end_of n c budget limit old) old new r

-- And no more turns were made than the limit says.
abbrev pub GoesOn : ℕ → RowLists → ℕ → ℕ → ℕ → Working → Working → Option HalfReport → Type 0
GoesOn n c budget limit made old new r = Answers n c (enough? n c old && leb made limit) (Midway n c old) (rest_of n c budget limit made old) old new r
