-- The library's read of the window: the counts of the last 256 reports as plain numbers (include/rack.h).
--   plain_counts  those of a half kind
--   plain_window  the answer to a read of the window: the number of a refusal, or 0 and the counts
--   rack_window   the answer of `rack_window`: that of `window::read`, in plain numbers
use Rattle.std.specs.Prelude.{List, ℕ, Result, Ok, Err}
use Rattle.window_meaning.specs.declared.HalfCounts.{HalfCounts}
use Rattle.window_meaning.specs.declared.Counts.{Counts}
use Rattle.window_meaning.specs.declared.WindowRefusal.{WindowRefusal}
use Rattle.window_meaning.specs.Read.{window_number, window_answer}
use Rattle.plain.specs.declared.RackState.{RackState}
use Rattle.rack.specs.declared.counts.RackHalfCounts.{RackHalfCounts}
use Rattle.rack.specs.declared.counts.RackCounts.{RackCounts}

abbrev pub plain_counts : HalfCounts → RackHalfCounts
plain_counts c =
    record {
      certain = c.certain;
      unsure = c.unsure;
      none = c.none;
      spent = c.spent;
      stopped = c.stopped;
      turns = c.turns;
      guesses = c.guesses;
      live = c.live;
    }

-- Of a window that is not read.
abbrev pub no_counts : RackHalfCounts
no_counts = record { certain = 0; unsure = 0; none = 0; spent = 0; stopped = 0; turns = 0; guesses = 0; live = 0 }

abbrev pub plain_window : Result Counts WindowRefusal → RackCounts
plain_window (Ok c) = record { refusal = 0; x = plain_counts c.x; z = plain_counts c.z }
plain_window (Err why) = record { refusal = window_number why; x = no_counts; z = no_counts }

-- The state counts its reports by the same number.
abbrev pub rack_window : RackState → List ℕ → RackCounts
rack_window s window = plain_window (window_answer s.reports window)
