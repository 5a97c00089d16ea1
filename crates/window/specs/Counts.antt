-- The entries of a half kind, counted one by one.
--   none_yet     the counts of no entry
--   plus        counts with one entry more, of a word's number and its counts
--   Few         the counts of so many entries: no sum is too large for its number
--   counts_from  the counts of the first places of the list, the entries' first elements at an offset
use Rattle.std.specs.Prelude.{ℕ, ◌+◌, ◌*◌, ◌≤◌, List, eqb}
use Rattle.machine.specs.Lists.{digit}
use Rattle.window_meaning.specs.declared.HalfCounts.{HalfCounts}
use Rattle.records.specs.Window.{entry_from}
use Rattle.window_meaning.specs.Read.{counted, sum_below}

abbrev pub none_yet : HalfCounts
none_yet = record { certain = 0; unsure = 0; none = 0; spent = 0; stopped = 0; turns = 0; guesses = 0; live = 0 }

abbrev pub plus : HalfCounts → ℕ → ℕ → ℕ → ℕ → HalfCounts
plus c word turns guesses live = record {
  certain = c.certain + digit (eqb word 1);
  unsure = c.unsure + digit (eqb word 2);
  none = c.none + digit (eqb word 3);
  spent = c.spent + digit (eqb word 4);
  stopped = c.stopped + digit (eqb word 5);
  turns = c.turns + turns;
  guesses = c.guesses + guesses;
  live = c.live + live;
}

pub record Few (k : ℕ) (c : HalfCounts) : Type 0 where
  pub certain : c.certain ≤ 65535 * k
  pub unsure : c.unsure ≤ 65535 * k
  pub none : c.none ≤ 65535 * k
  pub spent : c.spent ≤ 65535 * k
  pub stopped : c.stopped ≤ 65535 * k
  pub turns : c.turns ≤ 65535 * k
  pub guesses : c.guesses ≤ 65535 * k
  pub live : c.live ≤ 65535 * k

abbrev pub counts_from : ℕ → ℕ → List ℕ → HalfCounts
counts_from first k l = counted (λ f. sum_below (λ p. f (entry_from (10 * p + first) l)) k)
