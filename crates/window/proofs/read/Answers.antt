-- `window::read` meets its contract. Assumes nothing.
use mathlib.Core.Path.{◌∙◌}
use native.Mathlib.Omega.{arith}
use Rattle.window.proofs.Counts.{kept_min, read_short, read_counted}
use Rattle.window.proofs.read.Goals as goal

pub returns-then-window-lt-LEAST : goal.returns-then-window-lt-LEAST
returns-then-window-lt-LEAST c = read_short _ _ c.if-window-lt-LEAST.true

pub returns : goal.returns
returns c = read_counted _ _ (omega arith) _ (c.min-kept.ensures ∙ kept_min _) _ _ c.count_half.ensures c.count_half-2.ensures
