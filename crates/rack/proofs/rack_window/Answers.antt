-- `rack::rack_window` meets its contract. Assumes nothing.
use mathlib.Core.Path.{◌∙◌, ap}
use Rattle.records.specs.declared.State.{State}
use Rattle.window_meaning.specs.Read.{window_answer}
use Rattle.rack.specs.Counts.{plain_window}
use Rattle.rack.proofs.rack_window.Goals as goal

pub returns : goal.returns
returns c =
    c.window.ensures
    ∙ ap plain_window (c.read.ensures ∙ ap (λ (s : State). window_answer s.reports c.args.window.now) c.from.ensures)
