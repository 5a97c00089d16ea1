-- `rack::rack_step` meets its contract. Assumes nothing.
use borrow.Author.Rules.{rules}
use Rattle.rack.proofs.Promising.{rack_promise_left}
use Rattle.rack.proofs.rack_step.Goals as goal

pub returns : goal.returns
returns c =
    rack_promise_left _ _ _ _ c.step.new.passed _ c.step.new.x c.step.new.z _ _ _ _ _ _ _ _ _ _ _ _ c.from.ensures c.step.ensures.promised c.from-2.ensures
    (search rules) (search rules) (search rules) (search rules) (search rules) (search rules) (search rules) (search rules) (search rules) (search rules)
