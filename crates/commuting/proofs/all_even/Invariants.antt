-- `commuting::all_even` meets its contract: the rows that are left decide. Assumes nothing.
use mathlib.Core.Path.{◌≡◌}
use Rattle.code.specs.Lists.{rows_between}
use Rattle.commuting.specs.Even.{in_bits, even_for?}
use Rattle.commuting.proofs.all_even.Given as goal

abbrev pub invariant-loop-r : goal.invariant-loop-r
invariant-loop-r l =
    even_for? (in_bits l.set) (rows_between l.code.flat.now l.code.ends.now l.r l.fn.to.0) ≡ even_for? (in_bits l.set) (rows_between l.code.flat.now l.code.ends.now l.fn.from.0 l.fn.to.0)
