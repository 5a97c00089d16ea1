-- `commuting::has_odd` meets its contract. Assumes nothing.
use mathlib.Core.Path.{◌≡◌}
use borrow.Author.Rules.{rules}
use Rattle.std.proofs.Common.{count_by}
use Rattle.commuting.specs.Even.{in_bits}
use Rattle.commuting.proofs.Turns.{odd_counted}
use Rattle.commuting.proofs.has_odd.Goals as goal

pub returns : goal.returns
returns c =
    let n : c.count.result ≡ count_by (in_bits c.args.set.now) c.args.row.now = search rules in rw n (odd_counted (in_bits c.args.set.now) c.args.row.now)
