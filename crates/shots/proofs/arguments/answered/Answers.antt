-- `shots::arguments::answered` meets its contract. Assumes nothing.
use mathlib.Core.Path.{sym}
use borrow.Author.Tests.{le-leb, lt-leb}
use Rattle.shots.proofs.arguments.answered.Goals as goal

pub returns-then-count-lt2 : goal.returns-then-count-lt2
returns-then-count-lt2 g c = sym (lt-leb _ _ c.if-count-lt2.true)

pub returns : goal.returns
returns g c = sym (le-leb _ _ c.if-count-lt2.false)
