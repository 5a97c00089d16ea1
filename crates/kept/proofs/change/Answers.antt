-- `kept::change` meets its contract. Assumes nothing.
use mathlib.Core.Path.{refl}
use native.Mathlib.Omega.{arith}
use borrow.Author.Rules.{rules}
use lib.ListN.{set}
use mathlib.Core.Path.{ap}
use Prim.Native.Nat.{ℕ}
use Rattle.kept.proofs.Tallying.{joined, parted, changes}
use Rattle.kept.proofs.change.Goals as goal

pub returns-then-not-joins : goal.returns-then-not-joins
returns-then-not-joins c = changes _ _ c.args.work.now _ (omega arith) (omega arith) (parted _ _ c.args.work.now _ _ (omega arith) (omega arith) c.flip.ensures (search rules) (ap (λ (x : ℕ). set c.flip.new.list 8200 x) c.saturating_sub.ensures))

pub returns-then-total-lt512 : goal.returns-then-total-lt512
returns-then-total-lt512 c = changes _ _ c.args.work.now _ (omega arith) (omega arith) (joined _ _ c.args.work.now _ _ (omega arith) (omega arith) c.flip.ensures (search rules) c.if-total-lt512.true refl)
