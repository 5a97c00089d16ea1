-- `taking::answering::next_record` meets its contract. Assumes nothing.
use native.Mathlib.Omega.{arith}
use Prim.Native.Nat.{◌+◌, ◌-◌}
use mathlib.Core.Path.{◌≡◌}
use Rattle.taking.proofs.answering.next_record.Goals as goal

pub returns : goal.returns
returns c = let p = c.args.p in let e : p.taken + p.next - p.taken ≡ p.next = omega arith in rw e
