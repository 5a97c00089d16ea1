-- `bicycle_codes::area` meets its contract. Assumes nothing.
use Prim.Native.Nat.{◌*◌, ◌≤◌}
use mathlib.Core.Path.{refl}
use native.Mathlib.Nat.{mul-le-mul}
use native.Mathlib.Omega.{arith}
use Rattle.bicycle_codes.proofs.area.Goals as goal
use Rattle.bicycle_codes.proofs.area.Goals.{Start}

bound : (c : Start) → c.args.l * c.args.m ≤ 65535 * 65535
bound c = mul-le-mul {n₁ = c.args.l} {m₁ = c.args.m} {n₂ = 65535} {m₂ = 65535} (omega arith) (omega arith)

pub overflow_mul-result : goal.overflow_mul-result
overflow_mul-result c = omega (arith, bound c)

pub returns : goal.returns
returns c = (refl, omega (arith, bound c))
