-- `bicycle_codes::moved` meets its contract: the number is below l times m. Assumes nothing.
use Prim.Native.Nat.{◌+◌, ◌/◌, ◌%◌}
use native.Mathlib.Nat.{mod-le, div-le_self}
use native.Mathlib.Omega.{arith}
use Rattle.bicycle_codes.proofs.Grid.{within}
use Rattle.bicycle_codes.proofs.moved.Goals as goal

pub overflow_add-i : goal.overflow_add-i
overflow_add-i c = omega (arith, div-le_self c.args.p c.args.m)

pub overflow_add-j : goal.overflow_add-j
overflow_add-j c = omega (arith, mod-le c.args.p c.args.m)

pub overflow_mul-result : goal.overflow_mul-result
overflow_mul-result c = let a = c.args in omega (arith, within a.l a.m (a.p / a.m + a.t.a) (a.p % a.m + a.t.b) (omega arith) (omega arith))

pub overflow_add-result : goal.overflow_add-result
overflow_add-result c = let a = c.args in omega (arith, within a.l a.m (a.p / a.m + a.t.a) (a.p % a.m + a.t.b) (omega arith) (omega arith))

pub overflow_cast-result : goal.overflow_cast-result
overflow_cast-result c = let a = c.args in omega (arith, within a.l a.m (a.p / a.m + a.t.a) (a.p % a.m + a.t.b) (omega arith) (omega arith))
