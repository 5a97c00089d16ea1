-- `search::clear_column` meets its contract. Assumes nothing.
use Prim.Native.Nat.{◌<◌}
use native.Mathlib.Nat.{mul-le-mul_right}
use native.Mathlib.Omega.{arith}
use Rattle.search.proofs.Rows.{one_less_lem, clears_none, clears_top, clears_moved}
use Rattle.search.proofs.clear_column.Goals as goal

pub returns-then-i-sizes : goal.returns-then-i-sizes
returns-then-i-sizes c = clears_none _ _ _ _ _ _ c.find_row-i.ensures c.if-i-sizes.true

pub overflow_sub-most : goal.overflow_sub-most
overflow_sub-most c =
    let a = c.args in
    let f = c.find_row-i in
    let within : f.result < a.sizes.rows = omega (arith, f.ensures.within, c.if-i-sizes.false) in
    omega (arith, c.requires.1, one_less_lem a.sizes.words a.top a.sizes.rows a.q a.m.now f.result f.ensures within)

pub leave-requires : goal.leave-requires
leave-requires c =
    let a = c.args in
    let p = c.requires in
    let f = c.find_row-i in
    let within : f.result < a.sizes.rows = omega (arith, f.ensures.within, c.if-i-sizes.false) in
    (within, (p.0.0, f.ensures.within, p.0.2, p.0.3, p.0.4, p.0.5), omega (arith, p.1, one_less_lem a.sizes.words a.top a.sizes.rows a.q a.m.now f.result f.ensures within))

pub returns-else-i-top : goal.returns-else-i-top
returns-else-i-top c =
    let a = c.args in
    let p = c.requires.0 in
    let f = c.find_row-i in
    let within : f.result < a.sizes.rows = omega (arith, f.ensures.within, c.if-i-sizes.false) in
    clears_top a.sizes.words a.top a.sizes.rows a.q f.result a.m.now _ p.2 p.3 f.ensures within c.leave.ensures c.if-i-top.false

pub overflow_mul-top : goal.overflow_mul-top
overflow_mul-top c =
    let a = c.args in
    let p = c.requires.0 in
    omega (arith, p.4, mul-le-mul_right {m = a.top} {n = a.sizes.rows} a.sizes.words p.1)

pub overflow_mul-i : goal.overflow_mul-i
overflow_mul-i c =
    let a = c.args in
    let f = c.find_row-i in
    omega (arith, c.requires.0.4, mul-le-mul_right {m = f.result} {n = a.sizes.rows} a.sizes.words f.ensures.within)

pub returns-then-i-top : goal.returns-then-i-top
returns-then-i-top c =
    let a = c.args in
    let p = c.requires.0 in
    let f = c.find_row-i in
    let within : f.result < a.sizes.rows = omega (arith, f.ensures.within, c.if-i-sizes.false) in
    clears_moved a.sizes.words a.top a.sizes.rows a.q f.result a.m.now _ p.2 p.3 f.ensures within c.leave.ensures _ c.if-i-top.true p.5 c.copy_words.ensures
