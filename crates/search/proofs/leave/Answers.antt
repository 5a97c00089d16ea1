-- `search::leave` meets its contract: row j is the last one with the column so far. Assumes nothing.
use mathlib.Core.Path.{◌∙◌}
use Prim.Native.Nat.{◌+◌, ◌<◌}
use native.Mathlib.Nat.{le_refl}
use native.Mathlib.Omega.{arith}
use Rattle.search.proofs.Rows.{one_less_lem, rest_same, made_out, later_none, later_to, later_added, leaves_alone, leaves_merged}
use Rattle.search.proofs.leave.Goals as goal

pub returns-then-first-sizes : goal.returns-then-first-sizes
returns-then-first-sizes c =
    let s = c in
    let a = s.args in
    let p = s.requires in
    leaves_alone a.sizes.words a.sizes.rows a.i a.q a.m.now _ p.1.0 p.1.2 p.1.3 p.0 _ c.next_row-first.ensures c.if-first-sizes.true
    (made_out a.sizes.words a.i a.i a.m.now _ _ p.1.2 (omega (arith, p.0, p.1.3)) (omega (arith, p.0, p.1.3)) p.1.5 c.add_row.ensures)

pub overflow_sub-left : goal.overflow_sub-left
overflow_sub-left c =
    let s = c in
    let a = s.args in
    let f = c.next_row-first in
    let within : f.result < a.sizes.rows = omega (arith, f.ensures.within, c.if-first-sizes.false) in
    omega (arith, s.requires.2, one_less_lem a.sizes.words (a.i + 1) a.sizes.rows a.q a.m.now f.result f.ensures within)

pub loop-j-init : goal.loop-j-init
loop-j-init c =
    let s = c in
    let a = s.args in
    let p = s.requires in
    let f = c.next_row-first in
    let within : f.result < a.sizes.rows = omega (arith, f.ensures.within, c.if-first-sizes.false) in
    let d = made_out a.sizes.words a.i f.result a.m.now _ _ p.1.2 (omega (arith, p.0, p.1.3)) (omega (arith, within, p.1.3)) p.1.5 c.merge_row.ensures in (
      le_refl _,
      within,
      later_none _ _ _ _ _ (omega (arith, f.ensures.start)) _,
      omega (arith, p.2, one_less_lem a.sizes.words (a.i + 1) a.sizes.rows a.q a.m.now f.result f.ensures within, rest_same a.sizes.words a.sizes.rows a.q a.i f.result a.m.now _ p.1.2 p.1.3 p.1.0 d),
    )

pub next_row-j-requires : goal.next_row-j-requires
next_row-j-requires c =
    let l = c.loop-j in
    let p = c.requires in
    (l.invariant.1, (p.1.0, omega (arith, l.invariant.1), p.1.2, p.1.3, p.1.4, omega (arith, p.1.5, l.invariant.2.long, c.merge_row.auto.work)), l.invariant.3)

pub shape_of-m-then-j-sizes : goal.shape_of-m-then-j-sizes
shape_of-m-then-j-sizes c = c.loop-j.invariant.2.long ∙ c.merge_row.auto.work

pub returns-then-j-sizes : goal.returns-then-j-sizes
returns-then-j-sizes c =
    let s = c in
    let a = s.args in
    let p = s.requires in
    let f = c.next_row-first in
    let l = c.loop-j in
    let low = f.ensures.start in
    let within : f.result < a.sizes.rows = omega (arith, f.ensures.within, c.if-first-sizes.false) in
    let d = made_out a.sizes.words a.i f.result a.m.now _ _ p.1.2 (omega (arith, p.0, p.1.3)) (omega (arith, within, p.1.3)) p.1.5 c.merge_row.ensures in
    leaves_merged a.sizes.words a.sizes.rows a.i a.q a.m.now _ p.1.0 p.1.2 p.1.3 p.0 f.result f.ensures l.m within d
    (rw c.if-j-sizes.true at (later_to a.sizes.words a.sizes.rows a.i f.result a.q (omega arith) (l.j + 1) _ l.m _ p.1.0 (omega (arith, l.invariant.0)) l.invariant.2 c.next_row-j.ensures))

pub overflow_sub-left-in-loop-j : goal.overflow_sub-left-in-loop-j
overflow_sub-left-in-loop-j c =
    let a = c.args in
    let l = c.loop-j in
    let f = c.next_row-j in
    let within : f.result < a.sizes.rows = omega (arith, f.ensures.within, c.if-j-sizes.false) in
    omega (arith, l.invariant.3, one_less_lem a.sizes.words (l.j + 1) a.sizes.rows a.q l.m f.result f.ensures within)

pub loop-j-smaller : goal.loop-j-smaller
loop-j-smaller c =
    let a = c.args in
    let l = c.loop-j in
    let f = c.next_row-j in
    let within : f.result < a.sizes.rows = omega (arith, f.ensures.within, c.if-j-sizes.false) in
    omega (arith, l.invariant.3, one_less_lem a.sizes.words (l.j + 1) a.sizes.rows a.q l.m f.result f.ensures within)

pub loop-j-preserved : goal.loop-j-preserved
loop-j-preserved c =
    let a = c.args in
    let p = c.requires in
    let low = c.next_row-first.ensures.start in
    let l = c.loop-j in
    let f = c.next_row-j in
    let within : f.result < a.sizes.rows = omega (arith, f.ensures.within, c.if-j-sizes.false) in
    let d = made_out a.sizes.words a.i f.result l.m _ _ p.1.2 (omega (arith, p.0, p.1.3)) (omega (arith, within, p.1.3)) (omega (arith, p.1.5, l.invariant.2.long, c.merge_row.auto.work)) c.add_row-in-loop-j.ensures in (
      omega (arith, l.invariant.0, f.ensures.start),
      within,
      later_added a.sizes.words a.sizes.rows a.i _ a.q (omega arith) (l.j + 1) _ l.m _ f.result p.1.0 (omega (arith, l.invariant.0)) p.1.2 p.1.3 l.invariant.2 f.ensures within d,
      omega (arith, l.invariant.3, one_less_lem a.sizes.words (l.j + 1) a.sizes.rows a.q l.m f.result f.ensures within, rest_same a.sizes.words a.sizes.rows a.q a.i f.result l.m _ p.1.2 p.1.3 p.1.0 d),
    )
