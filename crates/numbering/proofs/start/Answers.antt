-- `numbering::start` meets its contract. Assumes nothing.
use native.Mathlib.Omega.{arith}
use lib.ListN.{length}
use Rattle.numbering.specs.Numbering.{startable?}
use Rattle.numbering.proofs.Known.{startable_out, not_started, all_started}
use Rattle.numbering.proofs.start.Goals as goal

pub overflow_mul-w : goal.overflow_mul-w
unfolding startable?
overflow_mul-w c =
    let a = c.args in
    let o = startable_out a.w a.rows a.n (length a.lost.now) (length a.work.now) c.if-fits.true in
    omega (arith, o.0)

pub overflow_add-w : goal.overflow_add-w
unfolding startable?
overflow_add-w c =
    let a = c.args in
    let o = startable_out a.w a.rows a.n (length a.lost.now) (length a.work.now) c.if-fits.true in
    omega (arith, o.0)

pub set_known-requires : goal.set_known-requires
unfolding startable?
set_known-requires c =
    let f = c in
    let a = c.args in
    let o = startable_out a.w a.rows a.n (length a.lost.now) (length a.work.now) f.if-fits.true in
    (o.3, o.0, omega (arith, o.2, c.clear.auto.list))

pub number_rows-requires : goal.number_rows-requires
unfolding startable?
number_rows-requires c =
    let k = c in
    let f = k in
    let a = f.args in
    let o = startable_out a.w a.rows a.n (length a.lost.now) (length a.work.now) f.if-fits.true in
    (o.1, o.0, omega (arith, o.2, c.set_known.auto.m, k.clear.auto.list))

pub returns-then-fits : goal.returns-then-fits
unfolding startable?
returns-then-fits c =
    let r = c in
    let k = r in
    let f = k in
    all_started _ _ _ _ _ _ _ _ f.if-fits.true f.clear.ensures k.set_known.ensures r.number_rows.ensures

pub returns-else-fits : goal.returns-else-fits
unfolding startable?
returns-else-fits c = not_started _ _ _ _ _ c.if-fits.false
