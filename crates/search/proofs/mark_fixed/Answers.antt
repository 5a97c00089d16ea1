-- `search::mark_fixed` meets its contract. Assumes nothing.
use mathlib.Core.Bool.{not}
use mathlib.Core.Path.{ap, sym, ◌∙◌}
use native.Mathlib.Omega.{arith}
use Rattle.search.proofs.Marked.{enough_out, started, sound_start, not_marked, all_marked}
use Rattle.search.proofs.mark_fixed.Goals as goal

pub returns-then-not-long_enough : goal.returns-then-not-long_enough
returns-then-not-long_enough c = not_marked _ _ _ _ _ _ c.long_enough.ensures (ap not c.if-not-long_enough.true)

pub take_known-known-requires : goal.take_known-known-requires
take_known-known-requires c =
    let a = c.args in
    let w = c.words_for-w in
    let t = sym c.long_enough.ensures ∙ c.if-not-long_enough.false in
    let x = enough_out a.n a.rows w.result a.lost.now a.work.now a.marks.now w.ensures t in
    let s = started a.n a.rows w.result a.lost.now a.work.now a.marks.now w.ensures _ t c.start.ensures in
    ((x.0.0, x.0.1, x.0.2, x.0.3, x.0.4, omega (arith, x.0.5, s.long)), sound_start a.n a.rows w.result a.lost.now a.work.now _ x.0 s)

pub take_lost-all-requires : goal.take_lost-all-requires
take_lost-all-requires c =
    let a = c.args in
    let w = c.words_for-w in
    let t = sym c.long_enough.ensures ∙ c.if-not-long_enough.false in
    let x = enough_out a.n a.rows w.result a.lost.now a.work.now a.marks.now w.ensures t in
    let s = started a.n a.rows w.result a.lost.now a.work.now a.marks.now w.ensures _ t c.start.ensures in
    let k = c.take_known-known.ensures in
    ((x.0.0, x.0.1, x.0.2, x.0.3, x.0.4, omega (arith, x.0.5, s.long, k.long)), k.within, x.1, x.2)

pub returns : goal.returns
returns c =
    let a = c.args in
    let w = c.words_for-w in
    let t = sym c.long_enough.ensures ∙ c.if-not-long_enough.false in
    let x = enough_out a.n a.rows w.result a.lost.now a.work.now a.marks.now w.ensures t in
    let s = started a.n a.rows w.result a.lost.now a.work.now a.marks.now w.ensures _ t c.start.ensures in
    all_marked a.n a.rows w.result a.lost.now a.work.now a.marks.now _ _ _ _ _ _ w.ensures t s c.take_known-known.ensures c.take_lost-all.ensures
