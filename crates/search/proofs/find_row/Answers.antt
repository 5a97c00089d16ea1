-- `search::find_row` meets its contract. Assumes nothing.
use mathlib.Core.Path.{sym, ◌∙◌}
use native.Mathlib.Omega.{arith}
use Rattle.packing.specs.Packed.{cell}
use Rattle.packing.proofs.Rows.{apart}
use Rattle.search.proofs.Rows.{none_more}
use Rattle.search.proofs.find_row.Goals as goal

pub has_bit-requires : goal.has_bit-requires
has_bit-requires c =
    let a = c.args in
    omega (arith, apart a.sizes.words c.loop-i.i a.sizes.rows (omega arith))

pub returns-then-has_bit : goal.returns-then-has_bit
unfolding cell
returns-then-has_bit c =
    record {
      start = omega arith;
      within = omega arith;
      before = c.loop-i.invariant;
      found = λ h. sym c.has_bit.ensures ∙ c.if-has_bit.true;
    }

pub loop-i-preserved : goal.loop-i-preserved
unfolding cell
loop-i-preserved c =
    let a = c.args in
    none_more a.sizes.words a.top _ a.q a.m.now c.loop-i.invariant _ c.has_bit.ensures c.if-has_bit.false

pub returns : goal.returns
returns c = record { start = omega arith; within = omega arith; before = λ j l h. c.loop-i.invariant j l (omega arith); found = λ h. absurd (omega arith) }
