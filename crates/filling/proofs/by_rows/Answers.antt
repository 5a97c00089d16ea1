-- `filling::by_rows` meets its contract: the rows before row i are kept. Assumes nothing.
use native.Mathlib.Numerals.{add-one}
use mathlib.Core.Path.{refl, ◌∙◌}
use native.Mathlib.Omega.{arith}
use Rattle.filling.proofs.KeptRows.{kept_start, kept_all}
use Rattle.filling.proofs.Fills.{room_same}
use Rattle.filling.proofs.by_rows.Goals as goal

pub loop-i-init : goal.loop-i-init
loop-i-init c = record { long = refl; past = λ k h. refl; kept = kept_start _ _ _ _ _ c.empty_sets.ensures }

pub keep_row-requires : goal.keep_row-requires
keep_row-requires c = record { room = room_same _ _ _ _ (c.loop-i.invariant.long ∙ c.empty_sets.ensures.long) c.requires; within = c.loop-i-test.true; kept_to = c.loop-i.invariant.kept }

pub loop-i-preserved : goal.loop-i-preserved
loop-i-preserved c =
    let before = c.loop-i.invariant in
    let row = c.keep_row.ensures in
    record { long = row.0 ∙ before.long; past = λ k h. row.1 k h ∙ before.past k h; kept = rw (add-one c.loop-i.i) row.2 }

pub returns : goal.returns
returns c =
    let all = c.loop-i.invariant in
    (all.long ∙ c.empty_sets.ensures.long, (λ k h. all.past k h ∙ c.empty_sets.ensures.past k h), kept_all _ _ _ _ _ all.kept (omega arith))
