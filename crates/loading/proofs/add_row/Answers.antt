-- `loading::add_row` meets its contract. Assumes nothing.
use mathlib.Core.Path.{refl}
use native.Mathlib.Omega.{arith}
use borrow.Author.Rules.{rules}
use Rattle.loading.proofs.TakenRows.{awaits_few, add_clash, add_taken}
use Rattle.loading.proofs.add_row.Goals as goal

pub overflow_add-rows : goal.overflow_add-rows
overflow_add-rows c =
    let few = awaits_few _ _ c.requires.0 in
    record { fits = omega (arith, few.0, few.1.xs, few.1.zs) }

pub overflow_add-last : goal.overflow_add-last
overflow_add-last c =
    let few = awaits_few _ _ c.requires.0 in
    record { fits = omega (arith, few.1.xs, few.1.zs) }

pub returns-then-last-clash : goal.returns-then-last-clash
returns-then-last-clash c =
    let pre = c.requires in
    add_clash _ _ _ _ _ _ pre.0 pre.1 _ c.clashes-clash.ensures _ refl
    (search rules) c.refused.ensures

pub progress-requires : goal.progress-requires
progress-requires c =
    let few = awaits_few _ _ c.requires.0 in
    omega (arith, few.1.xs, few.1.zs)

pub returns : goal.returns
returns c =
    let at = c in
    let pre = at.requires in
    add_taken _ _ _ _ _ _ pre.0 pre.1 _ at.clashes-clash.ensures _ refl _ _ _ _
    (search rules) at.push_row.ensures c.note_row.ensures c.progress.ensures
