-- `window::counting::count_half` meets its contract: the entries so far are counted. Assumes nothing.
use mathlib.Core.Path.{◌∙◌}
use Prim.Native.Nat.{ℕ, ◌+◌, ◌*◌, ◌≤◌}
use native.Mathlib.Omega.{arith}
use lib.ListN.{get_or}
use Rattle.window.proofs.Counts.{all_none, counts_none, few_none, few_plus, counts_next}
use Rattle.window.proofs.counting.count_half.Goals as goal

pub loop-p-init : goal.loop-p-init
loop-p-init c = rw (all_none _ c.default-c.ensures) (counts_none _ _, few_none)

pub loop-p-preserved : goal.loop-p-preserved
loop-p-preserved c =
    let l = c.loop-p in
    let args = c.args in
    let element : (i : ℕ) → get_or args.window.now (10 * l.p + args.first + i) 0 ≤ 65535
    = λ i. omega (arith, c.type_inv.window (10 * l.p + args.first + i)) in (
      c.with_entry-c.ensures ∙ counts_next args.first l.p args.window.now l.c l.invariant.0,
      rw c.with_entry-c.ensures (few_plus l.p l.c l.invariant.1 (get_or args.window.now (10 * l.p + args.first) 0) _ _ _ (element 2) (element 3) (element 4)),
    )
