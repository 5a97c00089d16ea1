-- `scans::first_open` meets its contract: no qubit so far is open. Assumes nothing.
use borrow.Author.Rules.{rules}
use mathlib.Core.Path.{◌≡◌, sym, ap, ◌∙◌}
use native.Mathlib.Omega.{arith}
use Prim.Native.Nat.{ℕ}
use lib.ListN.{length, drop}
use Rattle.machine.specs.Machine.{is_open, part}
use Rattle.machine.specs.Lists.{view}
use Rattle.scans.proofs.Scanning.{part_no}
use Rattle.scans.proofs.first_open.Goals as goal

pub returns-then-is_open : goal.returns-then-is_open
returns-then-is_open c = record { within = search rules; skipped = c.loop-i.invariant; found = λ h. sym c.is_open.ensures ∙ c.if-is_open.true }

pub loop-i-preserved : goal.loop-i-preserved
loop-i-preserved c =
    let args = c.args in
    c.loop-i.invariant ∙ part_no (is_open (view args.n args.marks.now)) args.row.now c.loop-i.i (search rules) (sym c.is_open.ensures ∙ c.if-is_open.false)

pub returns : goal.returns
returns c =
    let args = c.args in
    let done : c.loop-i.i ≡ length args.row.now = omega arith in
    let skipped = c.loop-i.invariant ∙ ap (λ (k : ℕ). part (is_open (view args.n args.marks.now)) (drop k args.row.now)) done in
    record { within = search rules; skipped = skipped; found = λ h. absurd (omega arith) }
