-- `forms::take_up` meets its contract: one law for each way through it. Assumes nothing.
use mathlib.Core.Path.{◌≡◌}
use Prim.Native.Nat.{◌-◌}
use native.Mathlib.Omega.{arith}
use borrow.Author.Rules.{rules}
use Rattle.std.proofs.Common.{None}
use Rattle.forms.proofs.TakingUp.{takes_none, takes_nothing, takes_failed, takes_dead, takes_guess}
use Rattle.forms.proofs.take_up.Goals as goal

pub returns-then-forms-n : goal.returns-then-forms-n
returns-then-forms-n c = takes_none _ _ _ _ _ c.if-forms-n.true

pub returns-then-word-eq0 : goal.returns-then-word-eq0
returns-then-word-eq0 c = takes_nothing _ _ _ _ _ _ _ _ c.top_word-top.ensures.0 (omega arith) (λ i. omega (arith, c.slice_known-1.given i)) c.highest_part-v.ensures c.if-word-eq0.true

pub returns-then-v-word : goal.returns-then-v-word
returns-then-v-word c = takes_failed _ _ _ _ _ _ _ _ c.top_word-top.ensures.0 (omega arith) (λ i. omega (arith, c.slice_known-1.given i)) c.highest_part-v.ensures c.if-v-word.true

pub returns-in_err-left : goal.returns-in_err-left
returns-in_err-left c =
    let none : c.from_residual.result ≡ None = search rules in
    rw none (takes_dead _ _ _ _ _ _ _ _ c.top_word-top.ensures.0 (omega arith) (λ i. omega (arith, c.slice_known-1.given i)) c.highest_part-v.ensures _ c.newest_bit-k.ensures c.if-word-eq0.false c.if-v-word.false (search rules))

pub returns : goal.returns
returns c =
    let left : c.in_ok-left.left ≡ c.args.live - 1 = search rules in
    rw left (takes_guess _ _ _ _ _ _ _ _ c.top_word-top.ensures.0 (omega arith) (λ i. omega (arith, c.slice_known-1.given i)) c.highest_part-v.ensures _ c.newest_bit-k.ensures c.if-word-eq0.false c.if-v-word.false
    _ _ _ c.add_below.ensures c.replace_in_word.ensures c.move_above.ensures)
