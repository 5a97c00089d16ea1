-- `reading::bytes::qubits_of` meets its contract: after i turns the first i numbers are in place. Assumes nothing.
use native.Mathlib.Omega.{arith}
use borrow.Author.Rules.{rules}
use Rattle.reading.proofs.Numbers.{numbers_turn, zeros, zeros_turn, row_body}
use Rattle.reading.proofs.bytes.qubits_of.Goals as goal

pub returns-then-w-gt16 : goal.returns-then-w-gt16
returns-then-w-gt16 c = record { first = λ h. absurd (omega arith); rest = λ k h. zeros 16 k }

pub loop-i-init : goal.loop-i-init
loop-i-init c = (search rules, search rules, λ k h. zeros 16 k)

pub loop-i-preserved : goal.loop-i-preserved
loop-i-preserved c =
    let loop = c.loop-i in
    (search rules, numbers_turn _ loop.qubits loop.i _ (search rules) loop.invariant.1 (search rules), zeros_turn loop.qubits loop.i _ loop.invariant.2)

pub returns : goal.returns
returns c =
    row_body _ _ c.loop-i.i c.args.w (search rules) (search rules) (search rules) c.loop-i.invariant.1
    c.loop-i.invariant.2
