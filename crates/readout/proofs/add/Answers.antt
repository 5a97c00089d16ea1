-- `readout::add` meets its contract: each way is a line of the table. Assumes nothing.
use mathlib.Core.Path.{sym, ap, ◌∙◌}
use borrow.Author.Tests.{le-leb, lt-leb}
use Rattle.records.specs.declared.State.{State}
use Rattle.records.specs.declared.Refusal.TheVariants.{Codeless, Range, Twice, Short}
use Rattle.records.specs.declared.Answer.TheVariants.{Taken}
use Rattle.records.specs.declared.Reply.{Reply}
use Rattle.readout.proofs.Adding.{mark_refused, mark_taken, reply_codeless, reply_range, reply_short, reply_twice, reply_taken}
use Rattle.readout.proofs.add.Goals as goal

pub returns-then-codeless : goal.returns-then-codeless
returns-then-codeless c = mark_refused _ _ _ _ _ _ _ _ Codeless (reply_codeless _ _ _ _ _ _ (sym c.codeless.ensures ∙ c.if-codeless.true)) c.refused.ensures

pub returns-then-count-k : goal.returns-then-count-k
returns-then-count-k c =
    mark_refused _ _ _ _ _ _ _ _ Range (reply_range _ _ _ _ _ _ (sym c.codeless.ensures ∙ c.if-codeless.false) (le-leb _ _ c.if-count-k.true)) c.refused-then-count-k.ensures

pub returns-then-short : goal.returns-then-short
returns-then-short c =
    mark_refused _ _ _ _ _ _ _ _ Short (reply_short _ _ _ _ _ _ (sym c.codeless.ensures ∙ c.if-codeless.false) (lt-leb _ _ c.if-count-k.false) c.if-short.true) c.refused-then-short.ensures

pub returns-then-marked : goal.returns-then-marked
returns-then-marked c =
    mark_refused _ _ _ _ _ _ _ _ Twice
    (reply_twice _ _ _ _ _ _ (sym c.codeless.ensures ∙ c.if-codeless.false) (lt-leb _ _ c.if-count-k.false) c.if-short.false (sym c.marked.ensures ∙ c.if-marked.true))
    c.refused-then-marked.ensures

pub returns : goal.returns
returns c =
    let m = c in
    let r : Reply = record { state = c.opened.result; answer = Taken } in
    mark_taken _ _ _ _ _ _ _ r _ _
    (reply_taken _ _ _ _ _ _ (sym m.codeless.ensures ∙ m.if-codeless.false) (lt-leb _ _ m.if-count-k.false) m.if-short.false (sym m.marked.ensures ∙ c.if-marked.false))
    (ap (λ (x : State). record { state = x; answer = Taken }) c.opened.ensures) c.begin.ensures c.mark.ensures
