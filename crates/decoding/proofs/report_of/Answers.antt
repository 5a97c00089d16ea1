-- `decoding::report_of` meets its contract. Assumes nothing.
use mathlib.Core.Path.{ap, ◌∙◌}
use Rattle.records.specs.declared.State.{State}
use Rattle.records.specs.declared.Answer.TheVariants.{Decoded}
use Rattle.records.specs.States.{reported_of}
use Rattle.decoding.proofs.report_of.Goals as goal

pub returns : goal.returns
returns c =
    let entered = c.enter-reports in
    let decoded = c.args.decoded in (
      entered.result,
      entered.ensures,
      ap (λ (s : State). record { state = s; answer = Decoded decoded }) (c.reported.ensures ∙ ap (reported_of entered.result) c.ended.ensures),
    )
