-- Two calls in a row from a fresh start are a run, so the claim tells the second.
use mathlib.Core.Path.{◌≡◌, refl, sym, ap, ◌∙◌, subst, fun_ext}
use mathlib.Core.Bool.{true}
use mathlib.Core.Option.{Option, none, some}
use mathlib.Core.List.{List, [], ◌∷◌}
use Prim.Native.Nat.{ℕ}
use Rattle.binary.proofs.Bits.{never}
use Rattle.records.specs.declared.Report.{Report}
use Rattle.records.specs.declared.State.{State}
use Rattle.records.specs.declared.Refusal.{Refusal}
use Rattle.records.specs.declared.Answer.TheVariants.{Decoded}
use Rattle.records.specs.declared.Reply.{Reply}
use Rattle.records.specs.Records.{Record, unknown, wrong, size, row, add, report, encodes, record_of}
use Rattle.records.specs.History.{History, empty, loading, ready}
use Rattle.records.specs.Table.{takes}
use Rattle.records.specs.Lists.{Lent, short_six}
use Rattle.records.specs.Promise.{completed, answer_of, KeptLengths, Promise}
use Rattle.records.specs.States.{fresh_state}
use Rattle.claim.specs.Calls.{passed_of, Step, step, Run, ended, call, past, Place}
use Rattle.claim.proofs.Claim.{claim}
use Rattle.caller.specs.TwoRecords.{shorts_of, refusal_of, after_first, answer_to_second, Decode, two_calls, TwoRecords}

-- A call leaves the six lists as short as they were.
six_same : (old new : Lent) → KeptLengths old new → short_six new.six ≡ short_six old.six
unfolding short_six
six_same old new e = fun_ext (λ n. rw (e.x.marks, e.x.forms, e.x.correction, e.z.marks, e.z.forms, e.z.correction))

----------------------------------------------------------------------
-- A report comes of a complete code and a decode

-- Neither sizes nor a row are answered with a report.
no_report : (a : History) (d : Report) → completed a ≡ Decoded d → ⊥
no_report empty d e = never {b = true} refl cc
no_report (loading s xs zs) d e = never {b = true} refl cc
no_report (ready c s) d e = never {b = true} refl cc

decode_of : (q : Option Refusal) (w : Record) (a : History) (d : Report) → answer_of q w a ≡ Decoded d → Decode a w
decode_of (some n) w a d e = never {b = true} refl cc
decode_of none unknown a d e = never {b = true} refl cc
decode_of none wrong a d e = never {b = true} refl cc
decode_of none (size n x z) a d e = absurd (no_report (takes (size n x z) a) d e)
decode_of none (row p r) a d e = absurd (no_report (takes (row p r) a) d e)
decode_of none (add u k) a d e = never {b = true} refl cc
decode_of none (encodes k) a d e = never {b = true} refl cc
decode_of none (report budget limit) empty d e = never {b = true} refl cc
decode_of none (report budget limit) (loading s xs zs) d e = never {b = true} refl cc
decode_of none (report budget limit) (ready c s) d e = record { code = c; shot = s; budget = budget; limit = limit; held = refl; asked = refl }

----------------------------------------------------------------------
-- The two calls

pub two_records : (st : State) (first second : List ℕ) (l₀ l₁ l₂ : Lent) (r₁ r₂ : Reply) → st ≡ fresh_state → Promise st first l₀ l₁ r₁
    → Promise r₁.state second l₁ l₂ r₂ → TwoRecords first second l₀ l₂ r₂
unfolding past
two_records st first second l₀ l₁ l₂ r₁ r₂ h p₁ p₂ =
    let k₁ : Step = record { bytes = first; work = l₀.work; six = l₀.six; reply = r₁; left = l₁ } in
    let k₂ : Step = record { bytes = second; work = l₁.work; six = l₁.six; reply = r₂; left = l₂ } in
    let place : Place (step k₂) = record { state = st; lists = passed_of l₀; fresh = (ap (λ (x : State). x.phase) h, ap (λ (x : State). x.reports) h); before = step k₁ ∷ []; after = []; run = call p₁ (call p₂ ended) } in
    let answer : r₂.answer ≡ answer_to_second (shorts_of l₀) first second = rw (p₁.lengths.work, six_same l₀ l₁ p₁.lengths) at (claim.told k₂ place).answer in
    let a : History = after_first (shorts_of l₀) first in
    record {
      replied = r₁;
      left = l₁;
      run = subst (λ (s : State). Run s (passed_of l₀) (two_calls first second l₀ r₁ l₁ r₂ l₂)) h place.run;
      answer = answer;
      right = λ d e.
          let z = decode_of (refusal_of (shorts_of l₀) second a) (record_of second) a d (sym answer ∙ e) in
          (z, claim.right k₂ place z.code z.shot z.budget z.limit d (record { at = z.held; decode = z.asked; answer = e }));
    }
