-- States that an answer leaves.
--   fresh_state   no code and no shot
--   without_code  whether there is no complete code
--   dropped_of    no code and no shot, all else as it was
--   spoiled_of    the code kept, an open shot spoiled
--   ended_of      the code kept, the shot ended
--   opened_of     the code and the shot kept, which its list holds
--   reported_of   so many reports have come
--   left_by       what a refusal leaves; saying: the reply that refuses
use Rattle.std.specs.Prelude.{Bool, true, false, cond, ℕ}
use Rattle.records.specs.declared.Phase.{Phase}
use Rattle.records.specs.declared.Phase.TheVariants.{Empty, Loading, Ready}
use Rattle.records.specs.declared.State.{State}
use Rattle.records.specs.declared.Refusal.{Refusal}
use Rattle.records.specs.declared.Refusal.TheVariants.{Unknown, Length, Size, Place, Clash, Codeless, Range, Twice, Spoiled, Short, Encoded}
use Rattle.records.specs.declared.Answer.TheVariants.{Refused}
use Rattle.records.specs.declared.Reply.{Reply}

abbrev pub fresh_state : State
fresh_state = record { phase = Empty; sizes = record { n = 0; x = 0; z = 0 }; rows = 0; clash = false; spoiled = false; stale = false; reports = 0 }

abbrev pub without_code : Phase → Bool
without_code Empty = true
without_code Loading = true
without_code Ready = false

abbrev pub dropped_of : State → State
dropped_of st = record { phase = Empty; sizes = st.sizes; rows = st.rows; clash = st.clash; spoiled = st.spoiled; stale = st.stale; reports = st.reports }

abbrev pub spoiled_of : State → State
spoiled_of st = record { phase = st.phase; sizes = st.sizes; rows = st.rows; clash = st.clash; spoiled = true; stale = st.stale; reports = st.reports }

abbrev pub ended_of : State → State
ended_of st = record { phase = st.phase; sizes = st.sizes; rows = st.rows; clash = st.clash; spoiled = false; stale = true; reports = st.reports }

abbrev pub opened_of : State → State
opened_of st = record { phase = st.phase; sizes = st.sizes; rows = st.rows; clash = st.clash; spoiled = st.spoiled; stale = false; reports = st.reports }

abbrev pub reported_of : ℕ → State → State
reported_of m st = record { phase = st.phase; sizes = st.sizes; rows = st.rows; clash = st.clash; spoiled = st.spoiled; stale = st.stale; reports = m }

-- The table's column "After it"; decode: at a record of kind 5.
abbrev pub left_by : Refusal → Bool → State → State
left_by Unknown decode st = spoiled_of st
left_by Length decode st = spoiled_of st
left_by Size decode st = dropped_of st
left_by Place decode st = dropped_of st
left_by Refusal.Row decode st = dropped_of st
left_by Clash decode st = dropped_of st
left_by Codeless decode st = st
left_by Range decode st = spoiled_of st
left_by Twice decode st = spoiled_of st
left_by Spoiled decode st = ended_of st
left_by Short decode st = cond decode (ended_of st) st
left_by Encoded decode st = dropped_of st

abbrev pub saying : Refusal → Bool → State → Reply
saying n decode st = record { state = left_by n decode st; answer = Refused n }
