-- Counts of a run.
--   total    a sum of counts; one that does not fit stays at the largest number
--   is_again  whether the last refusal, if there was one, has this one's number
--   record_more, code_more, decode_more, refusal_more, answer_more  one more of each
--   tallied  the counts after one more record, of so many bytes and with this answer
use Rattle.std.specs.Prelude.{Bool, false, cond, Option, None, Some, ℕ, ◌+◌, ◌-◌, ◌^◌, min, eqb}
use Rattle.records.specs.declared.Answer.{Answer}
use Rattle.records.specs.declared.Refusal.{Refusal}
use Rattle.records.specs.declared.Answer.TheVariants.{Refused, Taken, Complete, Decoded}
use Rattle.records.specs.Table.{refusal_number}
use Rattle.counts.specs.declared.Tally.{Tally}

abbrev pub total : ℕ → ℕ → ℕ
total a b = min (a + b) (2 ^ 64 - 1)

-- A record of n bytes.
abbrev pub record_more : Tally → ℕ → Tally
record_more t n = record {
  bytes = total t.bytes n;
  records = total t.records 1;
  codes = t.codes;
  decodes = t.decodes;
  refusals = t.refusals;
  last = t.last;
  more = t.more;
}

abbrev pub code_more : Tally → Tally
code_more t = record {
  bytes = t.bytes;
  records = t.records;
  codes = total t.codes 1;
  decodes = t.decodes;
  refusals = t.refusals;
  last = t.last;
  more = t.more;
}

abbrev pub decode_more : Tally → Tally
decode_more t = record {
  bytes = t.bytes;
  records = t.records;
  codes = t.codes;
  decodes = total t.decodes 1;
  refusals = t.refusals;
  last = t.last;
  more = t.more;
}

abbrev pub is_again : Option Refusal → Refusal → Bool
is_again None r = false
is_again (Some last) r = eqb (refusal_number last) (refusal_number r)

-- A refusal with the last one's number is one more of its run; one with another number begins a run.
abbrev pub refusal_more : Tally → Refusal → Tally
refusal_more t r = record {
  bytes = t.bytes;
  records = t.records;
  codes = t.codes;
  decodes = t.decodes;
  refusals = total t.refusals 1;
  last = Some r;
  more = cond (is_again t.last r) (total t.more 1) 0;
}

abbrev pub answer_more : Tally → Answer → Tally
answer_more t (Refused r) = refusal_more t r
answer_more t Taken = t
answer_more t (Complete sizes) = code_more t
answer_more t (Decoded report) = decode_more t

unfoldable pub tallied : Tally → ℕ → Answer → Tally
tallied t n a = answer_more (record_more t n) a
