-- Records in bytes.
--   whole_of how many bytes the record has whole that the bytes begin with
--   next_of  how many bytes the record has that the bytes begin with: 0 where it is not there whole, and what there is of it where the input has
--           ended
--   is_last  the answers after which no record follows: refusal 1, of an unknown kind, and refusal 2, of a record that is cut off
use Rattle.std.specs.Prelude.{Bool, false, cond, List, ℕ, leb, length, get_or}
use Rattle.records.specs.Records.{kind_of, whole_length}
use Rattle.records.specs.Table.{refusal_number}
use Rattle.records.specs.declared.Answer.{Answer}
use Rattle.records.specs.declared.Answer.TheVariants.{Refused, Taken, Complete, Decoded}

abbrev pub whole_of : List ℕ → ℕ
whole_of bytes = whole_length (kind_of (get_or bytes 0 0))

unfoldable pub next_of : Bool → List ℕ → ℕ
next_of ended bytes = cond (leb (whole_of bytes) (length bytes)) (whole_of bytes) (cond ended (length bytes) 0)

abbrev pub is_last : Answer → Bool
is_last (Refused r) = leb (refusal_number r) 2
is_last Taken = false
is_last (Complete sizes) = false
is_last (Decoded report) = false
