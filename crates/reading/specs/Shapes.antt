-- What a record's bytes are, as the code tells it.
--   kind_as      the kind that an answer means
--   width_in     how many qubits a row has
--   unknown?    whether no kind was named; decode?: whether it is that of a decode
--   RecordAs    the bytes are this record
--   RowBody     an array has the numbers of a row's body, and 0 behind them
use Rattle.std.specs.Prelude.{◌≡◌, Bool, true, false, ◌⊎◌, List, ℕ, ◌≤◌, ◌<◌, get_or, take}
use Rattle.std.proofs.Math.Option.{Option, none, some}
use Rattle.reading.specs.declared.Shape.{Shape}
use Rattle.reading.specs.declared.Shape.TheVariants.{Unknown, Wrong, Size, Lose, Light, Unread, Decode, Logical}
use Rattle.records.specs.Records.{lost, lit, unread, Kind, sizes, decode, logical, row_of, member, unknown, wrong, size, row, add, report, encodes, number, numbers, record_of}

abbrev pub kind_as : Shape → Option Kind
kind_as Unknown = none
kind_as Wrong = none
kind_as Size = some sizes
kind_as (Shape.Row x w) = some (row_of x w)
kind_as Lose = some (member lost)
kind_as (Light x) = some (member (lit x))
kind_as (Unread x) = some (member (unread x))
kind_as Decode = some decode
kind_as Logical = some logical

-- How many qubits a row has.
abbrev pub width_in : Shape → ℕ
width_in Unknown = 0
width_in Wrong = 0
width_in Size = 0
width_in (Shape.Row x w) = w
width_in Lose = 0
width_in (Light x) = 0
width_in (Unread x) = 0
width_in Decode = 0
width_in Logical = 0

abbrev pub unknown? : Shape → Bool
unknown? Unknown = true
unknown? Wrong = true
unknown? Size = false
unknown? (Shape.Row x w) = false
unknown? Lose = false
unknown? (Light x) = false
unknown? (Unread x) = false
unknown? Decode = false
unknown? Logical = false

abbrev pub decode? : Shape → Bool
decode? Unknown = false
decode? Wrong = false
decode? Size = false
decode? (Shape.Row x w) = false
decode? Lose = false
decode? (Light x) = false
decode? (Unread x) = false
decode? Decode = true
decode? Logical = false

unfoldable pub RecordAs : List ℕ → Shape → Type 0
RecordAs bytes Unknown = record_of bytes ≡ unknown
RecordAs bytes Wrong = record_of bytes ≡ wrong
RecordAs bytes Size = record_of bytes ≡ size (number bytes 1) (number bytes 3) (number bytes 5)
RecordAs bytes (Shape.Row x w) = (record_of bytes ≡ row x (numbers bytes 1 w)) × (w ≤ 16)
RecordAs bytes Lose = record_of bytes ≡ add lost (number bytes 1)
RecordAs bytes (Light x) = record_of bytes ≡ add (lit x) (number bytes 1)
RecordAs bytes (Unread x) = record_of bytes ≡ add (unread x) (number bytes 1)
RecordAs bytes Decode = record_of bytes ≡ report (get_or bytes 1 0) (number bytes 2)
RecordAs bytes Logical = record_of bytes ≡ encodes (number bytes 1)

-- Of w numbers; a row has at most 16, and of more there are none.
pub record RowBody (bytes : List ℕ) (w : ℕ) (r : List ℕ) : Type 0 where
  pub first : w ≤ 16 → take w r ≡ numbers bytes 1 w
  pub rest : (k : ℕ) → (w ≤ k) ⊎ (16 < w) → get_or r k 0 ≡ 0
