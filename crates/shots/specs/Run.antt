-- Block after block. The contract of `read` does not say which bytes it gives, so that of the whole run says that there are some.
--   record_most         the bytes of the longest record, a row of 16 qubits
--   HasRoom            a block of input has room for a record, the output for an answer and its place
--   no_tally, no_output  nothing is counted, nothing is written
--   start              before the first block: a fresh start
--   standing           where the program stands between two blocks, with these bytes left
--   is_over             a write failed, or the records are over, after refusal 1 or a record that is cut off, or the input has ended
--   BlockRead          a block is read: only where it is not over, and with room behind the bytes held
--   BlockTaken         the records of the bytes held and read were taken and their lines written; what is left is held
--   bytes_read          the bytes that were read behind those held
--   BlocksTaken        blocks read and taken one after the other from a fresh start, and the bytes that all reads gave
--   Ran                the whole run: its blocks; the bytes of all reads are the input, of which the records were taken in their order, and the
--                      lines of all answers handed to the output; if it ended, and the records are not over and no write failed, nothing is left
use Rattle.std.specs.Prelude.{◌≡◌, Bool, true, false, ◌||◌, ◌⊎◌, List, [], ◌++◌, ℕ, ◌-◌, ◌^◌, ◌≤◌, ◌<◌, None, length, take, drop}
use Rattle.records.specs.States.{fresh_state}
use Rattle.claim.specs.Calls.{Passed}
use Rattle.counts.specs.declared.Tally.{Tally}
use Rattle.input.specs.declared.Refilled.{Refilled}
use Rattle.input.specs.Reading.{Refills}
use Rattle.output.specs.declared.Output.{Output}
use Rattle.cutting.specs.Cutting.{next_of}
use Rattle.cutting.specs.Room.{answer_most}
use Rattle.taking.specs.Taking.{Stand}
use Rattle.blocks.specs.Blocks.{Sent, begun}
use Rattle.shots.specs.declared.run.Between.{Between}

abbrev pub record_most : ℕ
record_most = 33

pub record HasRoom (block out places : ℕ) : Type 0 where
  pub bytes : record_most ≤ block
  pub answer : answer_most ≤ out
  pub place : 0 < places

abbrev pub no_tally : Tally
no_tally = record { bytes = 0; records = 0; codes = 0; decodes = 0; refusals = 0; last = None; more = 0 }

abbrev pub no_output : Output
no_output = record { bytes = 0; records = 0; failed = false }

abbrev pub start : Between
start = record { state = fresh_state; tally = no_tally; held = 0; output = no_output; last = false; ended = false; over = false; error = None }

abbrev pub standing : Between → Passed → List ℕ → Stand
standing a l rest = record { state = a.state; lists = l; tally = a.tally; over = a.last; rest = rest }

abbrev pub is_over : Between → Bool
is_over a = a.output.failed || a.last || a.ended

pub record BlockRead (a : Between) (old new : List ℕ) (f : Refilled) : Type 0 where
  pub goes : a.over ≡ false
  pub room : a.held < length old
  pub refills : Refills old new a.held f
  pub same : length new ≡ length old

pub record BlockTaken (a : Between) (f : Refilled) (l : Passed) (old : List ℕ) (k : Passed) (new : List ℕ) (r : Between) : Type 0 where
  pub sent : Sent f.ended (standing a l (take f.end old)) a.output (standing r k (take r.held new)) r.output
  pub held : r.held ≤ length new
  pub left : r.output.failed ≡ false → r.last ≡ false → next_of f.ended (take r.held new) ≡ 0
  pub ended : r.ended ≡ f.ended
  pub over : r.over ≡ is_over r
  pub error : r.error ≡ f.error

abbrev pub bytes_read : ℕ → Refilled → List ℕ → List ℕ
bytes_read held f block = take (f.end - held) (drop held block)

pub data BlocksTaken (l : Passed) : Between → Passed → List ℕ → List ℕ → Type 0 where
  none : {block : List ℕ} → BlocksTaken l start l block []
  another : {a r : Between} {k j : Passed} {old mid new input : List ℕ} {f : Refilled} → BlocksTaken l a k old input → BlockRead a old mid f → BlockTaken a f k mid j new r → BlocksTaken l r j new (input ++ bytes_read a.held f mid)

-- It ends at end of input, after refusal 1, after a record that is cut off (refusal 2), and at a write that failed; before that only if it has
-- read 2^63 bytes.
pub record Ran (l k : Passed) (block : List ℕ) (r : Between) : Type 0 where
  pub input : List ℕ
  pub blocks : BlocksTaken l r k block input
  pub sent : Sent r.ended (begun fresh_state no_tally l input) no_output (standing r k (take r.held block)) r.output
  pub left : r.ended ≡ true → r.output.failed ≡ false → r.last ≡ false → r.held ≡ 0
  pub over : r.over ≡ is_over r
  pub ends : (r.over ≡ true) ⊎ (2 ^ 63 ≤ length input)
