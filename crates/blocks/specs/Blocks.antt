-- A block of input, a buffer of output at a time.
--   Sent     records were taken, one call after the other, and the lines of all their answers handed to the output in their order
--   begun    nothing of a block is taken
--   stand    where the program stands in a block, with these lists of code and shot
--   Emptied  what was put was handed to the output; after a failed write no record is taken
--   Begins   a record is to be taken, the one that the bytes left begin with, and there is room for its answer
--   Went     a record more was taken; another is to be taken unless a write failed or the records are over
--   Done     the records of a block were taken: unless a write failed or the records are over, what is left holds no whole record
use Rattle.std.specs.Prelude.{◌≡◌, Bool, false, cond, ◌||◌, List, ℕ, ◌≤◌, ◌<◌, length, take, drop}
use Rattle.records.specs.declared.State.{State}
use Rattle.claim.specs.Calls.{Passed, Step}
use Rattle.counts.specs.declared.Tally.{Tally}
use Rattle.output.specs.declared.Output.{Output}
use Rattle.output.specs.Writing.{Flush, Flushed}
use Rattle.taking.specs.declared.Progress.{Progress}
use Rattle.cutting.specs.Cutting.{next_of}
use Rattle.taking.specs.Taking.{Stand, Takes, lines_all, places_from}
use Rattle.cutting.specs.Room.{is_full}
use Rattle.blocks.specs.declared.Block.{Block}

pub record Sent (ended : Bool) (w : Stand) (o : Output) (v : Stand) (p : Output) : Type 0 where
  pub calls : List Step
  pub takes : Takes ended w calls v
  pub written : Flushed o (lines_all calls) (places_from 0 calls) p

abbrev pub begun : State → Tally → Passed → List ℕ → Stand
begun st tally l block = record { state = st; lists = l; tally = tally; over = false; rest = block }

abbrev pub stand : Block → Passed → List ℕ → Stand
stand b l block = record { state = b.state; lists = l; tally = b.tally; over = b.over; rest = drop b.taken block }

pub record Emptied (ended : Bool) (p : Progress) (o : Output) (block out places : List ℕ) (r : Block) : Type 0 where
  pub state : r.state ≡ p.state
  pub tally : r.tally ≡ p.tally
  pub taken : r.taken ≡ p.taken
  pub over : r.over ≡ p.over
  pub next : r.next ≡ cond (r.output.failed || r.over) 0 (next_of ended (drop r.taken block))
  pub written : Flush o (take p.put out) (take p.noted places) r.output

pub record Begins (ended : Bool) (b : Block) (block : List ℕ) (long most : ℕ) : Type 0 where
  pub more : 0 < b.next
  pub next : b.next ≡ next_of ended (drop b.taken block)
  pub goes : b.over ≡ false
  pub room : is_full 0 long 0 most ≡ false

pub record Went (ended : Bool) (b : Block) (l k : Passed) (block : List ℕ) (r : Block) : Type 0 where
  pub sent : Sent ended (stand b l block) b.output (stand r k block) r.output
  pub more : b.taken < r.taken
  pub within : r.taken ≤ length block
  pub next : r.next ≡ cond (r.output.failed || r.over) 0 (next_of ended (drop r.taken block))

pub record Done (ended full : Bool) (w : Stand) (o : Output) (k : Passed) (block : List ℕ) (r : Block) : Type 0 where
  pub sent : Sent ended w o (stand r k block) r.output
  pub within : r.taken ≤ length block
  pub left : full ≡ false → r.output.failed ≡ false → r.over ≡ false → next_of ended (drop r.taken block) ≡ 0
