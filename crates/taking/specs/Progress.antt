-- How far a block of input is done.
--   begin_of     nothing is put to the output yet
--   stand_of     where the program stands in a block, with these lists of code and shot
--   Ready       a record is to be taken, the one that the bytes left begin with, and there is room for its answer and its place
--   Going       what is taken, put and noted lies in the lists; a record is to be taken only where it is ready
--   record_at    the bytes of the next record; text_of: the lines of its answer
--   PutAll      a text is put behind what is there
--   Answered    the next record is answered: its lines are put, and nothing else of the output changed
--   Filled      records were taken, their lines put and their places noted; one at least, if one was to be taken
use Rattle.std.specs.Prelude.{◌≡◌, Bool, false, cond, List, ℕ, ◌+◌, ◌≤◌, ◌<◌, length, get_or, take, drop}
use Rattle.std.proofs.lemmas.List.Edits.{sets}
use Rattle.records.specs.declared.State.{State}
use Rattle.records.specs.declared.Reply.{Reply}
use Rattle.claim.specs.Calls.{Passed}
use Rattle.counts.specs.declared.Tally.{Tally}
use Rattle.counts.specs.Counts.{tallied}
use Rattle.lines.specs.Lines.{lines_of}
use Rattle.taking.specs.declared.Progress.{Progress}
use Rattle.cutting.specs.Cutting.{next_of, is_last}
use Rattle.cutting.specs.Room.{answer_most, is_full}
use Rattle.taking.specs.Taking.{Stand, Took}

-- Nothing of the output is put yet; a record is to be taken where there is one, and room for its answer.
abbrev pub begin_of : State → Tally → ℕ → Bool → List ℕ → ℕ → ℕ → Progress
begin_of st tally from ended block room most = record {
  state = st;
  tally = tally;
  taken = from;
  next = cond (is_full 0 room 0 most) 0 (next_of ended (drop from block));
  put = 0;
  noted = 0;
  over = false;
}

abbrev pub stand_of : Progress → Passed → List ℕ → Stand
stand_of p l block = record { state = p.state; lists = l; tally = p.tally; over = p.over; rest = drop p.taken block }

pub record Ready (ended : Bool) (p : Progress) (block out : List ℕ) (most : ℕ) : Type 0 where
  pub goes : p.over ≡ false
  pub next : p.next ≡ next_of ended (drop p.taken block)
  pub room : p.put + answer_most ≤ length out
  pub place : p.noted < most

pub record Going (ended : Bool) (p : Progress) (block out places : List ℕ) : Type 0 where
  pub put : p.put ≤ length out
  pub noted : p.noted ≤ length places
  pub ready : 0 < p.next → Ready ended p block out (length places)

-- The record's own bytes.
abbrev pub record_at : Progress → List ℕ → List ℕ
record_at p block = take p.next (drop p.taken block)

abbrev pub text_of : Progress → Reply → List ℕ → List ℕ → List ℕ → List ℕ
text_of p reply block x z = lines_of (get_or (record_at p block) 0 0) reply.answer x z reply.state.sizes.n

-- A text is put behind the first `at` bytes, and ends at `end`.
pub record PutAll (text : List ℕ) (at : ℕ) (old new : List ℕ) (end : ℕ) : Type 0 where
  pub put : new ≡ sets old at text
  pub ends : end ≡ at + length text
  pub fits : end ≤ length old

pub record Answered (ended : Bool) (p : Progress) (reply : Reply) (block x z old new : List ℕ) (most : ℕ) (r : Progress) : Type 0 where
  pub state : r.state ≡ reply.state
  pub tally : r.tally ≡ tallied p.tally p.next reply.answer
  pub over : r.over ≡ is_last reply.answer
  pub taken : r.taken ≡ p.taken + p.next
  pub noted : r.noted ≡ p.noted + 1
  pub text : new ≡ sets old p.put (text_of p reply block x z)
  pub put : r.put ≡ p.put + length (text_of p reply block x z)
  pub fits : r.put ≤ length old
  pub ready : 0 < r.next → Ready ended r block new most

pub record Filled (ended : Bool) (p : Progress) (l k : Passed) (block out places : List ℕ) (r : Progress) : Type 0 where
  pub took : Took ended (stand_of p l block) (stand_of r k block) r.put r.noted out places
  pub put : r.put ≤ length out
  pub noted : r.noted ≤ length places
  pub onward : 0 < p.next → p.taken < r.taken
  pub within : p.taken ≤ length block → r.taken ≤ length block
