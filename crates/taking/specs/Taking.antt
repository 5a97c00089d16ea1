-- Records taken from bytes, one call of `step` for each.
--   passed_by    what the lists hold that pass from call to call
--   Stand       where the program stands: the state, the lists of code and shot, the counts, whether the records are over, and the bytes left
--   One         the call takes the record that the bytes left begin with, with state and lists as they stand, and the records are not over
--   next        where the program stands after the call
--   Takes       calls one after the other, each of the next record: no record is dropped, taken twice or taken out of its order
--   line_of      the lines of a call's answer, with the corrections that the call left
--   lines_all    those of all calls; places_from: where the lines of each end
--   Took        calls were made, and their lines put to the output, with the place where the lines of each end
use Rattle.std.specs.Prelude.{◌≡◌, Bool, false, List, [], ◌∷◌, ◌++◌, ℕ, ◌+◌, ◌<◌, length, get_or, take, drop}
use Rattle.records.specs.declared.State.{State}
use Rattle.records.specs.declared.PassedLists.{PassedLists}
use Rattle.claim.specs.Calls.{Passed, passed, passed_of, Step, step, Keeps}
use Rattle.counts.specs.declared.Tally.{Tally}
use Rattle.counts.specs.Counts.{tallied}
use Rattle.lines.specs.Lines.{lines_of}
use Rattle.cutting.specs.Cutting.{next_of, is_last}

abbrev pub passed_by : PassedLists → Passed
passed_by l = passed l.flat.now l.ends.now l.shot.now l.window.now

pub record Stand : Type 0 where
  pub state : State
  pub lists : Passed
  pub tally : Tally
  pub over : Bool
  pub rest : List ℕ

pub record One (ended : Bool) (w : Stand) (k : Step) : Type 0 where
  pub goes : w.over ≡ false
  pub more : 0 < next_of ended w.rest
  pub bytes : k.bytes ≡ take (next_of ended w.rest) w.rest
  pub keeps : Keeps w.state w.lists (step k)

abbrev pub next : Bool → Stand → Step → Stand
next ended w k = record {
  state = k.reply.state;
  lists = passed_of k.left;
  tally = tallied w.tally (length k.bytes) k.reply.answer;
  over = is_last k.reply.answer;
  rest = drop (next_of ended w.rest) w.rest;
}

pub data Takes (ended : Bool) : Stand → List Step → Stand → Type 0 where
  none : {w : Stand} → Takes ended w [] w
  more : {w v : Stand} {k : Step} {ks : List Step} → One ended w k → Takes ended (next ended w k) ks v → Takes ended w (k ∷ ks) v

----------------------------------------------------------------------
-- Lines

abbrev pub line_of : Step → List ℕ
line_of k =
    lines_of (get_or k.bytes 0 0) k.reply.answer k.left.six.x.correction k.left.six.z.correction k.reply.state.sizes.n

unfoldable pub lines_all : List Step → List ℕ
lines_all [] = []
lines_all (k ∷ ks) = line_of k ++ lines_all ks

unfoldable pub places_from : ℕ → List Step → List ℕ
places_from at [] = []
places_from at (k ∷ ks) = (at + length (line_of k)) ∷ places_from (at + length (line_of k)) ks

pub record Took (ended : Bool) (w v : Stand) (put noted : ℕ) (out places : List ℕ) : Type 0 where
  pub calls : List Step
  pub takes : Takes ended w calls v
  pub text : take put out ≡ lines_all calls
  pub ends : take noted places ≡ places_from 0 calls
