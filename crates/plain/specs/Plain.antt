-- States and replies as plain numbers (include/rack.h).
--   state_of     the state that a state's numbers stand for
--   plain_state  the numbers of a state
--   plain_reply  the numbers of a reply: the answer, the table's number of a refusal, word and counts of the halves of a report
--   word_of      the word that a number stands for
use Rattle.std.specs.Prelude.{◌≡◌, Bool, not, cond, ℕ, eqb}
use Rattle.machine.specs.declared.Word.{Word}
use Rattle.machine.specs.declared.Word.TheVariants.{Certain, Unsure, None, Spent, Stopped}
use Rattle.machine.specs.declared.HalfReport.{HalfReport}
use Rattle.records.specs.declared.Phase.{Phase}
use Rattle.records.specs.declared.Phase.TheVariants.{Empty, Loading, Ready}
use Rattle.records.specs.declared.State.{State}
use Rattle.records.specs.declared.Answer.{Answer}
use Rattle.records.specs.declared.Answer.TheVariants.{Refused, Taken, Complete, Decoded}
use Rattle.records.specs.declared.Reply.{Reply}
use Rattle.records.specs.Table.{refusal_number}
use Rattle.records.specs.Window.{word_number}
use Rattle.plain.specs.declared.RackState.{RackState}
use Rattle.plain.specs.declared.RackHalf.{RackHalf}
use Rattle.plain.specs.declared.RackReply.{RackReply}

----------------------------------------------------------------------
-- States

abbrev pub phase_number : Phase → ℕ
phase_number Empty = 0
phase_number Loading = 1
phase_number Ready = 2

-- Any other number is no code.
abbrev pub phase_of : ℕ → Phase
phase_of p = cond (eqb p 1) Loading (cond (eqb p 2) Ready Empty)

abbrev pub flag_number : Bool → ℕ
flag_number b = cond b 1 0

abbrev pub flag_of : ℕ → Bool
flag_of f = not (eqb f 0)

abbrev pub state_of : RackState → State
state_of s =
    record {
      phase = phase_of s.phase;
      sizes = record { n = s.n; x = s.x; z = s.z };
      rows = s.rows;
      clash = flag_of s.clash;
      spoiled = flag_of s.spoiled;
      stale = flag_of s.stale;
      reports = s.reports;
    }

abbrev pub plain_state : State → RackState
plain_state s =
    record {
      phase = phase_number s.phase;
      clash = flag_number s.clash;
      spoiled = flag_number s.spoiled;
      stale = flag_number s.stale;
      n = s.sizes.n;
      x = s.sizes.x;
      z = s.sizes.z;
      rows = s.rows;
      reports = s.reports;
    }

----------------------------------------------------------------------
-- Replies

-- Any other number is an unfinished half's.
abbrev pub word_of : ℕ → Word
word_of w = cond (eqb w 1) Certain (cond (eqb w 2) Unsure (cond (eqb w 3) None (cond (eqb w 4) Spent Stopped)))

-- A word's number stands for it: the half of a reply is asked about by its own word.
unfoldable pub WordLaw : Type 0
WordLaw = (w : Word) → word_of (word_number w) ≡ w

abbrev pub plain_half : HalfReport → RackHalf
plain_half h = record { word = word_number h.word; fixed = h.fixed; turns = h.turns; guesses = h.guesses; live = h.live }

-- Of an answer that is no report.
abbrev pub no_half : RackHalf
no_half = record { word = 0; fixed = 0; turns = 0; guesses = 0; live = 0 }

abbrev pub unreported : ℕ → ℕ → RackState → RackReply
unreported answer refusal s = record { state = s; answer = answer; refusal = refusal; x = no_half; z = no_half }

abbrev pub plain_answer : Answer → RackState → RackReply
plain_answer Taken s = unreported 0 0 s
plain_answer (Complete sizes) s = unreported 1 0 s
plain_answer (Decoded r) s = record { state = s; answer = 2; refusal = 0; x = plain_half r.x; z = plain_half r.z }
plain_answer (Refused why) s = unreported 3 (refusal_number why) s

abbrev pub plain_reply : Reply → RackReply
plain_reply r = plain_answer r.answer (plain_state r.state)
