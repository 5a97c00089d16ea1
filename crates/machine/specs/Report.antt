-- What is reported of a half, and what its lists hold (document 01, "Lists lent to a decode").
--   marked      how many qubits have a mark
--   report      the word and the four counts: fixed, turns, guesses, live
--   Shown       the report, and at each qubit its mark, its form and whether it is flipped
--   shown       what a half shows that ended so
use Rattle.std.specs.Prelude.{Bool, true, false, not, ◌&&◌, cond, ℕ, eqb}
use Rattle.binary.specs.Bits.{tally}
use Rattle.binary.specs.Meaning.{Qubits}
use Rattle.machine.specs.declared.Word.{Word}
use Rattle.machine.specs.declared.Word.TheVariants.{Certain, Unsure, None, Spent, Stopped}
use Rattle.machine.specs.declared.HalfReport.{HalfReport}
use Rattle.machine.specs.Words.{finished?}
use Rattle.machine.specs.Machine.{Form, End, Half, decoded}
use Rattle.machine.specs.Fillings.{filling}

abbrev pub marked : ℕ → (ℕ → ℕ) → ℕ → ℕ
marked n mark m = tally n (λ q. eqb (mark q) m)

-- Reported: fixed (marks 1), turns (marks 2 and 3), guesses (marks 3), live. After none the first three are those of the turn, or the
-- start, that failed, that turn counted, and live is 0.
abbrev pub report : ℕ → End → HalfReport
report n e = record {
  word = e.word;
  fixed = marked n e.state.mark 1;
  turns = e.state.turns;
  guesses = marked n e.state.mark 3;
  live = e.state.forms.live;
}

abbrev pub none? : Word → Bool
none? Certain = false
none? Unsure = false
none? None = true
none? Spent = false
none? Stopped = false

pub record Shown : Type 0 where
  pub report : HalfReport
  pub mark : ℕ → ℕ
  pub form : ℕ → Form
  pub flip : Qubits

-- After none marks and forms are 0. A finished half's correction sets all live guesses to 0; any other half has none.
unfoldable pub shown : ℕ → End → Shown
shown n e = record {
  report = report n e;
  mark = λ q. cond (none? e.word) 0 (e.state.mark q);
  form = λ q k. not (none? e.word) && e.state.forms.form q k;
  flip = λ q. finished? e.word && filling e.state.forms.live e.state.forms.form (λ k. false) q;
}

-- What the half of a code and a shot shows, with a guess budget and a turn limit.
abbrev pub outcome : Half → ℕ → ℕ → Shown
outcome h budget limit = shown h.size (decoded h budget limit)
