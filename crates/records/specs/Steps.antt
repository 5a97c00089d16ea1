-- What the function of one kind of record does, beside the whole promise.
--   Answered   the answer, the code and shot afterwards, and what is left in their lists, are the table's
--   Does       for whatever code and shot the state and the lists hold
--   Keeps      lists of code and shot keep their lengths, none is written that the record spares, and a refusal writes none and leaves the state that the table says
use Rattle.std.specs.Prelude.{◌≡◌, Bool, ℕ, length}
use Rattle.records.specs.declared.State.{State}
use Rattle.records.specs.declared.Refusal.{Refusal}
use Rattle.records.specs.declared.Answer.TheVariants.{Refused}
use Rattle.records.specs.declared.Reply.{Reply}
use Rattle.records.specs.Records.{Record}
use Rattle.records.specs.History.{History}
use Rattle.records.specs.Table.{refusal, afterwards}
use Rattle.records.specs.Lists.{Lists, Represents}
use Rattle.records.specs.Promise.{answer_of, Left, Spares, Says}

-- short: a list of code, shot or work is short; six: whether one of the six of a decode is.
pub record Answered (short : Bool) (six : ℕ → Bool) (w : Record) (a : History) (old new : Lists) (r : Reply) : Type 0 where
  pub answer : r.answer ≡ answer_of (refusal short six w a) w a
  pub next : Represents (afterwards (refusal short six w a) w a) r.state new
  pub lists : Left (refusal short six w a) w a old new

unfoldable pub Does : Bool → (ℕ → Bool) → Record → State → Lists → Lists → Reply → Type 0
Does short six w st old new r = (a : History) → Represents a st old → Answered short six w a old new r

pub record Keeps (w : Record) (st : State) (old new : Lists) (r : Reply) : Type 0 where
  pub flat : length new.flat ≡ length old.flat
  pub ends : length new.ends ≡ length old.ends
  pub shot : length new.shot ≡ length old.shot
  pub spares : Spares w old new
  pub refused : (n : Refusal) → r.answer ≡ Refused n → new ≡ old
  pub says : Says w st r
