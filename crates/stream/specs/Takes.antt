-- What the function of any record but a decode does.
--   Takes     the lists keep their lengths, a refusal writes none, and the record is taken up as the table says
use Rattle.std.specs.Prelude.{◌≡◌, Bool, List, ℕ}
use Rattle.records.specs.declared.State.{State}
use Rattle.records.specs.declared.Reply.{Reply}
use Rattle.records.specs.Records.{record_of}
use Rattle.records.specs.Lists.{Lists, short_lists}
use Rattle.records.specs.Steps.{Does, Keeps}

-- short is what the caller says of the lists of code and shot, of the window and of a work list.
pub record Takes (short : Bool) (bytes : List ℕ) (st : State) (old new : Lists) (r : Reply) : Type 0 where
  pub keeps : Keeps (record_of bytes) st old new r
  pub does : (window work : ℕ) (six : ℕ → Bool) → short ≡ short_lists old window work → Does short six (record_of bytes) st old new r
