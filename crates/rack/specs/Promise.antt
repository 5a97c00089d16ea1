-- The promise of the library's call for a record.
--   version      the version of calls, lists and structs that the header has too
--   RackPromise  the promise of `rack_step`: that of `stream::step`, in plain numbers
use Rattle.std.specs.Prelude.{◌≡◌, List, ℕ}
use Rattle.records.specs.declared.Reply.{Reply}
use Rattle.records.specs.Lists.{Lent}
use Rattle.records.specs.Promise.{Promise}
use Rattle.plain.specs.declared.RackState.{RackState}
use Rattle.plain.specs.declared.RackReply.{RackReply}
use Rattle.plain.specs.Plain.{state_of, plain_reply}

abbrev pub version : ℕ
version = 8

-- The numbers of a reply that `stream::step` promises at the state that the numbers given stand for.
pub record RackPromise (s : RackState) (bytes : List ℕ) (old new : Lent) (r : RackReply) : Type 0 where
  pub reply : Reply
  pub promised : Promise (state_of s) bytes old new reply
  pub numbers : r ≡ plain_reply reply
