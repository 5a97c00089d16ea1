-- Writing out. Of a write no contract says more than how many bytes it took.
--   passing  the errors after which a read or a write is tried again: EINTR, interrupted, and EAGAIN, no room or nothing to read for now
--   Step     what one write of the bytes behind the first k of n answers: how many are taken then, or that it failed, which took nothing
--   Reached  k of n bytes were taken by writes that each begin where the last one ended, the first at 0, none after one that failed
--   Written  what writing n bytes answers: how many were taken, and that it failed exactly where they are fewer
--   Whole    the records, from the first, whose lines lie within the first k bytes; each place is where a record's lines end
--   Taken    the output after a text with the places of its records: the bytes taken are counted, and the records that they answer in full
--   Flushed  the same of an output that has not failed; one that has takes nothing more
--   Drained  the bytes counted are those that writes in turn took; Flush: both
use Rattle.std.specs.Prelude.{◌≡◌, Bool, true, false, ◌||◌, List, ℕ, ◌≤◌, ◌<◌, eqb, ltb, ℤ, pos, negsuc, length, get_or, Option, Some, IfSome}
use Rattle.counts.specs.Counts.{total}
use Rattle.output.specs.declared.Output.{Output}

abbrev pub passing : ℤ → Bool
passing (pos e) = eqb e 11 || eqb e 4
passing (negsuc e) = false

abbrev pub Step : ℕ → ℕ → Option ℕ → Type 0
Step k n r = IfSome r (λ m. (k ≤ m) × (m ≤ n))

pub data Reached (n : ℕ) : ℕ → Type 0 where
  begun : Reached n 0
  further : {k m : ℕ} → Reached n k → Step k n (Some m) → Reached n m

pub record Written (n k : ℕ) (b : Bool) : Type 0 where
  pub most : k ≤ n
  pub failed : b ≡ ltb k n

pub record Whole (places : List ℕ) (k r : ℕ) : Type 0 where
  pub most : r ≤ length places
  pub each : (i : ℕ) → i < r → get_or places i 0 ≤ k
  pub next : r < length places → k < get_or places r 0

pub record Taken (o : Output) (text places : List ℕ) (r : Output) : Type 0 where
  pub count : ℕ
  pub whole : ℕ
  pub written : Written (length text) count r.failed
  pub answered : Whole places count whole
  pub bytes : r.bytes ≡ total o.bytes count
  pub records : r.records ≡ total o.records whole

pub record Drained (o : Output) (n : ℕ) (r : Output) : Type 0 where
  pub count : ℕ
  pub writes : Reached n count
  pub bytes : r.bytes ≡ total o.bytes count

pub record Flushed (o : Output) (text places : List ℕ) (r : Output) : Type 0 where
  pub shut : o.failed ≡ true → r ≡ o
  pub taken : o.failed ≡ false → Taken o text places r

pub record Flush (o : Output) (text places : List ℕ) (r : Output) : Type 0 where
  pub flushed : Flushed o text places r
  pub writes : o.failed ≡ false → Drained o (length text) r
