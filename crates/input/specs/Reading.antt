-- Reading in. Of a read no contract says more than how many bytes it gave.
--   is_again   whether a read failed and is to be tried again
--   Attempt    one read of up to n bytes: how many it gave, or the error with which it failed
--   Attempts   so many reads, each but the first because the one before it is to be tried again, and what the last one gave
--   reads_most  the most reads that are made
--   gave, last_read  what the last read behind the bytes held gave, by the bytes that came and its error
--   Refills    bytes were read behind those held, which stay; the input has ended where none came, as where a read failed, and the last read is
--              to be tried again only where all reads are used up; or those held do not lie in the block, and nothing was read
--   kept       a block with the bytes from `from` up to `end` moved to its front
--   Keeps      they were, and are so many; or they do not lie in the block, and nothing changed
use Rattle.std.specs.Prelude.{◌≡◌, Bool, true, false, List, ◌++◌, ℕ, suc, ◌-◌, ◌^◌, ◌≤◌, ◌<◌, eqb, ℤ, length, take, drop, Option, None, Some, IfSome, Result, Ok, Err, IfOk}
use Rattle.output.specs.Writing.{passing}
use Rattle.input.specs.declared.Refilled.{Refilled}

abbrev pub is_again : Result ℕ ℤ → Bool
is_again (Ok n) = false
is_again (Err e) = passing e

abbrev pub Attempt : ℕ → Result ℕ ℤ → Type 0
Attempt n r = IfOk r (λ k. k ≤ n)

pub data Attempts (n : ℕ) : ℕ → Result ℕ ℤ → Type 0 where
  first : {r : Result ℕ ℤ} → Attempt n r → Attempts n 1 r
  another : {k : ℕ} {r s : Result ℕ ℤ} → Attempts n k r → is_again r ≡ true → Attempt n s → Attempts n (suc k) s

abbrev pub reads_most : ℕ
reads_most = 2 ^ 64 - 1

abbrev pub gave : ℕ → Option ℤ → Result ℕ ℤ
gave n None = Ok n
gave n (Some e) = Err e

abbrev pub last_read : ℕ → Refilled → Result ℕ ℤ
last_read held r = gave (r.end - held) r.error

pub record Refills (old new : List ℕ) (held : ℕ) (r : Refilled) : Type 0 where
  pub stays : take held new ≡ take held old
  pub more : held ≤ r.end
  pub most : held ≤ length old → r.end ≤ length old
  pub ended : r.ended ≡ eqb r.end held
  pub reads : held ≤ length old → Attempts (length old - held) r.reads (last_read held r)
  pub failed : IfSome r.error (λ e. r.end ≡ held)
  pub again : is_again (last_read held r) ≡ true → r.reads ≡ reads_most
  pub outside : length old < held → (r ≡ record { end = held; ended = true; error = None; reads = 0 }) × (new ≡ old)

abbrev pub kept : List ℕ → ℕ → ℕ → List ℕ
kept block from end = take (end - from) (drop from block) ++ drop (end - from) block

pub record Keeps (old new : List ℕ) (from end r : ℕ) : Type 0 where
  pub moved : from ≤ end → end ≤ length old → (r ≡ end - from) × (new ≡ kept old from end)
  pub unmoved : end < from → (r ≡ 0) × (new ≡ old)
  pub outside : length old < end → (r ≡ 0) × (new ≡ old)
