-- Rows of the code packed one after the other, and what `pack_rows` promises.
--   room_for     whether so many rows of n columns, from a row on, find room
--   RowsPut     the work list holds these rows
--   PackedFrom  what `pack_rows` does
use Rattle.std.specs.Prelude.{◌≡◌, Bool, true, false, ◌&&◌, List, ℕ, leb, length}
use Rattle.code.specs.Lists.{rows_from}
use Rattle.packing.specs.Packed.{words_for, Packed}

-- Document 01's sizes: up to 1,024 columns and 512 rows of a kind, at most 512 of the other kind before them.
unfoldable pub room_for : ℕ → ℕ → ℕ → ℕ → Bool
room_for n first count size = leb n 1024 && leb count 512 && leb first 512 && leb 8192 size

pub record RowsPut (n : ℕ) (flat ends : List ℕ) (first count : ℕ) (work work' : List ℕ) : Type 0 where
  pub long : length work' ≡ length work
  pub packed : Packed n (words_for n) (rows_from flat ends first count) work'

-- r is the answer.
pub record PackedFrom (n : ℕ) (flat ends : List ℕ) (first count : ℕ) (work work' : List ℕ) (r : Bool) : Type 0 where
  pub answer : r ≡ room_for n first count (length work)
  pub put : r ≡ true → RowsPut n flat ends first count work work'
  pub refused : r ≡ false → work' ≡ work
