-- Room for another answer.
--   answer_most  the room that an answer is sure to find in the output
--   is_full      another answer, or its place, has no room
use Rattle.std.specs.Prelude.{Bool, ◌||◌, ℕ, ◌+◌, ltb, leb}

abbrev pub answer_most : ℕ
answer_most = 16384

-- Another answer, or its place, has no room.
unfoldable pub is_full : ℕ → ℕ → ℕ → ℕ → Bool
is_full put room noted most = ltb room (put + answer_most) || leb most noted
