-- The rank, counted by the route.
--   ClearedRank  when all columns are taken, as many rows have cleared one as the rank says
use Rattle.std.specs.Prelude.{◌≡◌, List, ℕ, ltb, length}
use Rattle.binary.specs.Meaning.{Row, Below}
use Rattle.binary.specs.Rank.{rank}
use Rattle.search.specs.Route.{route}

-- All columns are lost: they are taken ascending.
unfoldable pub ClearedRank : Type 0
ClearedRank = (n : ℕ) (rs : List Row) → Below n rs → length (route n rs (λ q. ltb q n)).columns ≡ rank n rs
