-- The rows of a half as a call is handed them.
--   rows_of  what the lists hold
--   sized?   whether the sizes are document 01's, and each row has its reading
use Rattle.std.specs.Prelude.{Bool, ◌&&◌, ℕ, ◌+◌, leb, length}
use Rattle.scans.specs.declared.HalfRows.{HalfRows}
use Rattle.scans.specs.Rows.{RowLists}

abbrev pub rows_of : HalfRows → RowLists
rows_of h = record { flat = h.code.flat.now; ends = h.code.ends.now; lit = h.lit.now; first = h.rows.first.0; count = h.rows.count }

unfoldable pub sized? : ℕ → RowLists → Bool
sized? n c = leb n 1024 && leb c.count 512 && leb (c.first + c.count) 1024 && leb (c.first + c.count) (length c.lit)
