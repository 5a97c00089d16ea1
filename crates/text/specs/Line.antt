-- A list of bytes, put from its front on.
--   Adds  a text was put behind those that are put, as far as the list has room; nothing else changed, and it is the same list
use Rattle.std.specs.Prelude.{◌≡◌, List, ℕ}
use Rattle.text.specs.declared.Line.{Line}
use Rattle.text.specs.Text.{Puts}

pub record Adds (text : List ℕ) (old new : Line) : Type 0 where
  pub same : new.bytes.ghost_name ≡ old.bytes.ghost_name
  pub puts : Puts text old.end old.bytes.now new.bytes.now new.end
