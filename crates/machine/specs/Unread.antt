-- Rows that could not be read (document 02, request a): without them every case of document 01 comes out as before.
--   every_row    the checks as document 01 has them: every row of the half, with its reading
--   before      how the half ends over these, every row taken as read
--   AllRead     the half has those checks, and ends so
--   AllReadLaw  each half without an unread row is so
use Rattle.std.specs.Prelude.{◌≡◌, Bool, false, List, [], ◌∷◌, ℕ, suc}
use Rattle.binary.specs.Meaning.{Row, Check}
use Rattle.machine.specs.Machine.{End, Half, checks, fixed_of, start, freest, run}
use Rattle.machine.specs.Report.{shown, outcome}

-- From row i on.
abbrev pub every_row : ℕ → (ℕ → Bool) → List Row → List Check
every_row i lit [] = []
every_row i lit (r ∷ rs) = record { lit = lit i; row = r } ∷ every_row (suc i) lit rs

unfoldable pub before : Half → ℕ → ℕ → End
before h budget limit =
    let cs = every_row 0 h.lit h.rows in
    run cs h.size (freest cs h.size) budget limit (suc limit) (start cs h.lost (fixed_of h))

pub record AllRead (h : Half) : Type 0 where
  pub checks : checks h ≡ every_row 0 h.lit h.rows
  pub outcome : (budget limit : ℕ) → outcome h budget limit ≡ shown h.size (before h budget limit)

unfoldable pub AllReadLaw : Type 0
AllReadLaw = (h : Half) → ((i : ℕ) → h.unread i ≡ false) → AllRead h
