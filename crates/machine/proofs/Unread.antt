-- A half without an unread row has document 01's checks, and ends as there. Assumes nothing.
use mathlib.Core.Path.{◌≡◌, refl, ap, ◌∙◌}
use mathlib.Core.Bool.{Bool, false, not}
use mathlib.Core.List.{List, [], ◌∷◌}
use Prim.Native.Nat.{ℕ, suc}
use Rattle.binary.specs.Meaning.{Row, Check}
use Rattle.machine.specs.Machine.{keep_if, readings, checks, fixed_of, start, freest, run, decoded}
use Rattle.machine.specs.Report.{shown}
use Rattle.machine.specs.Unread.{every_row, before, AllReadLaw}

all_kept : (i : ℕ) (lit unread : ℕ → Bool) (rows : List Row) → ((k : ℕ) → unread k ≡ false) → readings i lit unread rows ≡ every_row i lit rows
all_kept i lit unread [] none = refl
all_kept i lit unread (r ∷ rows) none =
    ap (λ (b : Bool). keep_if (not b) (record { lit = lit i; row = r }) (readings (suc i) lit unread rows)) (none i)
    ∙ ap (record { lit = lit i; row = r } ∷◌) (all_kept (suc i) lit unread rows none)

pub all_read : AllReadLaw
unfolding AllReadLaw before decoded
all_read h none =
    let same = all_kept 0 h.lit h.unread h.rows none in
    record {
      checks = same;
      outcome = λ budget limit.
          ap (λ (cs : List Check). shown h.size (run cs h.size (freest cs h.size) budget limit (suc limit) (start cs h.lost (fixed_of h)))) same;
    }
