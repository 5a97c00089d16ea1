-- A half with a budget up to 63 (document 02, request e): "old shots with a budget up to 63 give the same marks, counts and flips".
--   OneWord     each form's first word is the form, and its other words are 0; marks and correction are as ever
--   OneWordLaw  the lists of each half with such a budget are so
use Rattle.std.specs.Prelude.{◌≡◌, ℕ, ◌+◌, ◌*◌, ◌≤◌, ◌<◌, get_or}
use Rattle.binary.specs.Words.{bit}
use Rattle.machine.specs.Machine.{Half}
use Rattle.machine.specs.Report.{Shown, outcome}
use Rattle.machine.specs.Lists.{HalfLists, digit, Shows}

pub record OneWord (n : ℕ) (s : Shown) (l : HalfLists) : Type 0 where
  pub marks : (q : ℕ) → q < n → get_or l.marks q 0 ≡ s.mark q
  pub first : (q : ℕ) → q < n → (k : ℕ) → bit (get_or l.forms (4 * q) 0) k ≡ s.form q k
  pub others : (q : ℕ) → q < n → (v : ℕ) → 1 ≤ v → v < 4 → get_or l.forms (4 * q + v) 0 ≡ 0
  pub correction : (q : ℕ) → q < n → get_or l.correction q 0 ≡ digit (s.flip q)

unfoldable pub OneWordLaw : Type 0
OneWordLaw =
    (h : Half) (budget limit : ℕ) → budget ≤ 63 → (old new : HalfLists) → Shows h.size (outcome h budget limit) old new
    → OneWord h.size (outcome h budget limit) new
