-- Lengths, and elements past n, that stay. Assumes nothing.
use mathlib.Core.Path.{refl, ◌∙◌}
use Prim.Native.Nat.{ℕ}
use Rattle.turns.specs.Turns.{Working, Stays}

pub stays_same : (n : ℕ) (old : Working) → Stays n old old
stays_same n old = record { marks_long = refl; forms_long = refl; work_long = refl; marks_rest = λ q h. refl; forms_rest = λ q h. refl }

pub stays_on : (n : ℕ) (old mid new : Working) → Stays n old mid → Stays n mid new → Stays n old new
stays_on n old mid new a b =
    record {
      marks_long = b.marks_long ∙ a.marks_long;
      forms_long = b.forms_long ∙ a.forms_long;
      work_long = b.work_long ∙ a.work_long;
      marks_rest = λ q i. b.marks_rest q i ∙ a.marks_rest q i;
      forms_rest = λ q i. b.forms_rest q i ∙ a.forms_rest q i;
    }
