-- A try that tells nothing, its peeled qubits open again, keeps what a try promises. Assumes nothing.
use mathlib.Core.Path.{◌≡◌, refl, ◌∙◌, fun_ext}
use mathlib.Core.Bool.{Bool, true, false}
use mathlib.Core.Logic.{⊎_elim}
use mathlib.Core.List.{List}
use Prim.Native.Nat.{ℕ, ◌≤◌, ◌<◌}
use lib.Dec.{eqb, ltb}
use lib.ListN.{get_or}
use borrow.Author.Tests.{lt-ltb, le-ltb}
use Rattle.binary.proofs.Bits.{never}
use Rattle.binary.proofs.WordBits.{order}
use Rattle.lists.specs.Filled.{Filled}
use Rattle.machine.specs.Lists.{view}
use Rattle.scans.specs.Rows.{RowLists}
use Rattle.turns.specs.Turns.{Working}
use Rattle.turns.specs.Runs.{end_of}
use Rattle.turns.proofs.Stays.{stays_on}
use Rattle.trying.specs.declared.TryAnswer.{TryAnswer}
use Rattle.trying.specs.declared.TryAnswer.TheVariants.{Unknown}
use Rattle.trying.specs.Entries.{rows_over}
use Rattle.trying.specs.Turns.{reopened}
use Rattle.trying.specs.Trying.{enough?, Tried, Tries}
use Rattle.trying.proofs.Running.{unknown_reaches}

module _ (n : ℕ) (c : RowLists) (limit fixed : ℕ) (old : Working) (enough : enough? n c old ≡ true) where
  pub tries_unknown : (mid : Working) (r : TryAnswer) → Tried n c limit fixed old mid r → (marks' : List ℕ) → Filled (λ q. reopened (get_or mid.marks q 0)) n mid.marks marks'
      → Tries n c limit fixed old (record { marks = marks'; forms = mid.forms; work = mid.work }) Unknown
  tries_unknown mid r v marks' again =
      record {
        stays = stays_on n old mid new v.stays (record { marks_long = again.long; forms_long = refl; work_long = refl; marks_rest = again.rest; forms_rest = λ i h. refl });
        refused = λ i. never enough i;
        unknown = λ i f. fun_ext λ q. ⊎_elim (λ (h : q < n). rw (lt-ltb q n h) (again.first q h ∙ v.marks q ∙ as_was q h (f q))) (λ (h : n ≤ q). rw (le-ltb q n h)) (order q n);
        within = λ k i. let z : ◌≡◌ {A = Bool} true false = cc in never refl z;
        tells = λ flat good given. unknown_reaches n (rows_over flat c) limit new (λ budget. end_of n (rows_over flat c) budget limit old);
      }
    where
      new : Working
      new = record { marks = marks'; forms = mid.forms; work = mid.work }

      as_was : (q : ℕ) → q < n → eqb (view n old.marks q) 2 ≡ false → reopened (get_or old.marks q 0) ≡ get_or old.marks q 0
      as_was q h e = let t : ltb q n ≡ true = lt-ltb q n h in let d : eqb (get_or old.marks q 0) 2 ≡ false = rw t at e in rw d
