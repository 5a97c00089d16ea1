-- What a half leaves in its lists, by its word. Assumes nothing.
use mathlib.Core.Path.{◌≡◌, refl, ◌∙◌}
use mathlib.Core.Bool.{true, false, cond}
use mathlib.Core.Logic.{inr}
use mathlib.Core.List.{List}
use Prim.Native.Nat.{ℕ, ◌*◌, ◌%◌, zero-le}
use lib.ListN.{get_or}
use Rattle.binary.proofs.Bits.{never}
use Rattle.machine.specs.declared.Word.{Word}
use Rattle.machine.specs.declared.Word.TheVariants.{Certain, Unsure, None, Spent, Stopped}
use Rattle.machine.specs.Words.{finished?}
use Rattle.machine.specs.Report.{none?}
use Rattle.lists.specs.Cleared.{Cleared}
use Rattle.lists.specs.Filled.{Filled}
use Rattle.halves.specs.Starts.{Finished}

-- A list that is cleared from its start.
pub zero_filled : (n : ℕ) (l l' : List ℕ) → Cleared 0 n l l' → Filled (λ q. 0) n l l'
zero_filled n l l' d = record { long = d.long; first = λ q i. d.inside q zero-le i; rest = λ q i. d.outside q (inr i) }

-- A list that is not written, and one written by a function that agrees.
same_filled : (f : ℕ → ℕ) (n : ℕ) (l : List ℕ) → ((q : ℕ) → get_or l q 0 ≡ f q) → Filled f n l l
same_filled f n l h = record { long = refl; first = λ q i. h q; rest = λ q i. refl }

as_filled : (f g : ℕ → ℕ) (n : ℕ) (l l' : List ℕ) → ((q : ℕ) → f q ≡ g q) → Filled f n l l' → Filled g n l l'
as_filled f g n l l' h v = record { long = v.long; first = λ q i. v.first q i ∙ h q; rest = v.rest }

pub not_none : (w : Word) → finished? w ≡ true → none? w ≡ false
not_none Certain e = refl
not_none Unsure e = refl
not_none None e = never e refl
not_none Spent e = refl
not_none Stopped e = refl

module _ (n : ℕ) (w : Word) (marks forms correction : List ℕ) where
  abbrev Done : List ℕ → List ℕ → List ℕ → Type 0
  Done marks' forms' correction' =
      Finished n w (record { marks = marks; forms = forms; correction = correction }) (record { marks = marks'; forms = forms'; correction = correction' })

  kept : (m : ℕ) (l : List ℕ) → none? w ≡ false → Filled (λ q. cond (none? w) 0 (get_or l q 0)) m l l
  kept m l e = same_filled (λ q. cond (none? w) 0 (get_or l q 0)) m l (λ q. rw e)

  pub finish_flips : (correction' : List ℕ) → finished? w ≡ true → Filled (λ q. get_or forms (4 * q) 0 % 2) n correction correction' → Done marks forms correction'
  finish_flips correction' e f =
      record {
        marks = kept n marks (not_none w e);
        forms = kept (4 * n) forms (not_none w e);
        correction = as_filled (λ q. get_or forms (4 * q) 0 % 2) (λ q. cond (finished? w) (get_or forms (4 * q) 0 % 2) 0) n correction correction' (λ q. rw e) f;
      }

  module _ (correction' : List ℕ) (e : finished? w ≡ false) (d : Cleared 0 n correction correction') where
    f : Filled (λ q. 0) n correction correction'
    f = zero_filled n correction correction' d

    blank : Filled (λ q. cond (finished? w) (get_or forms (4 * q) 0 % 2) 0) n correction correction'
    blank = as_filled (λ q. 0) (λ q. cond (finished? w) (get_or forms (4 * q) 0 % 2) 0) n correction correction' (λ q. rw e) f

    pub finish_open : none? w ≡ false → Done marks forms correction'
    finish_open i = record { marks = kept n marks i; forms = kept (4 * n) forms i; correction = blank }

    pub finish_none : (marks' forms' : List ℕ) → none? w ≡ true → Cleared 0 n marks marks' → Cleared 0 (4 * n) forms forms' → Done marks' forms' correction'
    finish_none marks' forms' i m g =
        record {
          marks = as_filled (λ q. 0) (λ q. cond (none? w) 0 (get_or marks q 0)) n marks marks' (λ q. rw i) (zero_filled n marks marks' m);
          forms = as_filled (λ q. 0) (λ q. cond (none? w) 0 (get_or forms q 0)) (4 * n) forms forms' (λ q. rw i) (zero_filled (4 * n) forms forms' g);
          correction = blank;
        }
