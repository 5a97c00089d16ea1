-- The rows of a list, one after another: the numbers of each of the half's rows among them are changed, and what each change keeps holds of the list. Assumes nothing.
use mathlib.Core.Path.{◌≡◌, refl, ◌∙◌, subst}
use mathlib.Core.Bool.{Bool, true, false, cond}
use mathlib.Core.List.{List, [], ◌∷◌}
use Prim.Native.Nat.{ℕ, ◌+◌, ◌≤◌, ◌<◌}
use native.Mathlib.Numerals.{add-one}
use native.Mathlib.Omega.{arith}
use lib.Dec.{eqb}
use lib.ListN.{length, get_or, drop}
use lib.Seq.{drop-cons}
use borrow.Author.Tests.{eqb-true, eqb-false, eq-eqb, ne_eqb}
use Rattle.binary.specs.Meaning.{has}
use Rattle.binary.proofs.Bits.{bit}
use Rattle.code.specs.Tests.{Distinct}
use Rattle.trying.specs.Entries.{Entry, entry_in, EntryPut}

pub drop_here : (l : List ℕ) (k : ℕ) → k < length l → drop k l ≡ get_or l k 0 ∷ drop (k + 1) l
drop_here l k h = rw (add-one k) (drop-cons l k 0 h)

-- The half's rows that are in the rest of the list have the numbers from before, all others those from after; and each of these is right.
pub record Walking (first count : ℕ) (before after : ℕ → Entry) (Right : ℕ → Type 0) (Kept : List ℕ → Type 0) (rest work : List ℕ) : Type 0 where
  pub once : 0 < count → Distinct rest
  pub entries : (j : ℕ) → j < count → entry_in work j ≡ cond (has rest (first + j)) (before j) (after j)
  pub kept : Kept work
  pub right : (j : ℕ) → j < count → has rest (first + j) ≡ false → Right j

module _ (first count : ℕ) (before after : ℕ → Entry) (Right : ℕ → Type 0) (Kept : List ℕ → Type 0) where
  abbrev Walk : List ℕ → List ℕ → Type 0
  Walk = Walking first count before after Right Kept

  -- What holds of a row that needs no change.
  abbrev pub Unchanged : ℕ → Type 0
  Unchanged j = (before j ≡ after j) × Right j

  pub walk_start : (on work : List ℕ) → (0 < count → Distinct on) → ((j : ℕ) → j < count → entry_in work j ≡ before j) → Kept work
      → ((j : ℕ) → j < count → has on (first + j) ≡ false → Unchanged j) → Walk on work
  walk_start on work once entries kept off =
      record {
        once = once;
        entries = λ j h. entries j h ∙ bit (has on (first + j)) (λ e. rw e) (λ e. rw e (off j h e).0);
        kept = kept;
        right = λ j h e. (off j h e).1;
      }

  module _ (r : ℕ) (rest work : List ℕ) (s : Walk (r ∷ rest) work) where
    pub walk_other : ((j : ℕ) → j < count → r ≡ first + j → Unchanged j) → Walk rest work
    walk_other same =
        record {
          once = λ h. (s.once h).1;
          entries = λ j h. s.entries j h ∙ bit (eqb r (first + j)) (λ e. rw e (at j h e (has rest (first + j)))) (λ e. rw e);
          kept = s.kept;
          right = λ j h e. bit (eqb r (first + j)) (λ t. (same j h (eqb-true r (first + j) t)).1) (λ t. s.right j h (rw (t, e)));
        }
      where
        at : (j : ℕ) → j < count → eqb r (first + j) ≡ true → (b : Bool) → before j ≡ cond b (before j) (after j)
        at j h e true = refl
        at j h e false = (same j h (eqb-true r (first + j) e)).0

    module _ (i : ℕ) (is : r ≡ first + i) (h : i < count) (few : count ≤ 512) where
      -- The row at hand has the numbers from before.
      pub walk_now : entry_in work i ≡ before i
      walk_now = s.entries i h ∙ rw (eq-eqb r (first + i) is)

      gone : has rest (first + i) ≡ false
      gone = subst (λ (x : ℕ). has rest x ≡ false) is (s.once (omega arith)).0

      not_r : (j : ℕ) → eqb i j ≡ false → eqb r (first + j) ≡ false
      not_r j e = ne_eqb r (first + j) (λ u. eqb-false i j e (omega arith))

      pub walk_own : (work' : List ℕ) → EntryPut i (after i) work work' → (Kept work → Kept work') → Right i → Walk rest work'
      walk_own work' put keeps right =
          record {
            once = λ l. (s.once l).1;
            entries = λ j l. put j (omega arith) ∙ bit (eqb i j)
                (λ e. let d = eqb-true i j e in rw (e, ← d, gone))
                (λ e. rw e (s.entries j l ∙ rw (not_r j e)));
            kept = keeps s.kept;
            right = λ j l e. bit (eqb i j) (λ t. subst Right (eqb-true i j t) right) (λ t. s.right j l (rw (not_r j t, e)));
          }

  pub walk_end : (work : List ℕ) → Walk [] work → ((j : ℕ) → j < count → entry_in work j ≡ after j) × Kept work × ((j : ℕ) → j < count → Right j)
  walk_end work s = (s.entries, s.kept, λ j h. s.right j h refl)
