-- The qubit that the guess rule names, found from below. Assumes nothing.
use mathlib.Core.Path.{◌≡◌, refl, ap, ◌∙◌}
use mathlib.Core.Bool.{Bool, true, false, ◌&&◌, ◌||◌}
use mathlib.Core.Logic.{⊎_elim}
use mathlib.Core.Option.{Option, none, some}
use mathlib.Core.List.{List}
use Prim.Native.Nat.{ℕ, zero, suc, ◌+◌, ◌*◌, ◌≤◌, ◌<◌}
use native.Mathlib.Numerals.{add-one}
use native.Mathlib.Omega.{arith}
use borrow.Author.Tests.{lt-ltb, le-ltb, eq-eqb, ne_eqb}
use lib.Dec.{eqb, ltb}
use lib.ListN.{get_or}
use Rattle.binary.specs.Meaning.{Qubits}
use Rattle.binary.proofs.Bits.{never}
use Rattle.binary.proofs.WordBits.{order}
use Rattle.machine.specs.Machine.{is_open, pairs, degree, fewer, better, best, freest}
use Rattle.machine.specs.Lists.{view}
use Rattle.machine.proofs.Guessing.{best_rule}
use Rattle.scans.specs.Rows.{RowLists, row_checks}
use Rattle.guessing.specs.Guessing.{weight_of, Weighed, lighter}
use Rattle.guessing.proofs.Weighing.{degree_few}

----------------------------------------------------------------------
-- A turn of the search

-- The rule's qubit, of those below q.
abbrev pub best_below : ℕ → List ℕ → List ℕ → ℕ → Option ℕ
best_below n marks work q = best (lighter work) q (is_open (view n marks))

-- What is kept of the qubit named so far: its number, or n where there is none, and its weight.
abbrev pub Leads : ℕ → List ℕ → ℕ → ℕ → Option ℕ → Type 0
Leads n work at largest none = at ≡ n
Leads n work at largest (some p) = (at ≡ p) × (at < n) × (largest ≡ weight_of work p)

module _ (n : ℕ) (work : List ℕ) (at largest : ℕ) where
  module _ (q : ℕ) where
    -- Whether qubit q, open or not, is named in place of the one so far.
    abbrev beats : Bool → Bool
    beats o = o && (eqb at n || ltb largest (weight_of work q))

    takes : (o : Bool) (r : Option ℕ) → q < n → Leads n work at largest r → beats o ≡ true → Leads n work q (weight_of work q) (better o (lighter work) q r)
    takes false r h l e = never e refl
    takes true none h l e = (refl, h, refl)
    takes true (some p) h l e =
        let more : lighter work p q ≡ true = rw (ne_eqb at n (λ k. absurd (omega arith)), l.2) at e in
        rw more (refl, h, refl)

    stays : (o : Bool) (r : Option ℕ) → Leads n work at largest r → beats o ≡ false → Leads n work at largest (better o (lighter work) q r)
    stays false r l e = l
    stays true none l e = never refl (rw (eq-eqb at n l) at e)
    stays true (some p) l e =
        let no_more : lighter work p q ≡ false = rw (ne_eqb at n (λ k. absurd (omega arith)), l.2) at e in
        rw no_more l

    module _ (marks : List ℕ) (h : q < n) (l : Leads n work at largest (best_below n marks work q)) where
      pub leads_taken : beats (eqb (get_or marks q 0) 4) ≡ true → Leads n work q (weight_of work q) (best_below n marks work (q + 1))
      leads_taken e = rw (add-one, lt-ltb q n h) (takes (eqb (get_or marks q 0) 4) (best_below n marks work q) h l e)

      pub leads_left : beats (eqb (get_or marks q 0) 4) ≡ false → Leads n work at largest (best_below n marks work (q + 1))
      leads_left e = rw (add-one, lt-ltb q n h) (stays (eqb (get_or marks q 0) 4) (best_below n marks work q) l e)

----------------------------------------------------------------------
-- The weights that decide

-- The rule compares open qubits only.
pub best_same : (behind behind' : ℕ → ℕ → Bool) (n : ℕ) (o : Qubits) → ((p q : ℕ) → o p ≡ true → o q ≡ true → behind p q ≡ behind' p q) → best behind n o ≡ best behind' n o
best_same behind behind' zero o h = refl
best_same behind behind' (suc n) o h =
    look (o n) refl (best behind n o) ((best_rule (λ x. behind) n).names_open o) ∙ ap (better (o n) behind' n) (best_same behind behind' n o h)
  where
    look : (b : Bool) → o n ≡ b → (r : Option ℕ) → ((p : ℕ) → r ≡ some p → o p ≡ true) → better (o n) behind n r ≡ better (o n) behind' n r
    look false e r named = rw e
    look true e none named = rw e
    look true e (some p) named = rw (e, h p n (named p refl) e)

-- Weights compare as the two counts do.
pub two_counts : (a b d e : ℕ) → b < 1024 → e < 1024 → ltb (1024 * a + b) (1024 * d + e) ≡ (ltb a d || (eqb a d && ltb b e))
two_counts a b d e k l =
    ⊎_elim (λ (m : a < d). rw (lt-ltb a d m) (lt-ltb (1024 * a + b) (1024 * d + e) (omega arith)))
    (λ (m : d ≤ a). rw (le-ltb a d m) (⊎_elim
    (λ (i : d < a). rw (ne_eqb a d (λ j. absurd (omega arith))) (le-ltb (1024 * a + b) (1024 * d + e) (omega arith)))
    (λ (i : a ≤ d). let same : a ≡ d = omega arith in rw (eq-eqb a d same) (⊎_elim
    (λ (j : b < e). rw (lt-ltb b e j) (lt-ltb (1024 * a + b) (1024 * d + e) (omega arith)))
    (λ (j : e ≤ b). rw (le-ltb b e j) (le-ltb (1024 * a + b) (1024 * d + e) (omega arith))) (order b e))) (order d a))) (order a d)

-- By the kept numbers the rule names the machine's qubit.
pub weighed_rule : (n : ℕ) (c : RowLists) (o : Qubits) (work : List ℕ) → c.count ≤ 512 → Weighed o c work → best (lighter work) n o ≡ freest (row_checks c) n o
weighed_rule n c o work few w =
    best_same (lighter work) (fewer (row_checks c) o) n o
    (λ p q s t. rw (w.weights p s, w.weights q t) (two_counts (pairs o (row_checks c) p) (degree (row_checks c) p) (pairs o (row_checks c) q) (degree (row_checks c) q) (small p) (small q)))
  where
    small : (q : ℕ) → degree (row_checks c) q < 1024
    small q = omega (arith, degree_few c q)
