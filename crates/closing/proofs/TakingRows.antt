-- Rows taken up from a row on, and the closed rows of a start. Assumes nothing.
use mathlib.Core.Path.{◌≡◌, refl, sym, ap, ap₂, ◌∙◌}
use mathlib.Core.Bool.{Bool, true, false, ◌&&◌, cond}
use mathlib.Core.Option.{Option, none, some}
use mathlib.Core.List.{List, [], ◌∷◌}
use Rattle.std.specs.Prelude.{None, Some}
use Prim.Native.Nat.{ℕ, zero, suc, ◌+◌, ◌-◌, ◌≤◌, ◌<◌}
use native.Mathlib.Omega.{arith}
use lib.Dec.{eqb}
use lib.ListN.{length, get_or}
use borrow.Author.Tests.{eqb-true, eq-eqb, ne_eqb}
use Rattle.binary.specs.Bits.{◌⊕◌}
use Rattle.binary.specs.Meaning.{Qubits, Check}
use Rattle.binary.proofs.Bits.{bit, never}
use Rattle.binary.proofs.Rows.{odd_none}
use Rattle.code.specs.Lists.{row_at}
use Rattle.machine.specs.Machine.{Form, Forms, keep_if, part, empty?, closed?, take_up, bind, take_if, take_up_all, blank}
use Rattle.forms.specs.Forms.{with_live, Topped, Taken, TakenAs, TakesUp}
use Rattle.forms.specs.Sides.{check}
use Rattle.scans.specs.Rows.{RowLists, check_at, check_in, read_in?, checks_from, row_checks}
use Rattle.scans.proofs.Checks.{from, from_all, from_none}
use Rattle.kept.specs.Kept.{open_in, Kept}
use Rattle.closing.specs.Closing.{TookIf, LitClosed}

----------------------------------------------------------------------
-- The answer and the machine

pub taken_none : (n : ℕ) (forms : List ℕ) (fs : Option Forms) → TakenAs n forms fs None → fs ≡ none
taken_none n forms none e = refl
taken_none n forms (some fs) e = let z : None ≡ Some fs.live = e.0 in cc

pub taken_some : (n : ℕ) (forms : List ℕ) (fs : Option Forms) (live : ℕ) → TakenAs n forms fs (Some live)
    → (fs ≡ some (with_live n forms live)) × Topped n live forms
taken_some n forms none live e = let z : Some live ≡ None = e in (cc, λ q k l. cc)
taken_some n forms (some fs) live e =
    let z : Some live ≡ Some fs.live = e.0 in
    let same : live ≡ fs.live = cc in (
      ap₂ (λ (form : ℕ → Form) (m : ℕ). some (record { form = form; live = m })) (sym e.1) (sym same),
      rw same e.2,
    )

pub never_live : {A : Type 0} (k : ℕ) → None ≡ Some k → A
never_live k e = let z : ◌≡◌ {A = Bool} true false = cc in never refl z

----------------------------------------------------------------------
-- One row

module _ (n : ℕ) (flat ends lit : List ℕ) (r : ℕ) (closed : Bool) (live : ℕ) (forms : List ℕ) where
  pub row_taken : closed ≡ true → (row : List ℕ) → row ≡ row_at flat ends r → (t : Taken) (forms' : List ℕ)
      → TakesUp n (check (eqb (get_or lit r 0) 1) row) live t forms forms' → TookIf n closed (check_at flat ends lit r) live forms forms' t
  row_taken e row is t forms' took = record { long = took.long; rest = took.rest; taken = λ h top. rw (e, ← is) (took.taken h top) }

  pub row_left : closed ≡ false → TookIf n closed (check_at flat ends lit r) live forms forms (Some live)
  row_left e = record { long = refl; rest = λ q h. refl; taken = λ h top. rw e (refl, refl, top) }

----------------------------------------------------------------------
-- Rows from a row on

pub length_empty : (l : List ℕ) → eqb (length l) 0 ≡ empty? l
length_empty [] = refl
length_empty (x ∷ l) = ne_eqb (suc (length l)) 0 (λ e. absurd (omega arith))

pub take_kept : (t : Check → Bool) (b : Bool) (c : Check) (cs : List Check) (fs : Forms) → take_up_all t (keep_if b c cs) fs ≡ bind (take_if (b && t c) fs c) (take_up_all t cs)
take_kept t true c cs fs = refl
take_kept t false c cs fs = refl

module _ (c : RowLists) where
  pub from_next : (t : Check → Bool) (i : ℕ) → i < c.count → (fs : Forms)
      → take_up_all t (from c i) fs ≡ bind (take_if (read_in? c i && t (check_in c i)) fs (check_in c i)) (take_up_all t (from c (i + 1)))
  from_next t i h fs =
      let e : c.count - i ≡ suc (c.count - (i + 1)) = omega arith in
      let d : suc (c.first + i) ≡ c.first + (i + 1) = omega arith in
      rw (e, ← d) (take_kept t (read_in? c i) (check_in c i) (checks_from c.flat c.ends c.lit (suc (c.first + i)) (c.count - (i + 1))) fs)

  -- A row that changes nothing is passed over.
  abbrev Still : (Check → Bool) → Forms → ℕ → Type 0
  Still t fs j = take_if (read_in? c j && t (check_in c j)) fs (check_in c j) ≡ some fs

  from_still : (t : Check → Bool) (fs : Forms) (i d : ℕ) → i + d ≤ c.count → ((j : ℕ) → i ≤ j → j < i + d → Still t fs j)
      → take_up_all t (from c i) fs ≡ take_up_all t (from c (i + d)) fs
  from_still t fs i zero h f = let e : i + 0 ≡ i = omega arith in rw e
  from_still t fs i (suc d) h f =
      let e : i + 1 + d ≡ i + suc d = omega arith in
      from_next t i (omega arith) fs ∙ ap (λ (x : Option Forms). bind x (take_up_all t (from c (i + 1)))) (f i (omega arith) (omega arith))
      ∙ from_still t fs (i + 1) d (omega arith) (λ j a b. f j (omega arith) (omega arith)) ∙ ap (λ (k : ℕ). take_up_all t (from c k) fs) e

  pub all_still : (t : Check → Bool) (fs : Forms) → ((j : ℕ) → j < c.count → Still t fs j) → take_up_all t (row_checks c) fs ≡ some fs
  all_still t fs f =
      ap (λ (cs : List Check). take_up_all t cs fs) (sym (from_all c)) ∙ from_still t fs 0 c.count (omega arith) (λ j a b. f j (omega arith))
      ∙ ap (λ (cs : List Check). take_up_all t cs fs) (from_none c (0 + c.count) (omega arith))

  -- So is a row that fails the test.
  pub from_passed : (t : Check → Bool) (fs : Forms) (i d : ℕ) → i + d ≤ c.count → ((j : ℕ) → i ≤ j → j < i + d → (read_in? c j && t (check_in c j)) ≡ false)
      → take_up_all t (from c i) fs ≡ take_up_all t (from c (i + d)) fs
  from_passed t fs i d h f = from_still t fs i d h (λ j a b. rw (f j a b))

----------------------------------------------------------------------
-- The closed rows of a start

-- Forms that are 0: a row's side is its lit bit.
take_blank : (c : Check) → take_up blank c ≡ cond c.lit none (some blank)
take_blank c = ap (λ (b : Bool). cond b none (some blank)) (ap ((c.lit && true) ⊕◌) (odd_none c.row) ∙ plain c.lit)
  where
    plain : (b : Bool) → (b && true) ⊕ false ≡ b
    plain true = refl
    plain false = refl

module _ (c : RowLists) (work : List ℕ) where
  -- The rows before row i are passed over.
  abbrev pub Passed : ℕ → Type 0
  Passed i = (o : Qubits) → Kept o c work → take_up_all (closed? o) (from c i) blank ≡ take_up_all (closed? o) (row_checks c) blank

  pub passed_none : Passed 0
  passed_none o k = ap (λ (cs : List Check). take_up_all (closed? o) cs blank) (from_all c)

  abbrev step : Qubits → ℕ → Option Forms
  step o i = take_if (read_in? c i && closed? o (check_in c i)) blank (check_in c i)

  module _ (i : ℕ) (h : i < c.count) where
    -- By its kept number a row is closed.
    closed_told : (o : Qubits) → Kept o c work → read_in? c i ≡ true → eqb (get_or work (8704 + i) 0) 0 ≡ closed? o (check_in c i)
    closed_told o v y = let z : open_in o c i ≡ length (part o (check_in c i).row) = rw y in rw (v.counts i h, z) (length_empty (part o (check_in c i).row))

    -- A row that is not lit, or has an open qubit.
    pub passed_more : Passed i → (get_or c.lit (c.first + i) 0 ≡ 1 → get_or work (8704 + i) 0 ≡ 0 → ⊥) → Passed (i + 1)
    passed_more s not-both o v = sym (ap (λ (x : Option Forms). bind x (take_up_all (closed? o) (from c (i + 1)))) same) ∙ sym (from_next c (closed? o) i h blank) ∙ s o v
      where
        unlit : (b : Bool) → (check_in c i).lit ≡ false → take_if b blank (check_in c i) ≡ some blank
        unlit true e = take_blank (check_in c i) ∙ rw e
        unlit false e = refl

        lit_one : (check_in c i).lit ≡ true → step o i ≡ some blank
        lit_one e =
            let one = eqb-true (get_or c.lit (c.first + i) 0) 1 e in
            let y : read_in? c i ≡ true = rw one in
            let shut : closed? o (check_in c i) ≡ false = sym (closed_told o v y) ∙ ne_eqb (get_or work (8704 + i) 0) 0 (not-both one) in
            rw (y, shut)

        same : step o i ≡ some blank
        same = bit (check_in c i).lit lit_one (unlit (read_in? c i && closed? o (check_in c i)))

    pub found_lit : Passed i → get_or c.lit (c.first + i) 0 ≡ 1 → get_or work (8704 + i) 0 ≡ 0 → (o : Qubits) → Kept o c work → take_up_all (closed? o) (row_checks c) blank ≡ none
    found_lit s one zero_left o v =
        let y : read_in? c i ≡ true = rw one in
        let shut : closed? o (check_in c i) ≡ true = sym (closed_told o v y) ∙ eq-eqb (get_or work (8704 + i) 0) 0 zero_left in
        let lit-it : (check_in c i).lit ≡ true = eq-eqb (get_or c.lit (c.first + i) 0) 1 one in
        let both : (read_in? c i && closed? o (check_in c i)) ≡ true = rw (y, shut) in
        let failed : step o i ≡ none = ap (λ (b : Bool). take_if b blank (check_in c i)) both ∙ take_blank (check_in c i) ∙ rw lit-it in
        sym (s o v) ∙ from_next c (closed? o) i h blank ∙ ap (λ (x : Option Forms). bind x (take_up_all (closed? o) (from c (i + 1)))) failed

  pub passed_all : (i : ℕ) → Passed i → c.count ≤ i → (o : Qubits) → Kept o c work → take_up_all (closed? o) (row_checks c) blank ≡ some blank
  passed_all i s h o v = sym (s o v) ∙ ap (λ (cs : List Check). take_up_all (closed? o) cs blank) (from_none c i h)

----------------------------------------------------------------------
-- The answer of `lit_closed`

module _ (lit : List ℕ) (first count : ℕ) (work : List ℕ) where
  abbrev rows : List ℕ → List ℕ → RowLists
  rows flat ends = record { flat = flat; ends = ends; lit = lit; first = first; count = count }

  -- For any lists of the code.
  abbrev pub PassedRows : ℕ → Type 0
  PassedRows i = (flat ends : List ℕ) → Passed (rows flat ends) work i

  pub rows_more : (i : ℕ) → i < count → PassedRows i → (get_or lit (first + i) 0 ≡ 1 → get_or work (8704 + i) 0 ≡ 0 → ⊥) → PassedRows (i + 1)
  rows_more i h s not-both flat ends = passed_more (rows flat ends) work i h (s flat ends) not-both

  module _ (room : first + count ≤ length lit) (words : 9216 ≤ length work) (few : count ≤ 512) where
    pub lit_found : (i : ℕ) → i < count → PassedRows i → get_or lit (first + i) 0 ≡ 1 → get_or work (8704 + i) 0 ≡ 0 → LitClosed lit first count work true
    lit_found i h s one zero_left =
        record { taken = λ a b d flat ends o v. found_lit (rows flat ends) work i h (s flat ends) one zero_left o v; refused = λ g. absurd (g room words few) }

    pub lit_none : (i : ℕ) → PassedRows i → count ≤ i → LitClosed lit first count work false
    lit_none i s h = record { taken = λ a b d flat ends o v. passed_all (rows flat ends) work i (s flat ends) h o v; refused = λ g. refl }
