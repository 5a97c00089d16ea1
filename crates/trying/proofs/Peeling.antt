-- The lowest dangling row by the numbers of the rows gives its open qubit its side: a turn of the machine. Assumes nothing.
use mathlib.Core.Path.{◌≡◌, refl, sym, ap, ◌∙◌, fun_ext}
use mathlib.Core.Bool.{Bool, true, false, ◌&&◌, cond}
use mathlib.Core.Option.{none, some}
use mathlib.Core.List.{List, [], ◌∷◌}
use Prim.Native.Nat.{ℕ, zero, suc, ◌+◌, ◌%◌, ◌≤◌, ◌<◌}
use native.Mathlib.Omega.{arith}
use lib.Dec.{eqb, eqb-suc-zero}
use lib.ListN.{length, get_or}
use lib.Seq.{get_or-set_same, get_or-set_other}
use borrow.Author.Tests.{eqb-true, eqb-false}
use Rattle.binary.specs.Bits.{◌⊕◌}
use Rattle.binary.specs.Meaning.{Qubits, has, odd}
use Rattle.binary.proofs.Bits.{bit, never, and_out, &&_true, &&_false}
use Rattle.machine.specs.Machine.{Form, Forms, on, is_open, put, part, closed?, side, dangling, take_if, take_up_all, closing, stage}
use Rattle.machine.specs.Lists.{view, forms_of, digit}
use Rattle.machine.proofs.Settling.{side_top, part_open}
use Rattle.machine.proofs.Stages.{open_put}
use Rattle.forms.specs.Forms.{with_live}
use Rattle.scans.specs.Rows.{RowLists, check_in, read_in?, row_checks}
use Rattle.scans.proofs.Scanning.{open_read, open_below_lem, open_inside, one_less_lem}
use Rattle.kept.specs.Kept.{dangles?, Kept, Lowest}
use Rattle.kept.proofs.Same.{kept_by}
use Rattle.kept.proofs.Dangling.{dangling_none, row_is, dangling_only}
use Rattle.closing.specs.Closing.{closed_at?}
use Rattle.closing.proofs.TakingRows.{all_still}
use Rattle.turns.specs.Lists.{state_of}
use Rattle.turns.specs.Turns.{Working, Stays, turn_by}
use Rattle.turns.proofs.Turning.{closing_test}
use Rattle.turns.proofs.Stays.{stays_same}
use Rattle.trying.specs.declared.Peel.TheVariants.{Unknown, NoRow, Made}
use Rattle.trying.specs.Entries.{Entry, entry_in, entry_of, Tracks, rows_over}
use Rattle.trying.specs.Turns.{values_of, Ready, SettledAs, QubitSettled, reopened, PeeledAs, PeelBy, Peels}

pub kept_of_lem : (o x : Qubits) (c : RowLists) (work : List ℕ) → Tracks o x c work → Kept o c work
kept_of_lem o x c work t = kept_by o c work (λ i h. ap (λ (e : Entry). e.number) (t.entries i h)) t.tallied

-- The side by the parity and the lit bit.
side_bit : (a b : Bool) → ((b && true) ⊕ a) ≡ eqb ((digit a % 2 + digit b) % 2) 1
side_bit true true = refl
side_bit true false = refl
side_bit false true = refl
side_bit false false = refl

----------------------------------------------------------------------
-- The qubit that is settled, and the machine's turn

module _ (n : ℕ) (c : RowLists) (old : Working) (r : ℕ) (low : Lowest c.count old.work r) (long : 10240 ≤ length old.work) (ready : Ready n c old) where
  abbrev o : Qubits
  o = is_open (view n old.marks)

  abbrev x : Qubits
  x = values_of n old.forms

  known : (r < c.count → dangles? o c r ≡ true) × ((j : ℕ) → j < r → dangles? o c j ≡ false)
  known = low.lowest (omega arith) o c refl (kept_of_lem o x c old.work ready.tracks)

  none_dangles : c.count ≤ r → dangling o (row_checks c) ≡ none
  none_dangles h = dangling_none o c (λ j l. known.1 j (omega arith))

  module _ (h : r < c.count) (size : n ≤ 1024) where
    numbers : entry_in old.work r ≡ entry_of o x (check_in c r).row
    numbers = ready.tracks.entries r h ∙ ap (entry_of o x) (row_is o c r h (known.0 h) known.1)

    -- The row's open qubit is its sum.
    only_open : part o (check_in c r).row ≡ get_or old.work (9216 + r) 0 ∷ []
    only_open = look (part o (check_in c r).row) refl
      where
        one : length (part o (check_in c r).row) ≡ 1
        one = sym (ap (λ (y : List ℕ). length (part o y)) (row_is o c r h (known.0 h) known.1)) ∙ eqb-true _ 1 (known.0 h)

        look : (l : List ℕ) → part o (check_in c r).row ≡ l → part o (check_in c r).row ≡ get_or old.work (9216 + r) 0 ∷ []
        look [] e = let z = one in absurd (omega (arith, rw e at z))
        look (q ∷ []) e =
            let below = open_below_lem n old.marks q (part_open o (check_in c r).row q [] e) in
            let sum : get_or old.work (9216 + r) 0 ≡ (q + 0) % 65536 = ap (λ (y : Entry). y.sum) numbers ∙ rw e in
            let same : q ≡ get_or old.work (9216 + r) 0 = omega arith in
            e ∙ ap (λ (y : ℕ). y ∷ []) same
        look (q ∷ (s ∷ l)) e = let z = one in absurd (omega (arith, rw e at z))

    module _ (p v : ℕ) (is_sum : p ≡ get_or old.work (9216 + r) 0) (value : v ≡ (get_or old.work (9728 + r) 0 % 2 + digit (check_in c r).lit) % 2) (below : p < n) (is_open_lem : o p ≡ true) where
      found : dangling o (row_checks c) ≡ some (p, check_in c r)
      found = dangling_only o c r h (known.0 h) known.1 p (only_open ∙ ap (λ (y : ℕ). y ∷ []) (sym is_sum))

      side_is : side (with_live n old.forms 0) (check_in c r) ≡ (λ k. eqb v 1 && eqb k 0)
      side_is = fun_ext at
        where
          at : (k : ℕ) → side (with_live n old.forms 0) (check_in c r) k ≡ (eqb v 1 && eqb k 0)
          at zero =
              side_bit (odd x (check_in c r).row) (check_in c r).lit
              ∙ ap (λ (y : ℕ). eqb y 1) (sym (value ∙ ap (λ (y : Entry). (y.parity % 2 + digit (check_in c r).lit) % 2) numbers)) ∙ sym (&&_true (eqb v 1) refl)
          at (suc k) = side_top (with_live n old.forms 0) (check_in c r) (suc k) (λ q. ready.topped q (suc k) (omega arith)) (omega arith) ∙ sym (ap (eqb v 1 &&◌) (eqb-suc-zero k) ∙ &&_false (eqb v 1))

      module _ (new : Working) (s : SettledAs n c p v old new) where
        abbrev mark : ℕ → ℕ
        mark = view n old.marks

        -- A row that this turn closed reads right: its side is 0.
        still : (j : ℕ) → j < c.count → take_if (read_in? c j && closing mark (put p 2 mark) (check_in c j)) (with_live n new.forms 0) (check_in c j) ≡ some (with_live n new.forms 0)
        unfolding closed_at?
        still j l =
            bit (read_in? c j && closing mark (put p 2 mark) (check_in c j))
            (λ e. let z = and_out (read_in? c j) (closing mark (put p 2 mark) (check_in c j)) e in
            let y = and_out (has (check_in c j).row p) (closed? (is_open (put p 2 mark)) (check_in c j)) (sym (closing_test mark p 2 is_open_lem refl (check_in c j)) ∙ z.1) in
            let shut : closed? (put p false o) (check_in c j) ≡ true = ap (λ (f : Qubits). closed? f (check_in c j)) (sym (open_put p 2 mark refl)) ∙ y.1 in
            rw e (ap (λ (b : Bool). cond (((check_in c j).lit && true) ⊕ b) none (some (with_live n new.forms 0))) (s.right j l z.0 y.0 shut) ∙ right (check_in c j).lit))
            (λ e. rw e)
          where
            right : (b : Bool) → cond ((b && true) ⊕ b) none (some (with_live n new.forms 0)) ≡ some (with_live n new.forms 0)
            right true = refl
            right false = refl

        put_form : record { form = put p (side (with_live n old.forms 0) (check_in c r)) (forms_of n old.forms); live = 0 } ≡ with_live n new.forms 0
        put_form = ap (λ (f : ℕ → Form). record { form = f; live = 0 }) (ap (λ (f : Form). put p f (forms_of n old.forms)) side_is ∙ sym s.forms)

        comes : (turns : ℕ) → turn_by n c (state_of n old.marks old.forms 0 turns) ≡ on (state_of n new.marks new.forms 0 (suc turns))
        unfolding turn_by
        comes turns =
            rw found
            (ap (λ (fs : Forms). stage (put p 2 mark) (suc turns) (take_up_all (closing mark (put p 2 mark)) (row_checks c) fs)) put_form
            ∙ ap (stage (put p 2 mark) (suc turns)) (all_still c (closing mark (put p 2 mark)) (with_live n new.forms 0) still)
            ∙ ap (λ (m : ℕ → ℕ). on (record { mark = m; forms = with_live n new.forms 0; turns = suc turns })) (sym s.marks))

        peeled_as : PeeledAs n c old new
        peeled_as = record {
          dangles = rw found;
          comes = comes;
          fixed = λ q. ap (λ (f : ℕ → ℕ). eqb (f q) 1) s.marks ∙ bit (eqb p q) (λ e. rw e (sym (was_open q (eqb-true p q e)))) (λ e. rw e);
          ready = s.ready;
        }
          where
            was_open : (q : ℕ) → p ≡ q → eqb (view n old.marks q) 1 ≡ false
            was_open q e = ap (λ (m : ℕ). eqb m 1) (ap (view n old.marks) (sym e) ∙ eqb-true (view n old.marks p) 4 is_open_lem)

----------------------------------------------------------------------
-- The answer of a turn

-- Where a row dangles the total is not 0.
row_counts : (work : List ℕ) {count : ℕ} (r : ℕ) → Lowest count work r → r < count → get_or work 8200 0 ≡ 0 → ⊥
row_counts work r low h z = let e = low.by_total z in omega arith

module _ (n : ℕ) (c : RowLists) (old : Working) where
  pub peels_unknown : (new : Working) (r : ℕ) → Lowest c.count old.work r → r < c.count → Stays n old new → ((q : ℕ) → reopened (get_or new.marks q 0) ≡ reopened (get_or old.marks q 0)) → Peels n c old new Unknown
  peels_unknown new r low h s m = record { stays = s; by_total = λ z. absurd (row_counts old.work r low h z); marks = m; by_set = λ e. let z : ◌≡◌ {A = Bool} true false = cc in never refl z; one = λ e. let z : ◌≡◌ {A = Bool} true false = cc in never refl z; idle = λ e. let z : ◌≡◌ {A = Bool} true false = cc in never refl z; no_row = λ e. let z : ◌≡◌ {A = Bool} true false = cc in never refl z; made = λ e. let z : ◌≡◌ {A = Bool} true false = cc in never refl z }

  -- The mark of an open qubit is another, and opens again.
  pub settled_marks : (p v : ℕ) (new : Working) (told : Bool) → is_open (view n old.marks) p ≡ true → QubitSettled n c p v old new told
      → (q : ℕ) → reopened (get_or new.marks q 0) ≡ reopened (get_or old.marks q 0)
  settled_marks p v new told is_open_lem s q =
      rw s.mark
      (bit (eqb p q)
      (λ e. let d = eqb-true p q e in rw (← d, was, get_or-set_same old.marks p 2 0 (open_inside n old.marks p is_open_lem)))
      (λ e. ap reopened (get_or-set_other old.marks p q 2 0 (λ t. eqb-false p q e (sym t)))))
    where
      was : get_or old.marks p 0 ≡ 4
      was = eqb-true (get_or old.marks p 0) 4 (open_read n old.marks p (open_below_lem n old.marks p is_open_lem) ∙ is_open_lem)

  module _ (r : ℕ) (low : Lowest c.count old.work r) (long : 10240 ≤ length old.work) where
    pub peels_none : c.count ≤ r → Peels n c old old NoRow
    peels_none h =
        record {
          stays = stays_same n old;
          by_total = λ z. refl;
          by_set = λ e f j l. (low.by_set (omega arith) f).skipped j (omega arith) (omega arith);
          one = λ e. let z : ◌≡◌ {A = Bool} true false = cc in never refl z;
          marks = λ q. refl;
          idle = λ e. refl;
          no_row = λ e flat good ready. none_dangles n (rows_over flat c) old r low long ready h;
          made = λ e. let z : ◌≡◌ {A = Bool} true false = cc in never refl z;
        }

    pub peels_made : r < c.count → n ≤ 1024 → (p v : ℕ) → PeelBy n c old r p v → (new : Working) (told : Bool) → told ≡ true → QubitSettled n c p v old new told
        → Peels n c old new Made
    peels_made h size p v by new told t s =
        record {
          stays = s.stays;
          by_total = λ z. absurd (row_counts old.work r low h z);
          by_set = λ e. let z : ◌≡◌ {A = Bool} true false = cc in never refl z;
          one = λ e. rw s.mark (one_less_lem n old.marks p 2 by.opened refl);
          marks = settled_marks p v new told by.opened s;
          idle = λ e. let z : ◌≡◌ {A = Bool} true false = cc in never refl z;
          no_row = λ e. let z : ◌≡◌ {A = Bool} true false = cc in never refl z;
          made = λ e flat good ready.
              peeled_as n (rows_over flat c) old r low long ready h size p v by.sum by.side (open_below_lem n old.marks p by.opened) by.opened new (s.settles t flat good ready by.opened);
        }
