-- The rows on a qubit that becomes open: each has an open qubit more. Assumes nothing.
use mathlib.Core.Path.{◌≡◌, refl, sym, ap, ◌∙◌, subst, fun_ext}
use mathlib.Core.Bool.{Bool, true, false, ◌&&◌, cond}
use mathlib.Core.List.{List, [], ◌∷◌}
use Prim.Native.Nat.{ℕ, suc, ◌+◌, ◌-◌, ◌*◌, ◌/◌, ◌%◌, ◌≤◌, ◌<◌}
use native.Mathlib.Omega.{arith}
use lib.Dec.{eqb, ltb, leb}
use lib.ListN.{length, get_or}
use borrow.Author.Tests.{eq-eqb, ne_eqb, eqb-true, eqb-false, ltb-true, leb-true}
use Rattle.binary.specs.Bits.{◌⊕◌, summed}
use Rattle.binary.specs.Meaning.{Qubits, Row, All, has}
use Rattle.binary.proofs.Bits.{bit, and_out, ⊕_false}
use Rattle.bitsets.specs.Bitsets.{in_set, Flipped}
use Rattle.code.specs.Lists.{row_at, rows_from}
use Rattle.code.specs.Tests.{ascending_from, ascending?, Ascending, Distinct}
use Rattle.code.proofs.Order.{ascending_distinct}
use Rattle.machine.specs.Machine.{put, part}
use Rattle.scans.specs.Rows.{RowLists, check_in, read_in?}
use Rattle.kept.specs.Kept.{row_in, open_in, Counted, RowsOn, Numbered, Raised}
use Rattle.kept.proofs.Same.{row_of_lem, set_same}
use Rattle.kept.proofs.Lowering.{not_has, length_summed, summed_less}

----------------------------------------------------------------------
-- Open qubits of a row, before and after one becomes open

-- The qubit settled again leaves the open qubits as they were.
back : (o : Qubits) (q : ℕ) → o q ≡ false → put q false (put q true o) ≡ o
back o q shut = fun_ext λ p. bit (eqb q p) (λ e. rw e (sym (subst (λ (x : ℕ). o x ≡ false) (eqb-true q p e) shut))) (λ e. rw e)

pub same_open : (o : Qubits) (q : ℕ) (r : Row) → o q ≡ false → has r q ≡ false → part (put q true o) r ≡ part o r
same_open o q r shut e = sym (not_has (put q true o) q r e) ∙ ap (λ (s : Qubits). part s r) (back o q shut)

pub summed_more : (w : ℕ → ℕ) (o : Qubits) (q : ℕ) (r : Row) → Distinct r → o q ≡ false → has r q ≡ true → summed w (part (put q true o) r) ≡ w q + summed w (part o r)
summed_more w o q r d shut e =
    summed_less w (put q true o) q r d (rw (eq-eqb q q refl)) e ∙ ap (λ (s : Qubits). w q + summed w (part s r)) (back o q shut)

pub one_more_lem : (o : Qubits) (q : ℕ) (r : Row) → Distinct r → o q ≡ false → has r q ≡ true → length (part (put q true o) r) ≡ suc (length (part o r))
one_more_lem o q r d shut e = omega (arith, length_summed (part (put q true o) r), summed_more (λ p. 1) o q r d shut e, length_summed (part o r))

-- A row below n has at most n qubits, and no more open ones.
ascending_few : (n least : ℕ) (r : Row) → ascending_from least n r ≡ true → length r ≤ n - least
unfolding ascending_from
ascending_few n least [] t = omega arith
ascending_few n least (q ∷ r) t =
    let a = and_out (leb least q && ltb q n) _ t in
    let b = and_out (leb least q) (ltb q n) a.0 in
    omega (arith, ascending_few n (suc q) r a.1, leb-true least q b.0, ltb-true q n b.1)

part_few : (o : Qubits) (r : Row) → length (part o r) ≤ length r
part_few o [] = omega arith
part_few o (q ∷ r) = let rest = part_few o r in bit (o q) (λ e. rw e (omega (arith, rest))) (λ e. rw e (omega (arith, rest)))

pub open_few : (n : ℕ) (o : Qubits) (r : Row) → Ascending n r → length (part o r) ≤ n
unfolding ascending?
open_few n o r t = omega (arith, part_few o r, ascending_few n 0 r t)

----------------------------------------------------------------------
-- The rows on a qubit

-- With the qubits o open before; of the rows on qubit q those that are later are not raised yet.
pub record Raising (c : RowLists) (q : ℕ) (o : Qubits) (later : ℕ → Bool) (work : List ℕ) : Type 0 where
  pub counts : (j : ℕ) → j < c.count → get_or work (8704 + j) 0 ≡ cond (later j) (open_in o c j) (open_in (put q true o) c j)
  pub on : (p j : ℕ) → put q true o p ≡ true → j < c.count → in_set work p j ≡ cond (eqb q p && later j) false (has (row_in c j) p)

module _ (n : ℕ) (c : RowLists) (q : ℕ) (o : Qubits) (size : n ≤ 1024) (few : c.count ≤ 512) (good : All (Ascending n) (rows_from c.flat c.ends c.first c.count))
    (inside : (p : ℕ) → put q true o p ≡ true → p < n) (shut : o q ≡ false) where
  abbrev o' : Qubits
  o' = put q true o

  own : (j : ℕ) → j < c.count → Ascending n (row_at c.flat c.ends (c.first + j))
  own j h = row_of_lem (Ascending n) c.flat c.ends c.first c.count j h good

  not_on : (b : Bool) (r : Row) → has r q ≡ false → has (cond b r []) q ≡ false
  not_on true r e = e
  not_on false r e = refl

  -- No row is raised yet, and none is on the qubit.
  pub raising_start : (later : ℕ → Bool) (work : List ℕ) → Counted o c work → RowsOn o c work → ((j : ℕ) → j < c.count → in_set work q j ≡ false)
      → ((j : ℕ) → j < c.count → later j ≡ has (check_in c j).row q) → Raising c q o later work
  raising_start later work k r none-on are =
      record {
        counts = λ j h. k j h ∙ bit (later j) (λ e. rw e) (λ e. rw e (sym (ap length (same_open o q (row_in c j) shut (off j h e)))));
        on = λ p j t h. bit (eqb q p) (λ e. rw e (own_set p j h (eqb-true q p e))) (λ e. rw e (r.on p j (rw e at t) h));
      }
    where
      off : (j : ℕ) → j < c.count → later j ≡ false → has (row_in c j) q ≡ false
      off j h e = not_on (read_in? c j) (check_in c j).row (sym (are j h) ∙ e)

      own_set : (p j : ℕ) → j < c.count → q ≡ p → in_set work p j ≡ cond (later j) false (has (row_in c j) p)
      own_set p j h e =
          subst (λ (x : ℕ). in_set work x j ≡ cond (later j) false (has (row_in c j) x)) e
          (none-on j h ∙ bit (later j) (λ t. rw t) (λ t. rw t (sym (off j h t))))

  module _ (later : ℕ → Bool) (work : List ℕ) (s : Raising c q o later work) where
    -- Rows that were not read have no open qubit, before and after.
    pub raising_pass : (later' : ℕ → Bool) → ((j : ℕ) → j < c.count → read_in? c j ≡ true → later' j ≡ later j) → Raising c q o later' work
    raising_pass later' same =
        record {
          counts = λ j h. s.counts j h ∙ bit (read_in? c j) (λ e. rw (same j h e)) (λ e. rw e (either (later j) 0 ∙ sym (either (later' j) 0)));
          on = λ p j t h. s.on p j t h
              ∙ bit (read_in? c j) (λ e. rw (same j h e)) (λ e. rw e (either (eqb q p && later j) false ∙ sym (either (eqb q p && later' j) false)));
        }
      where
        either : {A : Type 0} (b : Bool) (x : A) → cond b x x ≡ x
        either true x = refl
        either false x = refl

    pub raising_end : ((j : ℕ) → j < c.count → later j ≡ false) → Counted o' c work × RowsOn o' c work
    raising_end none-later = (
      (λ j h. s.counts j h ∙ rw (none-later j h)),
      record { on = λ p j t h. s.on p j t h ∙ rw (none-later j h, no_more (eqb q p)) },
    )
      where
        no_more : (b : Bool) → (b && false) ≡ false
        no_more true = refl
        no_more false = refl

    -- Row i, which is on the qubit, was read and was not raised yet.
    module _ (i : ℕ) (h : i < c.count) (read : read_in? c i ≡ true) (on_it : has (check_in c i).row q ≡ true) (now : later i ≡ true) (long : 9216 ≤ length work)
        (mid : List ℕ) (flip : Flipped q i work mid) (work' : List ℕ) (raise : Raised i mid work') where
      q_below : q < n
      q_below = inside q (rw (eq-eqb q q refl))

      row_is : row_in c i ≡ (check_in c i).row
      row_is = rw read

      was_open : get_or mid (8704 + i) 0 ≡ length (part o (check_in c i).row)
      was_open = flip.beyond (8704 + i) (let b = q_below in omega arith) ∙ s.counts i h ∙ rw (now, row_is)

      more_open : length (part o' (check_in c i).row) ≡ suc (length (part o (check_in c i).row))
      more_open = one_more_lem o q (check_in c i).row (ascending_distinct n (check_in c i).row (own i h)) shut on_it

      raised : Numbered i (get_or mid (8704 + i) 0 % 1024 + 1) mid work'
      raised = raise.raised (omega (arith, flip.long)) (omega arith)

      sets_mid : (p j : ℕ) → j < 512 → in_set mid p j ≡ in_set work p j ⊕ (eqb p q && eqb j i)
      sets_mid p j l = flip.flipped (omega arith) (let b = q_below in omega arith) p j l

      sets_raised : (p j : ℕ) → p < 1024 → j < 512 → in_set work' p j ≡ in_set mid p j
      sets_raised p j b l = set_same mid work' p j (raise.below (8 * p + j / 64) (omega arith))

      pub raising_row : (later' : ℕ → Bool) → later' i ≡ false → ((j : ℕ) → eqb i j ≡ false → later' j ≡ later j) → Raising c q o later' work'
      raising_row later' gone same =
          record {
            counts = λ j l. raised j (omega arith) ∙ bit (eqb i j)
                (λ e. let d = eqb-true i j e in rw (e, ← d, gone, row_is) (omega (arith, was_open, more_open, open_few n o' (check_in c i).row (own i h))))
                (λ e. rw (e, same j e) (flip.beyond (8704 + j) (let b = q_below in omega arith) ∙ s.counts j l));
            on = λ p j t l. sets_raised p j (let b = inside p t in omega arith) (omega arith) ∙ sets_mid p j (omega arith) ∙ ap (λ (x : Bool). x ⊕ (eqb p q && eqb j i)) (s.on p j t l) ∙ turned p j;
          }
        where
          turned : (p j : ℕ) → cond (eqb q p && later j) false (has (row_in c j) p) ⊕ (eqb p q && eqb j i) ≡ cond (eqb q p && later' j) false (has (row_in c j) p)
          turned p j =
              bit (eqb q p)
              (λ e. let d = eqb-true q p e in rw (e, ← d, eq-eqb q q refl) (own_set j))
              (λ e. rw (e, ne_eqb p q (λ u. eqb-false q p e (sym u))) (⊕_false (has (row_in c j) p)))
            where
              own_set : (j : ℕ) → cond (later j) false (has (row_in c j) q) ⊕ eqb j i ≡ cond (later' j) false (has (row_in c j) q)
              own_set j =
                  bit (eqb i j)
                  (λ e. let d = eqb-true i j e in rw (← d, eq-eqb i i refl, now, gone, row_is) (sym on_it))
                  (λ e. rw (same j e, ne_eqb j i (λ u. eqb-false i j e (sym u))) (⊕_false (cond (later j) false (has (row_in c j) q))))
