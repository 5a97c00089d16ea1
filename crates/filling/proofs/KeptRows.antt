-- Everything kept of the rows, row by row. Assumes nothing.
use mathlib.Core.Path.{◌≡◌, refl, sym, ap, ap₂, ◌∙◌, subst}
use mathlib.Core.Bool.{Bool, true, false, ◌&&◌, ◌||◌, cond}
use mathlib.Core.Logic.{inl, inr, ⊎_elim}
use mathlib.Core.List.{List, [], ◌∷◌}
use Prim.Native.Nat.{ℕ, suc, ◌+◌, ◌*◌, ◌/◌, ◌≤◌, ◌<◌}
use native.Mathlib.Numerals.{add-one}
use native.Mathlib.Omega.{arith}
use lib.Dec.{eqb, ltb}
use lib.ListN.{length, get_or, set, drop, drop_of_length-le, length-set}
use lib.Seq.{drop-cons, get_or-set_same, get_or-set_other}
use borrow.Author.Tests.{eq-eqb, ne_eqb, eqb-true, eqb-false, lt-ltb, le-ltb, ltb-true}
use Rattle.binary.specs.Bits.{◌⊕◌}
use Rattle.binary.specs.Bits
use Rattle.binary.specs.Meaning.{Qubits, Row, has}
use Rattle.binary.proofs.Bits.{bit, never, ⊕_false, tally_same, tally_few}
use Rattle.binary.proofs.WordBits.{order}
use Rattle.lists.specs.Cleared.{Cleared}
use Rattle.bitsets.specs.Bitsets.{in_set, Flipped}
use Rattle.code.specs.Lists.{row_at}
use Rattle.code.specs.Tests.{Ascending, Distinct}
use Rattle.code.proofs.Order.{ascending_distinct}
use Rattle.machine.specs.Machine.{is_open, part}
use Rattle.machine.specs.Lists.{view}
use Rattle.scans.specs.Rows.{RowLists, read?, GoodRows}
use Rattle.scans.proofs.Scanning.{open_below_lem}
use Rattle.kept.specs.Kept.{row_in, single?, Changed}
use Rattle.kept.proofs.Same.{row_of_lem, set_same, set_none}
use Rattle.filling.specs.Filling.{Beyond, Emptied, RowAdded, KeptTo}

----------------------------------------------------------------------
-- Sets emptied

-- Of the qubits below q.
pub record Emptying (n : ℕ) (marks old : List ℕ) (q : ℕ) (work : List ℕ) : Type 0 where
  pub long : length work ≡ length old
  pub zeros : (p k : ℕ) → p < q → is_open (view n marks) p ≡ true → 8 * p ≤ k → k < 8 * p + 8 → get_or work k 0 ≡ 0
  pub past : Beyond old work

module _ (n : ℕ) (marks old : List ℕ) where
  pub emptying_start : Emptying n marks old 0 old
  emptying_start = record { long = refl; zeros = λ p k h. absurd (omega arith); past = λ k h. refl }

  module _ (q : ℕ) (work : List ℕ) (so : Emptying n marks old q work) where
    pub emptying_open : q < 1024 → (work' : List ℕ) → Cleared (8 * q) (8 * q + 8) work work' → Emptying n marks old (q + 1) work'
    emptying_open small work' c =
        record {
          long = c.long ∙ so.long;
          zeros = λ p k h e a b. ⊎_elim (λ (l : p < q). c.outside k (inl (omega arith)) ∙ so.zeros p k l e a b) (λ (l : q ≤ p). c.inside k (omega arith) (omega arith)) (order p q);
          past = λ k h. c.outside k (inr (omega arith)) ∙ so.past k h;
        }

    pub emptying_not : is_open (view n marks) q ≡ false → Emptying n marks old (q + 1) work
    emptying_not e =
        record {
          long = so.long;
          zeros = λ p k h t a b.
              ⊎_elim (λ (l : p < q). so.zeros p k l t a b) (λ (l : q ≤ p). let same : p ≡ q = omega arith in never (subst (λ (x : ℕ). is_open (view n marks) x ≡ true) same t) e) (order p q);
          past = so.past;
        }

    pub emptying_end : n ≤ q → n ≤ 1024 → (new : List ℕ) → Cleared 8192 8201 work new → Emptied n marks old new
    emptying_end h few new c =
        record {
          long = c.long ∙ so.long;
          sets = λ p j e l.
              let b = open_below_lem n marks p e in
              set_none new p j (c.outside (8 * p + j / 64) (inl (omega arith)) ∙ so.zeros p (8 * p + j / 64) (omega arith) e (omega arith) (omega arith));
          dangling = λ j l. set_none new 1024 j (c.inside (8 * 1024 + j / 64) (omega arith) (omega arith));
          total = c.inside 8200 (omega arith) (omega arith);
          past = λ k h. c.outside k (inr (omega arith)) ∙ so.past k h;
        }

----------------------------------------------------------------------
-- A row on its open qubits

-- From place j of the row on; so many open qubits were before.
pub record Adding (n i : ℕ) (row marks old : List ℕ) (j : ℕ) (work : List ℕ) (number : ℕ) : Type 0 where
  pub long : length work ≡ length old
  pub few : number ≤ j
  pub count : number + length (part (is_open (view n marks)) (drop j row)) ≡ length (part (is_open (view n marks)) row)
  pub beyond : (k : ℕ) → 8192 ≤ k → get_or work k 0 ≡ get_or old k 0
  pub sets : Distinct row → Distinct (drop j row) × ((q t : ℕ) → is_open (view n marks) q ≡ true → t < 512
      → in_set work q t ⊕ (eqb t i && has (drop j row) q) ≡ in_set old q t ⊕ (eqb t i && has row q))

module _ (n i : ℕ) (row marks old : List ℕ) where
  abbrev o : Qubits
  o = is_open (view n marks)

  pub adding_start : Adding n i row marks old 0 old 0
  adding_start = record { long = refl; few = omega arith; count = omega arith; beyond = λ k h. refl; sets = λ d. (d, λ q t e h. refl) }

  module _ (j : ℕ) (work : List ℕ) (number : ℕ) (so : Adding n i row marks old j work number) where
    pub adding_end : length row ≤ j → RowAdded n i row marks old work number
    adding_end h =
        record {
          long = so.long;
          count = let z = rw (drop_of_length-le row h) at so.count in omega arith;
          beyond = so.beyond;
          sets = λ d q t e l. sym (none (in_set work q t) (eqb t i)) ∙ rw (drop_of_length-le row h) at ((so.sets d).1 q t e l);
        }
      where
        none : (x e : Bool) → x ⊕ (e && false) ≡ x
        none true true = refl
        none true false = refl
        none false true = refl
        none false false = refl

    module _ (h : j < length row) where
      abbrev p : ℕ
      p = get_or row j 0

      abbrev rest : List ℕ
      rest = drop (j + 1) row

      here : drop j row ≡ p ∷ rest
      here = rw (add-one j) (drop-cons row j 0 h)

      left : Distinct row → Distinct (p ∷ rest)
      left d = subst Distinct here (so.sets d).0

      was : (d : Distinct row) (q t : ℕ) → o q ≡ true → t < 512 → in_set work q t ⊕ (eqb t i && (eqb p q || has rest q)) ≡ in_set old q t ⊕ (eqb t i && has row q)
      was d q t e l = rw here at ((so.sets d).1 q t e l)

      pub adding_open : o p ≡ true → n ≤ 1024 → i < 512 → 9216 ≤ length old → (work' : List ℕ) → Flipped p i work work' → Adding n i row marks old (j + 1) work' (number + 1)
      adding_open e size few room work' f =
          let b = open_below_lem n marks p e in
          record {
            long = f.long ∙ so.long;
            few = let z = so.few in omega arith;
            count = let z = rw (here, e) at so.count in omega arith;
            beyond = λ k l. f.beyond k (omega arith) ∙ so.beyond k l;
            sets = λ d. ((left d).1, λ q t u l. ap (λ (x : Bool). x ⊕ (eqb t i && has rest q)) (f.flipped few (omega (arith, so.long)) q t l) ∙ turn q (left d).0 (in_set work q t) (eqb t i) ∙ was d q t u l);
          }
        where
          same : (x y : Bool) → x ⊕ (true && y) ⊕ (y && false) ≡ x ⊕ (y && true)
          same true true = refl
          same true false = refl
          same false true = refl
          same false false = refl

          apart : (x y b : Bool) → x ⊕ (false && y) ⊕ (y && b) ≡ x ⊕ (y && b)
          apart true y b = refl
          apart false y b = refl

          turn : (q : ℕ) → has rest p ≡ false → (x y : Bool) → x ⊕ (eqb q p && y) ⊕ (y && has rest q) ≡ x ⊕ (y && (eqb p q || has rest q))
          turn q g x y =
              bit (eqb q p)
              (λ t. let s = eqb-true q p t in rw (s, eq-eqb p p refl, g) (same x y))
              (λ t. rw (t, ne_eqb p q (λ u. eqb-false q p t (sym u))) (apart x y (has rest q)))

      pub adding_not : o p ≡ false → Adding n i row marks old (j + 1) work number
      adding_not e =
          record {
            long = so.long;
            few = let z = so.few in omega arith;
            count = rw (here, e) at so.count;
            beyond = so.beyond;
            sets = λ d. ((left d).1, λ q t u l. rw (ne_eqb p q (λ s. never u (subst (λ (x : ℕ). o x ≡ false) s e))) at (was d q t u l));
          }

----------------------------------------------------------------------
-- The rows before i, and row i

read_distinct : (b : Bool) (row : Row) → Distinct row → Distinct (cond b row [])
read_distinct true row d = d
read_distinct false row d = tt

-- The row that was read.
pub added_as : (n i : ℕ) (row row' marks old mid : List ℕ) (number : ℕ) → row ≡ row' → RowAdded n i row marks old mid number → RowAdded n i row' marks old mid number
added_as n i row row' marks old mid number e a = subst (λ (r : List ℕ). RowAdded n i r marks old mid number) e a

pub kept_start : (n : ℕ) (c : RowLists) (marks old new : List ℕ) → Emptied n marks old new → KeptTo 0 n c marks new
kept_start n c marks old new e =
    record {
      counts = λ j h. absurd (omega arith);
      tallied = record { dangling = λ j h. absurd (omega arith); total = e.total };
      free = λ j h l. e.dangling j l;
      on = λ a q j t h. rw (le-ltb j 0 (omega arith)) (e.sets q j t h);
    }

-- Row i, with its number written, and changed where it dangles.
module _ (n i : ℕ) (c : RowLists) (marks old mid : List ℕ) (number : ℕ) (size : n ≤ 1024) (few : c.count ≤ 512) (h : i < c.count) (room : 9216 ≤ length old)
    (so : KeptTo i n c marks old) (a : RowAdded n i (row_in c i) marks old mid number) where
  abbrev written : List ℕ
  written = set mid (8704 + i) number

  -- What the list has then.
  record Written (new : List ℕ) : Type 0 where
    long : length new ≡ length old
    counts : (j : ℕ) → get_or new (8704 + j) 0 ≡ get_or written (8704 + j) 0
    sets : (q j : ℕ) → q < 1024 → j < 512 → in_set new q j ≡ in_set mid q j
    dangling : (j : ℕ) → j < 512 → in_set new 1024 j ≡ in_set old 1024 j ⊕ (eqb number 1 && eqb j i)
    total : get_or old 8200 0 < 512 → get_or new 8200 0 ≡ Bits.count (eqb number 1) (get_or old 8200 0)

  written_count : (j : ℕ) → get_or written (8704 + j) 0 ≡ cond (eqb j i) number (get_or old (8704 + j) 0)
  written_count j =
      bit (eqb j i)
      (λ e. let s = eqb-true j i e in rw (e, s) (get_or-set_same mid (8704 + i) number 0 (omega (arith, a.long))))
      (λ e. rw e (get_or-set_other mid (8704 + i) (8704 + j) number 0 (λ t. eqb-false j i e (omega arith)) ∙ a.beyond (8704 + j) (omega arith)))

  written_sets : (q j : ℕ) → q ≤ 1024 → j < 512 → in_set written q j ≡ in_set mid q j
  written_sets q j b l = set_same mid written q j (get_or-set_other mid (8704 + i) (8 * q + j / 64) number 0 (λ e. omega arith))

  written_dangling : (j : ℕ) → j < 512 → in_set written 1024 j ≡ in_set old 1024 j
  written_dangling j l = written_sets 1024 j (omega arith) l ∙ set_same old mid 1024 j (a.beyond (8 * 1024 + j / 64) (omega arith))

  written_total : get_or written 8200 0 ≡ get_or old 8200 0
  written_total = get_or-set_other mid (8704 + i) 8200 number 0 (λ e. omega arith) ∙ a.beyond 8200 (omega arith)

  one_only : (number ≡ 1 → ⊥) → Written written
  one_only e =
      let not-one = ne_eqb number 1 e in
      record {
        long = length-set mid (8704 + i) number ∙ a.long;
        counts = λ j. refl;
        sets = λ q j b l. written_sets q j (omega arith) l;
        dangling = λ j l. written_dangling j l ∙ rw not-one (sym (⊕_false (in_set old 1024 j)));
        total = λ l. written_total ∙ rw not-one;
      }

  changed_too : number ≡ 1 → (new : List ℕ) → Changed i true written new → Written new
  changed_too e new d =
      let is_one = eq-eqb number 1 e in
      record {
        long = d.long ∙ length-set mid (8704 + i) number ∙ a.long;
        counts = λ j. d.beyond (8704 + j) (omega arith);
        sets = λ q j b l.
            d.sets q j (omega arith) l ∙ rw (ne_eqb q 1024 (λ t. absurd (omega arith))) (⊕_false (in_set written q j)) ∙ written_sets q j (omega arith) l;
        dangling = λ j l. d.sets 1024 j (omega arith) l ∙ rw is_one (ap (λ (x : Bool). x ⊕ eqb j i) (written_dangling j l));
        total = λ l. d.total ∙ rw (written_total, is_one, lt-ltb (get_or old 8200 0) 512 l) (omega arith);
      }

  single_new : (new : List ℕ) → Written new → (j : ℕ) → single? new j ≡ cond (eqb j i) (eqb number 1) (single? old j)
  single_new new w j = rw (w.counts j, written_count j) (apply (eqb j i))
    where
      apply : (b : Bool) → eqb (cond b number (get_or old (8704 + j) 0)) 1 ≡ cond b (eqb number 1) (single? old j)
      apply true = refl
      apply false = refl

  own_single : (new : List ℕ) → Written new → single? new i ≡ eqb number 1
  own_single new w = single_new new w i ∙ rw (eq-eqb i i refl)

  other_single : (new : List ℕ) → Written new → (j : ℕ) → j < i → single? new j ≡ single? old j
  other_single new w j l = single_new new w j ∙ rw (ne_eqb j i (λ t. absurd (omega arith)))

  next : (j : ℕ) → ltb j (suc i) ≡ cond (eqb j i) true (ltb j i)
  next j =
      bit (eqb j i) (λ e. let s = eqb-true j i e in rw (e, lt-ltb j (suc i) (omega arith)))
      (λ e. rw e (bit (ltb j i) (λ t. let l = ltb-true j i t in rw (t, lt-ltb j (suc i) (omega arith)))
      (λ t. let d = eqb-false j i e in rw (t, le-ltb j (suc i) (past j t d)))))
    where
      past : (j : ℕ) → ltb j i ≡ false → (j ≡ i → ⊥) → suc i ≤ j
      past j t d = ⊎_elim (λ (l : j < i). never (lt-ltb j i l) t) (λ (l : i ≤ j). omega arith) (order j i)

  not_yet : (j : ℕ) (y : Bool) → eqb j i ≡ true → cond (ltb j i) y false ≡ false
  not_yet j y e = let s = eqb-true j i e in rw (le-ltb j i (omega arith))

  few_dangle : get_or old 8200 0 < 512
  few_dangle = let t = tally_few i (single? old) in let u = so.tallied.total in omega arith

  kept_more : (new : List ℕ) → Written new → KeptTo (suc i) n c marks new
  kept_more new w =
      record {
        counts = λ j l. w.counts j ∙ written_count j ∙ bit (eqb j i)
            (λ e. let s = eqb-true j i e in rw (e, s) a.count) (λ e. rw e (so.counts j (let d = eqb-false j i e in omega arith)));
        tallied = record {
          dangling = λ j l. w.dangling j (omega arith) ∙ bit (eqb j i)
              (λ e. let s = eqb-true j i e in rw (s, eq-eqb i i refl, so.free i (omega arith) (omega arith)) (own_test (eqb number 1) ∙ sym (own_single new w)))
              (λ e. let d = eqb-false j i e in rw (e, so.tallied.dangling j (omega arith)) (other_test (single? old j) (eqb number 1) ∙ sym (other_single new w j (omega arith))));
          total = w.total few_dangle ∙ ap₂ Bits.count (sym (own_single new w))
              (so.tallied.total ∙ sym (tally_same i (single? old) (single? new) (other_single new w)));
        };
        free = λ j l m. w.dangling j m ∙ rw (ne_eqb j i (λ t. absurd (omega arith)), so.free j (omega arith) m) (other_test false (eqb number 1));
        on = λ rows q j t l.
            let b = open_below_lem n marks q t in
            w.sets q j (omega arith) l ∙ a.sets (own rows) q j t l ∙ ap (λ (x : Bool). x ⊕ (eqb j i && has (row_in c i) q)) (so.on rows q j t l) ∙ on_new q j;
      }
    where
      own : GoodRows n c → Distinct (row_in c i)
      own rows =
          read_distinct (read? c.lit (c.first + i)) (row_at c.flat c.ends (c.first + i))
          (ascending_distinct n (row_at c.flat c.ends (c.first + i)) (row_of_lem (Ascending n) c.flat c.ends c.first c.count i h rows.ascending))

      own_test : (x : Bool) → false ⊕ (x && true) ≡ x
      own_test true = refl
      own_test false = refl

      other_test : (x y : Bool) → x ⊕ (y && false) ≡ x
      other_test true true = refl
      other_test true false = refl
      other_test false true = refl
      other_test false false = refl

      on_new : (q j : ℕ) → cond (ltb j i) (has (row_in c j) q) false ⊕ (eqb j i && has (row_in c i) q) ≡ cond (ltb j (suc i)) (has (row_in c j) q) false
      on_new q j =
          bit (eqb j i)
          (λ e. let s = eqb-true j i e in rw (not_yet j (has (row_in c j) q) e, e, lt-ltb j (suc i) (omega arith), s))
          (λ e. rw (e, next j, e) (⊕_false (cond (ltb j i) (has (row_in c j) q) false)))

  written_past : Beyond old written
  written_past k l = get_or-set_other mid (8704 + i) k number 0 (λ e. omega arith) ∙ a.beyond k (omega arith)

  pub kept_plain : (number ≡ 1 → ⊥) → (length written ≡ length old) × Beyond old written × KeptTo (suc i) n c marks written
  kept_plain e = ((one_only e).long, written_past, kept_more written (one_only e))

  pub kept_dangling : number ≡ 1 → (new : List ℕ) → Changed i true written new → (length new ≡ length old) × Beyond old new × KeptTo (suc i) n c marks new
  kept_dangling e new d = ((changed_too e new d).long, λ k l. d.beyond k (omega arith) ∙ written_past k l, kept_more new (changed_too e new d))

pub kept_all : (i n : ℕ) (c : RowLists) (marks work : List ℕ) → KeptTo i n c marks work → i ≡ c.count → KeptTo c.count n c marks work
kept_all i n c marks work k e = subst (λ (j : ℕ). KeptTo j n c marks work) e k
