-- Everything kept of the rows, qubit by qubit, from the rows on each. Assumes nothing.
use mathlib.Core.Path.{◌≡◌, refl, sym, ap, ◌∙◌, subst}
use mathlib.Core.Bool.{Bool, true, false}
use mathlib.Core.Logic.{◌⊎◌, inl, inr, ⊎_elim}
use mathlib.Core.List.{List, [], ◌∷◌}
use Prim.Native.Nat.{ℕ, zero, suc, ◌+◌, ◌-◌, ◌*◌, ◌/◌, ◌≤◌, ◌<◌}
use native.Mathlib.Numerals.{add-one}
use native.Mathlib.Omega.{arith}
use lib.Dec.{eqb}
use lib.ListN.{length, get_or, take, drop, drop_of_length-le}
use lib.Seq.{drop-cons}
use borrow.Author.Tests.{eq-eqb, ne_eqb, eqb-true, eqb-false}
use Rattle.binary.specs.Meaning.{Qubits, Row, has}
use Rattle.binary.proofs.Bits.{bit, never, or_right}
use Rattle.binary.proofs.WordBits.{order}
use Rattle.lists.specs.Cleared.{Cleared}
use Rattle.bitsets.specs.Bitsets.{in_set, Flipped}
use Rattle.code.specs.Lists.{row_at}
use Rattle.code.specs.Tests.{Distinct}
use Rattle.incidence.specs.Incidence.{slot, number_on, rows_on}
use Rattle.machine.specs.Machine.{is_open, put, part}
use Rattle.machine.specs.Lists.{view}
use Rattle.scans.specs.Rows.{RowLists, rows_in, read?, GoodRows}
use Rattle.scans.proofs.Scanning.{open_below_lem, open_past, open_read}
use Rattle.kept.specs.Kept.{row_in, Raised, Finds}
use Rattle.kept.proofs.Same.{set_same, set_none, kept_by, rows_same}
use Rattle.kept.proofs.Raising.{Raising, raising_start, raising_pass, raising_row, raising_end}
use Rattle.filling.proofs.OpenBelow.{part_none, open_below, below_none, below_own, below_inside, below_pass, below_put, below_all}
use Rattle.filling.specs.Filling.{Beyond, ReadAs, RowPut, CountedWith, RowsPut, QubitKept, QubitsKept}

----------------------------------------------------------------------
-- A row on a qubit

module _ (first count : ℕ) (lit : List ℕ) (r : ℕ) where
  abbrev pub Own : Type 0
  Own = (i : ℕ) × ReadAs first count lit r i

  abbrev pub Other : Type 0
  Other = (i : ℕ) → ReadAs first count lit r i → ⊥

  pub own_or_other : Own ⊎ Other
  own_or_other =
      ⊎_elim (λ (l : r < first). inr (λ i a. omega (arith, a.is)))
      (λ (l : first ≤ r). ⊎_elim
      (λ (m : r - first < count). bit (read? lit r) (λ t. inl (r - first, record { is = omega arith; within = m; read = t })) (λ t. inr (λ i a. never a.read t)))
      (λ (m : count ≤ r - first). inr (λ i a. omega (arith, a.is, a.within))) (order (r - first) count)) (order r first)

module _ (q r first count : ℕ) (lit old : List ℕ) where
  pub row_passed : Other first count lit r → RowPut q r first count lit old old
  row_passed f = record { long = refl; puts = λ i a. absurd (f i a); passes = λ g. refl; past = λ small k h. refl }

  pub row_put : (i : ℕ) → r ≡ first + i → i < count → read? lit r ≡ true → (mid new : List ℕ) → Flipped q i old mid → Raised i mid new → RowPut q r first count lit old new
  row_put i is within t mid new flip raise =
      record {
        long = raise.long ∙ flip.long;
        puts = λ j a.
            let d : i ≡ j = omega (arith, a.is) in
            (mid, subst (λ (x : ℕ). Flipped q x old mid) d flip, subst (λ (x : ℕ). Raised x mid new) d raise);
        passes = λ f. absurd (f i (record { is = is; within = within; read = t }));
        past = λ small k h. raise.past k h ∙ flip.beyond k (omega arith);
      }

----------------------------------------------------------------------
-- The rows on a qubit

pub has_at : (l : List ℕ) (k : ℕ) → k < length l → has l (get_or l k 0) ≡ true
has_at [] k h = absurd (omega arith)
has_at (x ∷ l) zero h = rw (eq-eqb x x refl)
has_at (x ∷ l) (suc k) h = or_right (eqb x (get_or l k 0)) (has_at l k (omega arith))

-- What is known where no row is put yet: the qubits o were open before.
pub record Given (n q : ℕ) (on : List ℕ) (c : RowLists) (o : Qubits) (work₀ : List ℕ) : Type 0 where
  pub size : n ≤ 1024
  pub small : q < n
  pub good : GoodRows n c
  pub listed : number_on c.ends q ≤ 14
  pub rows_on_lem : on ≡ rows_on c.ends q
  pub inside : (p : ℕ) → o p ≡ true → p < n
  pub shut : o q ≡ false
  pub counted : CountedWith o c work₀
  pub empty : (j : ℕ) → j < c.count → in_set work₀ q j ≡ false

-- Where the qubit's set was emptied.
given : (n q : ℕ) (on : List ℕ) (c : RowLists) (o : Qubits) (old work₀ : List ℕ) → c.count ≤ 512 → n ≤ 1024 → q < n → GoodRows n c → number_on c.ends q ≤ 14 → on ≡ rows_on c.ends q
    → ((p : ℕ) → o p ≡ true → p < n) → o q ≡ false → CountedWith o c old → Cleared (8 * q) (8 * q + 8) old work₀ → Given n q on c o work₀
given n q on c o old work₀ few size small good listed rows_on_lem inside shut counted v =
    record {
      size = size;
      small = small;
      good = good;
      listed = listed;
      rows_on_lem = rows_on_lem;
      inside = inside;
      shut = shut;
      counted = (
        (λ j h. v.outside (8704 + j) (inr (omega arith)) ∙ counted.0 j h),
        record { on = λ p j t h. set_same old work₀ p j (v.outside (8 * p + j / 64) (beside p j t (omega arith))) ∙ counted.1.on p j t h },
      );
      empty = λ j h. set_none work₀ q j (v.inside (8 * q + j / 64) (omega arith) (omega arith));
    }
  where
    beside : (p j : ℕ) → o p ≡ true → j < 512 → (8 * p + j / 64 < 8 * q) ⊎ (8 * q + 8 ≤ 8 * p + j / 64)
    beside p j t l =
        ⊎_elim (λ (m : p < q). inl (omega arith))
        (λ (m : q ≤ p). ⊎_elim (λ (u : q < p). inr (omega arith)) (λ (u : p ≤ q). let d : p ≡ q = omega arith in never (subst (λ (x : ℕ). o x ≡ true) d t) shut) (order q p)) (order p q)

-- From place k of the list on: the half's rows in the rest of it are not raised yet.
pub record Putting (q : ℕ) (on : List ℕ) (first count : ℕ) (lit work₀ : List ℕ) (k : ℕ) (work : List ℕ) : Type 0 where
  pub long : length work ≡ length work₀
  pub so : (n : ℕ) (flat ends : List ℕ) (o : Qubits) → let c = rows_in flat ends first count lit in Given n q on c o work₀
      → (0 < count → Distinct (drop k on)) × Raising c q o (λ j. has (drop k on) (first + j)) work
  pub past : q < 1024 → Beyond work₀ work

module _ (q : ℕ) (on : List ℕ) (first count : ℕ) (lit work₀ : List ℕ) (few : count ≤ 512) (room : 9216 ≤ length work₀) where
  abbrev rows : List ℕ → List ℕ → RowLists
  rows flat ends = rows_in flat ends first count lit

  abbrev later : List ℕ → ℕ → Bool
  later rest j = has rest (first + j)

  -- What is known of the rows, with the half's lists and the qubits that were open.
  module _ (n : ℕ) (flat ends : List ℕ) (o : Qubits) (g : Given n q on (rows flat ends) o work₀) where
    on_inside : (p : ℕ) → put q true o p ≡ true → p < n
    on_inside p t =
        bit (eqb q p) (λ e. let d = eqb-true q p e in let s = g.small in omega arith) (λ e. g.inside p (rw e at t))

    distinct : 0 < count → Distinct on
    distinct h = subst Distinct (sym g.rows_on_lem) (g.good.listed h q g.small g.listed).once

    are : (j : ℕ) → j < count → has on (first + j) ≡ has (row_at flat ends (first + j)) q
    are j h = ap (λ (l : List ℕ). has l (first + j)) g.rows_on_lem ∙ (g.good.listed (omega arith) q g.small g.listed).are j h

    raising_begun : Raising (rows flat ends) q o (later on) work₀
    raising_begun =
        raising_start n (rows flat ends) q o g.size few g.good.ascending on_inside g.shut (later on) work₀ g.counted.0 g.counted.1 g.empty are

  pub putting_start : Putting q on first count lit work₀ 0 work₀
  putting_start = record { long = refl; so = λ n flat ends o g. (distinct n flat ends o g, raising_begun n flat ends o g); past = λ small k h. refl }

  module _ (k : ℕ) (work : List ℕ) (s : Putting q on first count lit work₀ k work) where
    -- The row at place k.
    module _ (l : k < length on) (work' : List ℕ) (v : RowPut q (get_or on k 0) first count lit work work') where
      abbrev r : ℕ
      r = get_or on k 0

      abbrev rest : List ℕ
      rest = drop (k + 1) on

      here : drop k on ≡ r ∷ rest
      here = rw (add-one k) (drop-cons on k 0 l)

      module _ (n : ℕ) (flat ends : List ℕ) (o : Qubits) (g : Given n q on (rows flat ends) o work₀) where
        was : Raising (rows flat ends) q o (later (r ∷ rest)) work
        was = subst (λ (x : List ℕ). Raising (rows flat ends) q o (later x) work) here (s.so n flat ends o g).1

        left : 0 < count → Distinct (r ∷ rest)
        left h = subst Distinct here ((s.so n flat ends o g).0 h)

        raising_other : Other first count lit r → Raising (rows flat ends) q o (later rest) work'
        raising_other f =
            rw (v.passes f)
            (raising_pass n (rows flat ends) q o g.size few g.good.ascending (on_inside n flat ends o g) g.shut (later (r ∷ rest)) work was (later rest)
            (λ j h t. rw (ne_eqb r (first + j) (λ e. f j (record { is = e; within = h; read = subst (λ (x : ℕ). read? lit x ≡ true) (sym e) t })))))

        raising_own : Own first count lit r → Raising (rows flat ends) q o (later rest) work'
        raising_own x =
            let i = x.0 in
            let e = x.1.is in
            let h = x.1.within in
            let put = v.puts i x.1 in
            raising_row n (rows flat ends) q o g.size few g.good.ascending (on_inside n flat ends o g) g.shut (later (r ∷ rest)) work was
            i h (subst (λ (y : ℕ). read? lit y ≡ true) e x.1.read)
            (sym (are n flat ends o g i h) ∙ subst (λ (y : ℕ). has on y ≡ true) e (has_at on k l))
            (rw (eq-eqb r (first + i) e)) (omega (arith, s.long)) put.0 put.1 work' put.2 (later rest)
            (subst (λ (y : ℕ). has rest y ≡ false) e (left (omega arith)).0)
            (λ j d. rw (ne_eqb r (first + j) (λ u. eqb-false i j d (omega arith))))

      pub putting_row : Putting q on first count lit work₀ (k + 1) work'
      putting_row =
          record {
            long = v.long ∙ s.long;
            so = λ n flat ends o g. ((λ h. (left n flat ends o g h).1), ⊎_elim (raising_own n flat ends o g) (raising_other n flat ends o g) (own_or_other first count lit r));
            past = λ small j h. v.past small j h ∙ s.past small j h;
          }

    pub putting_end : length on ≤ k → (old : List ℕ) → Cleared (8 * q) (8 * q + 8) old work₀ → RowsPut q on first count lit old work
    putting_end l old v =
        record {
          long = s.long ∙ v.long;
          opens = λ flat ends listed same n size small good o inside shut counted.
              let g = given n q on (rows flat ends) o old work₀ few size small good listed same inside shut counted v in
              raising_end n (rows flat ends) q o size few good.ascending (on_inside n flat ends o g) shut (later (drop k on)) work (s.so n flat ends o g).1
              (λ j h. rw (drop_of_length-le on l));
          past = λ small j h. s.past small j h ∙ v.outside j (inr (omega arith));
        }

----------------------------------------------------------------------
-- The qubits

-- The part of the list that the rows on a qubit occupy.
pub rows_part : (q : ℕ) (ends : List ℕ) → take (slot q + 1 + number_on ends q - (slot q + 1)) (drop (slot q + 1) ends) ≡ rows_on ends q
unfolding rows_on
rows_part q ends = let e : slot q + 1 + number_on ends q - (slot q + 1) ≡ number_on ends q = omega arith in ap (λ (k : ℕ). take k (drop (slot q + 1) ends)) e

module _ (q : ℕ) (ends : List ℕ) (first count : ℕ) (lit work₀ : List ℕ) where
  pub qubit_not : QubitKept q ends first count lit work₀ work₀ false
  qubit_not = record { long = refl; opens = λ t. never t refl; past = λ small k h. refl }

  pub qubit_kept : (on : List ℕ) → on ≡ rows_on ends q → number_on ends q ≤ 14 → (work : List ℕ) → RowsPut q on first count lit work₀ work → QubitKept q ends first count lit work₀ work true
  qubit_kept on same listed work v = record { long = v.long; opens = λ t flat. v.opens flat ends listed same; past = v.past }

-- Where it is told that not all rows are listed.
pub qubits_not : (n : ℕ) (ends : List ℕ) (first count : ℕ) (lit marks old new : List ℕ) → length new ≡ length old → Beyond old new → QubitsKept n ends first count lit marks old new false
qubits_not n ends first count lit marks old new e p = record { long = e; kept = λ t. never t refl; past = p }

-- With the open qubits below q.
pub record Reached (n : ℕ) (ends : List ℕ) (first count : ℕ) (lit marks work₀ : List ℕ) (q : ℕ) (work : List ℕ) : Type 0 where
  pub long : length work ≡ length work₀
  pub so : (flat : List ℕ) → let c = rows_in flat ends first count lit in GoodRows n c → CountedWith (open_below (is_open (view n marks)) q) c work
  pub past : Beyond work₀ work

module _ (n : ℕ) (ends : List ℕ) (first count : ℕ) (lit marks work₀ : List ℕ) (size : n ≤ 1024) (few : count ≤ 512) where
  abbrev o : Qubits
  o = is_open (view n marks)

  none_yet_lem : (r : Row) → part (open_below o 0) r ≡ []
  none_yet_lem r = ap (λ (s : Qubits). part s r) (below_none o) ∙ part_none r

  -- No qubit is open yet.
  pub reached_none : (old : List ℕ) → Cleared 8704 (8704 + count) old work₀ → Reached n ends first count lit marks work₀ 0 work₀
  reached_none old v =
      record {
        long = refl;
        so = λ flat good. (
          (λ i h. v.inside (8704 + i) (omega arith) (omega arith) ∙ sym (ap length (none_yet_lem (row_in (rows_in flat ends first count lit) i)))),
          record { on = λ p i t h. never t (ap (λ (s : Qubits). s p) (below_none o)) },
        );
        past = λ k h. refl;
      }

  module _ (q : ℕ) (work : List ℕ) (s : Reached n ends first count lit marks work₀ q work) where
    pub reached_shut : q < n → (get_or marks q 0 ≡ 4 → ⊥) → Reached n ends first count lit marks work₀ (q + 1) work
    reached_shut h mark = record { long = s.long; so = λ flat good. subst (λ (x : Qubits). CountedWith x (rows_in flat ends first count lit) work) (below_pass o q e) (s.so flat good); past = s.past }
      where
        e : o q ≡ false
        e = sym (open_read n marks q h) ∙ ne_eqb (get_or marks q 0) 4 mark

    pub reached_open : q < n → get_or marks q 0 ≡ 4 → (work' : List ℕ) (told : Bool) → told ≡ true → QubitKept q ends first count lit work work' told
        → Reached n ends first count lit marks work₀ (q + 1) work'
    reached_open h mark work' told is-told v =
        record {
          long = v.long ∙ s.long;
          so = λ flat good.
              subst (λ (x : Qubits). CountedWith x (rows_in flat ends first count lit) work') (below_put o q e)
              (v.opens is-told flat n size h good (open_below o q) (below_inside o q n (omega arith)) (below_own o q) (s.so flat good));
          past = λ k l. v.past (omega arith) k l ∙ s.past k l;
        }
      where
        e : o q ≡ true
        e = sym (open_read n marks q h) ∙ eq-eqb (get_or marks q 0) 4 mark

    -- What is left of the list before the numbers were cleared.
    pub reached_past : (old : List ℕ) → Cleared 8704 (8704 + count) old work₀ → Beyond old work
    reached_past old v k l = s.past k l ∙ v.outside k (inr (omega arith))

    pub reached_all : n ≤ q → (old new : List ℕ) → 9216 ≤ length old → Cleared 8704 (8704 + count) old work₀ → Finds count work new → QubitsKept n ends first count lit marks old new true
    reached_all h old new room e v =
        record {
          long = v.long ∙ s.long ∙ e.long;
          past = λ k l. v.beyond k (omega arith) ∙ reached_past old e k l;
          kept = λ t flat good.
              let c = rows_in flat ends first count lit in
              let all = subst (λ (x : Qubits). CountedWith x c work) (below_all o q (λ p l. sym (open_past n marks p (omega arith)))) (s.so flat good) in (
                kept_by o c new (λ i l. v.beyond (8704 + i) (omega arith) ∙ all.0 i l) (v.tallied (omega (arith, s.long, e.long)) few),
                rows_same n o o c work new few v.below (λ p t. let l = open_below_lem n marks p t in (t, omega arith)) all.1,
              );
        }
