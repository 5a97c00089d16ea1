-- The rows on a qubit that becomes open: each of the half's that was read has it more. Assumes nothing.
use mathlib.Core.Path.{◌≡◌, refl, sym, ap, ◌∙◌, subst}
use mathlib.Core.Bool.{true, false}
use mathlib.Core.Logic.{⊎_elim}
use mathlib.Core.List.{List, ◌∷◌}
use Prim.Native.Nat.{ℕ, ◌+◌, ◌%◌, ◌≤◌, ◌<◌}
use native.Mathlib.Omega.{arith}
use lib.ListN.{length, get_or, set, drop, drop_of_length-le, length-set}
use Rattle.binary.specs.Meaning.{Qubits, has}
use Rattle.binary.proofs.Bits.{bit}
use Rattle.machine.specs.Machine.{put, part}
use Rattle.scans.specs.Rows.{RowLists, rows_in, check_in, read?, read_in?}
use Rattle.kept.specs.Kept.{row_in, Numbered, Raised}
use Rattle.kept.proofs.Raising.{one_more_lem, open_few}
use Rattle.filling.proofs.KeptQubits.{Own, Other, own_or_other, has_at}
use Rattle.trying.specs.Entries.{Entry, entry_in, entry_of, HasEntries, EntryPut, opened, RowOpened, RowsOpened}
use Rattle.trying.proofs.RowNumbers.{open_off, open_on}
use Rattle.trying.proofs.WritingNumbers.{number_put, element_put}
use Rattle.trying.proofs.OnQubit.{OnQubit, unread_same, once, are, off_row, own_ascending, own_distinct}
use Rattle.trying.proofs.Walking.{Walking, drop_here, walk_start, walk_other, walk_now, walk_own, walk_end}

----------------------------------------------------------------------
-- One row

module _ (q r first count : ℕ) (lit old : List ℕ) where
  pub row_passed : Other first count lit r → RowOpened q r first count lit old old
  row_passed f = record { long = refl; opens = λ i a. absurd (f i a); passes = λ g. refl }

  module _ (i : ℕ) (is : r ≡ first + i) (m : i < count) (t : read? lit r ≡ true) (few : count ≤ 512) (long : 10240 ≤ length old) (mid : List ℕ) (raise : Raised i old mid) where
    abbrev new : List ℕ
    new = set mid (9216 + i) ((get_or mid (9216 + i) 0 % 65536 + q) % 65536)

    abbrev Put : ℕ → Type 0
    Put j = EntryPut j (opened q (entry_in old j)) old new

    put_own : get_or old (8704 + i) 0 < 1024 → Put i
    put_own less =
        let more : get_or old (8704 + i) 0 % 1024 + 1 ≡ get_or old (8704 + i) 0 + 1 = omega arith in
        let v = number_put i (get_or old (8704 + i) 0 + 1) old mid (subst (λ (y : ℕ). Numbered i y old mid) more (raise.raised (omega arith) (omega arith))) raise.past in
        let same = raise.past (9216 + i) (omega arith) in
        rw same (element_put i _ old mid v (omega arith) 18 ((get_or old (9216 + i) 0 % 65536 + q) % 65536) (omega arith) (omega (arith, raise.long)))

    pub row_opened : RowOpened q r first count lit old new
    row_opened =
        record {
          long = length-set mid (9216 + i) ((get_or mid (9216 + i) 0 % 65536 + q) % 65536) ∙ raise.long;
          opens = λ j a less. let d : i ≡ j = omega (arith, a.is) in subst Put d (put_own (subst (λ (x : ℕ). get_or old (8704 + x) 0 < 1024) (sym d) less));
          passes = λ f. absurd (f i (record { is = is; within = m; read = t }));
        }

----------------------------------------------------------------------
-- The rows of a list

-- What is known where no row is opened yet: the qubits o were open before.
pub record Given (n q : ℕ) (on : List ℕ) (c : RowLists) (o x : Qubits) (work₀ : List ℕ) : Type 0 where
  pub rows : OnQubit n q on c
  pub size : n ≤ 1024
  pub shut : o q ≡ false
  pub entries : HasEntries o x c work₀

-- Nothing is asked of a row beside its numbers, and nothing of the list.
abbrev Any : {A : Type 0} → A → Type 0
Any y = Unit {0}

abbrev Walk : ℕ → RowLists → Qubits → Qubits → List ℕ → List ℕ → Type 0
Walk q c o x = Walking c.first c.count (λ j. entry_of o x (row_in c j)) (λ j. entry_of (put q true o) x (row_in c j)) Any Any

module _ (n q : ℕ) (on : List ℕ) (c : RowLists) (o x : Qubits) (work₀ : List ℕ) (g : Given n q on c o x work₀) (few : c.count ≤ 512) where
  abbrev before : ℕ → Entry
  before j = entry_of o x (row_in c j)

  abbrev after : ℕ → Entry
  after j = entry_of (put q true o) x (row_in c j)

  begun : Walk q c o x on work₀
  begun =
      walk_start c.first c.count before after Any Any on work₀ (once n q on c g.rows) g.entries tt
      (λ j h e. (open_off o x q (row_in c j) g.shut (off_row n q on c g.rows j h e), tt))

  -- The row at hand.
  module _ (r : ℕ) (rest work : List ℕ) (s : Walk q c o x (r ∷ rest) work) (on_it : has on r ≡ true) (work' : List ℕ)
      (v : RowOpened q r c.first c.count c.lit work work') where
    other : Other c.first c.count c.lit r → Walk q c o x rest work'
    other f = rw (v.passes f) (walk_other c.first c.count before after Any Any r rest work s (λ j h e. (unread_same (read_in? c j) (check_in c j).row o x (put q true o) x (unread j h e), tt)))
      where
        unread : (j : ℕ) → j < c.count → r ≡ c.first + j → read_in? c j ≡ false
        unread j h e = bit (read_in? c j) (λ t. absurd (f j (record { is = e; within = h; read = rw e t }))) (λ t. t)

    own : Own c.first c.count c.lit r → Walk q c o x rest work'
    own a =
        walk_own c.first c.count before after Any Any r rest work s i is h few work'
        (subst (λ (y : Entry). EntryPut i y work work') made (v.opens i a.1 (let z = g.size in omega (arith, number, more, bound)))) (λ k. tt) tt
      where
        i : ℕ
        i = a.0

        is : r ≡ c.first + i
        is = a.1.is

        h : i < c.count
        h = a.1.within

        row_is : row_in c i ≡ (check_in c i).row
        row_is = let t : read_in? c i ≡ true = subst (λ (y : ℕ). read? c.lit y ≡ true) is a.1.read in rw t

        has_it : has (check_in c i).row q ≡ true
        has_it = sym (are n q on c g.rows i h) ∙ subst (λ (y : ℕ). has on y ≡ true) is on_it

        now : entry_in work i ≡ entry_of o x (check_in c i).row
        now = walk_now c.first c.count before after Any Any r rest work s i is h few ∙ ap (entry_of o x) row_is

        number : get_or work (8704 + i) 0 ≡ length (part o (check_in c i).row)
        number = ap (λ (y : Entry). y.number) now

        more : length (part (put q true o) (check_in c i).row) ≡ 1 + length (part o (check_in c i).row)
        more = let e = one_more_lem o q (check_in c i).row (own_distinct n q on c g.rows i h) g.shut has_it in omega arith

        bound : length (part (put q true o) (check_in c i).row) ≤ n
        bound = open_few n (put q true o) (check_in c i).row (own_ascending n q on c g.rows i h)

        made : opened q (entry_in work i) ≡ after i
        made = ap (opened q) now ∙ open_on o x q (check_in c i).row g.shut (own_distinct n q on c g.rows i h) has_it ∙ ap (entry_of (put q true o) x) (sym row_is)

    step : Walk q c o x rest work'
    step = ⊎_elim own other (own_or_other c.first c.count c.lit r)

-- From place k of the list on the rows are to be opened.
pub record Opening (q : ℕ) (on : List ℕ) (first count : ℕ) (lit work₀ : List ℕ) (k : ℕ) (work : List ℕ) : Type 0 where
  pub long : length work ≡ length work₀
  pub so : (n : ℕ) (flat ends : List ℕ) (o x : Qubits) → let c = rows_in flat ends first count lit in Given n q on c o x work₀ → Walk q c o x (drop k on) work

module _ (q : ℕ) (on : List ℕ) (first count : ℕ) (lit work₀ : List ℕ) (few : count ≤ 512) where
  abbrev rows : List ℕ → List ℕ → RowLists
  rows flat ends = rows_in flat ends first count lit

  pub opening_start : Opening q on first count lit work₀ 0 work₀
  opening_start = record { long = refl; so = λ n flat ends o x g. begun n q on (rows flat ends) o x work₀ g few }

  module _ (k : ℕ) (work : List ℕ) (s : Opening q on first count lit work₀ k work) where
    pub opening_row : k < length on → (work' : List ℕ) → RowOpened q (get_or on k 0) first count lit work work' → Opening q on first count lit work₀ (k + 1) work'
    opening_row l work' v =
        record {
          long = v.long ∙ s.long;
          so = λ n flat ends o x g.
              step n q on (rows flat ends) o x work₀ g few (get_or on k 0) (drop (k + 1) on) work
              (subst (λ (y : List ℕ). Walk q (rows flat ends) o x y work) (drop_here on k l) (s.so n flat ends o x g)) (has_at on k l) work' v;
        }

    pub opening_end : length on ≤ k → RowsOpened q on first count lit work₀ work
    opening_end l =
        record {
          long = s.long;
          opens = λ flat ends listed same n size small good o x shut entries.
              let g : Given n q on (rows flat ends) o x work₀ = record { rows = record { good = good; small = small; listed = listed; rows_on_lem = same }; size = size; shut = shut; entries = entries } in
              let w = walk_end first count (before n q on (rows flat ends) o x work₀ g few) (after n q on (rows flat ends) o x work₀ g few) Any Any work
              (subst (λ (y : List ℕ). Walk q (rows flat ends) o x y work) (drop_of_length-le on l) (s.so n flat ends o x g)) in
              w.0;
        }
