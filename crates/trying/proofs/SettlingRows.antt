-- The rows on an open qubit that is settled: each of the half's that was read has it less, and its value more. Assumes nothing.
use mathlib.Core.Path.{◌≡◌, refl, sym, ap, ◌∙◌, subst}
use mathlib.Core.Bool.{Bool, true, false}
use mathlib.Core.Logic.{◌⊎◌, inl, inr, ⊎_elim}
use mathlib.Core.List.{List, ◌∷◌}
use Prim.Native.Nat.{ℕ, ◌+◌, ◌-◌, ◌%◌, ◌≤◌, ◌<◌}
use native.Mathlib.Omega.{arith}
use lib.Dec.{eqb}
use lib.ListN.{length, get_or, set, drop, drop_of_length-le, length-set}
use lib.Seq.{get_or-set_other}
use borrow.Author.Tests.{eqb-true}
use Rattle.binary.specs.Meaning.{Qubits, Row, has, odd}
use Rattle.binary.proofs.Bits.{bit, never}
use Rattle.binary.proofs.WordBits.{order}
use Rattle.machine.specs.Machine.{put, part, closed?}
use Rattle.machine.specs.Lists.{digit, lit?}
use Rattle.scans.specs.Rows.{RowLists, rows_in, check_in, read_in?}
use Rattle.kept.specs.Kept.{row_in, Tallied, Numbered, Retallied, Lowered}
use Rattle.kept.proofs.Same.{tallied_same}
use Rattle.kept.proofs.Lowering.{one_less_lem}
use Rattle.filling.proofs.KeptQubits.{has_at}
use Rattle.closing.proofs.TakingRows.{length_empty}
use Rattle.trying.specs.Entries.{Entry, entry_in, entry_of, Tracks, EntryPut, settled, OpenAs, RowSettled, RowsSettled}
use Rattle.trying.proofs.RowNumbers.{same_digit, settle_off, settle_on}
use Rattle.trying.proofs.WritingNumbers.{number_put, element_put}
use Rattle.trying.proofs.OnQubit.{OnQubit, unread_same, once, are, off_row, own_distinct}
use Rattle.trying.proofs.Walking.{Walking, drop_here, walk_start, walk_other, walk_now, walk_own, walk_end}

----------------------------------------------------------------------
-- One row

module _ (first count : ℕ) (work : List ℕ) (r : ℕ) where
  abbrev pub Own : Type 0
  Own = (i : ℕ) × OpenAs first count work r i

  abbrev pub Other : Type 0
  Other = (i : ℕ) → OpenAs first count work r i → ⊥

  own_or_other : Own ⊎ Other
  own_or_other =
      ⊎_elim (λ (l : r < first). inr (λ i a. omega (arith, a.is)))
      (λ (l : first ≤ r). ⊎_elim
      (λ (m : r - first < count). ⊎_elim
      (λ (t : 0 < get_or work (8704 + (r - first)) 0). inl (r - first, record { is = omega arith; within = m; some_open_lem = omega arith }))
      (λ (t : get_or work (8704 + (r - first)) 0 ≤ 0). inr (λ i a. let d : i ≡ r - first = omega (arith, a.is) in omega (arith, rw d at a.some_open_lem))) (order 0 (get_or work (8704 + (r - first)) 0)))
      (λ (m : count ≤ r - first). inr (λ i a. omega (arith, a.is, a.within))) (order (r - first) count)) (order r first)

module _ (p value r first count : ℕ) (lit old : List ℕ) where
  pub row_passed : Other first count old r → RowSettled p value r first count lit old old true
  row_passed f = record { long = refl; settles = λ i a. absurd (f i a); tallied = λ i a. absurd (f i a); reads = λ t i a. absurd (f i a); passes = λ g. refl }

  module _ (i : ℕ) (is : r ≡ first + i) (m : i < count) where
    pub row_closed : get_or old (8704 + i) 0 ≡ 0 → RowSettled p value r first count lit old old true
    row_closed e = row_passed (λ j a. let d : j ≡ i = omega (arith, a.is) in omega (arith, e, rw d at a.some_open_lem))

    module _ (t : get_or old (8704 + i) 0 ≡ 0 → ⊥) (few : count ≤ 512) (long : 10240 ≤ length old) (mid : List ℕ) (left : ℕ) (low : Lowered i old mid left) where
      abbrev sum : ℕ
      sum = (get_or mid (9216 + i) 0 % 65536 + 65536 - p) % 65536

      abbrev parity : ℕ
      parity = (get_or mid (9728 + i) 0 % 2 + value) % 2

      abbrev new : List ℕ
      new = set (set mid (9216 + i) sum) (9728 + i) parity

      abbrev Put : ℕ → Type 0
      Put j = EntryPut j (settled p value (entry_in old j)) old new

      lowered : (left + 1 ≡ get_or old (8704 + i) 0) × Numbered i left old mid × Retallied i old mid
      lowered = low.lowered (omega arith) (omega arith) (omega arith)

      parity_was : get_or mid (9728 + i) 0 ≡ get_or old (9728 + i) 0
      parity_was = low.past (9728 + i) (omega arith)

      put_own : Put i
      put_own =
          let z = lowered in
          let less : left ≡ get_or old (8704 + i) 0 - 1 = omega (arith, z.0) in
          let sum-was = low.past (9216 + i) (omega arith) in
          let v = number_put i left old mid z.1 low.past in
          let w = element_put i _ old mid v (omega arith) 18 sum (omega arith) (omega (arith, low.long)) in
          subst (λ (f : Entry). EntryPut i f old new) (λ j. record { number = less j; sum = (sum-was j % 65536 + 65536 - p) % 65536; parity = (parity_was j % 2 + value) % 2 })
          (element_put i _ old (set mid (9216 + i) sum) w (omega arith) 19 parity (omega arith) (omega (arith, low.long, length-set mid (9216 + i) sum)))

      beside : (k : ℕ) → k < 9216 → get_or new k 0 ≡ get_or mid k 0
      beside k h =
          get_or-set_other (set mid (9216 + i) sum) (9728 + i) k parity 0 (λ e. omega arith) ∙ get_or-set_other mid (9216 + i) k sum 0 (λ e. omega arith)

      retallied : Retallied i old new
      retallied n h k t = tallied_same n mid new h (λ j u. beside (8192 + j) (omega arith)) (λ j u. beside (8704 + j) (omega arith)) (lowered.2 n h k t)

      pub row_settled : (told : Bool) → (told ≡ true → left ≡ 0 → parity ≡ digit (lit? (get_or lit r 0))) → RowSettled p value r first count lit old new told
      row_settled told reads =
          record {
            long = length-set (set mid (9216 + i) sum) (9728 + i) parity ∙ length-set mid (9216 + i) sum ∙ low.long;
            settles = λ j a. let d : i ≡ j = omega (arith, a.is) in subst Put d put_own;
            tallied = λ j a. let d : i ≡ j = omega (arith, a.is) in subst (λ (y : ℕ). Retallied y old new) d retallied;
            reads = λ u j a none_left.
                let d : j ≡ i = omega (arith, a.is) in
                let z = lowered in
                rw d (sym (ap (λ (y : ℕ). (y % 2 + value) % 2) parity_was) ∙ reads u (omega (arith, z.0, rw d at none_left)));
            passes = λ f. absurd (f i (record { is = is; within = m; some_open_lem = omega arith }));
          }

----------------------------------------------------------------------
-- The rows of a list

-- What is known where no row is settled yet: the qubits o were open before.
pub record Given (n p value : ℕ) (on : List ℕ) (c : RowLists) (o x : Qubits) (work₀ : List ℕ) : Type 0 where
  pub rows : OnQubit n p on c
  pub size : n ≤ 1024
  pub bit_value : value < 2
  pub was_open : o p ≡ true
  pub blank : x p ≡ false
  pub tracks : Tracks o x c work₀

-- A row that this closed reads right.
abbrev Right : ℕ → RowLists → Qubits → Qubits → ℕ → Type 0
Right p c o x i = read_in? c i ≡ true → has (check_in c i).row p ≡ true → closed? o (check_in c i) ≡ true → odd x (check_in c i).row ≡ (check_in c i).lit

abbrev Walk : ℕ → ℕ → RowLists → Qubits → Qubits → List ℕ → List ℕ → Type 0
Walk p value c o x =
    Walking c.first c.count (λ j. entry_of o x (row_in c j)) (λ j. entry_of (put p false o) (put p (eqb value 1) x) (row_in c j)) (Right p c (put p false o) (put p (eqb value 1) x)) (Tallied c.count)

module _ (n p value : ℕ) (on : List ℕ) (c : RowLists) (o x : Qubits) (work₀ : List ℕ) (g : Given n p value on c o x work₀) (few : c.count ≤ 512) where
  abbrev o' : Qubits
  o' = put p false o

  abbrev x' : Qubits
  x' = put p (eqb value 1) x

  abbrev before : ℕ → Entry
  before j = entry_of o x (row_in c j)

  abbrev after : ℕ → Entry
  after j = entry_of o' x' (row_in c j)

  begun : Walk p value c o x on work₀
  begun =
      walk_start c.first c.count before after (Right p c o' x') (Tallied c.count) on work₀ (once n p on c g.rows) g.tracks.entries g.tracks.tallied
      (λ j h e. (settle_off o x p value (row_in c j) (off_row n p on c g.rows j h e), λ t has_it. never has_it (sym (are n p on c g.rows j h) ∙ e)))

  -- The row at hand.
  module _ (r : ℕ) (rest work : List ℕ) (s : Walk p value c o x (r ∷ rest) work) (on_it : has on r ≡ true) (work' : List ℕ)
      (w : RowSettled p value r c.first c.count c.lit work work' true) where
    -- It is row i of the half.
    module _ (i : ℕ) (is : r ≡ c.first + i) (h : i < c.count) where
      has_it : has (check_in c i).row p ≡ true
      has_it = sym (are n p on c g.rows i h) ∙ subst (λ (y : ℕ). has on y ≡ true) is on_it

      now : entry_in work i ≡ before i
      now = walk_now c.first c.count before after (Right p c o' x') (Tallied c.count) r rest work s i is h few

      less : read_in? c i ≡ true → get_or work (8704 + i) 0 ≡ 1 + length (part o' (check_in c i).row)
      less t =
          let e = one_less_lem o p (check_in c i).row (own_distinct n p on c g.rows i h) g.was_open has_it in
          let row_is : row_in c i ≡ (check_in c i).row = rw t in
          let d = ap (λ (y : Entry). y.number) now ∙ ap (λ (y : Row). length (part o y)) row_is in
          omega (arith, d, e)

    other : Other c.first c.count work r → Walk p value c o x rest work'
    other f =
        rw (w.passes f) (walk_other c.first c.count before after (Right p c o' x') (Tallied c.count) r rest work s
        (λ j h e. (unread_same (read_in? c j) (check_in c j).row o x o' x' (unread j h e), λ t. never t (unread j h e))))
      where
        unread : (j : ℕ) → j < c.count → r ≡ c.first + j → read_in? c j ≡ false
        unread j h e = bit (read_in? c j) (λ t. absurd (f j (record { is = e; within = h; some_open_lem = omega (arith, less j e h t) }))) (λ t. t)

    own : Own c.first c.count work r → Walk p value c o x rest work'
    own a =
        walk_own c.first c.count before after (Right p c o' x') (Tallied c.count) r rest work s i is h few work'
        (subst (λ (y : Entry). EntryPut i y work work') made (w.settles i a.1)) (w.tallied i a.1 c.count few h) right
      where
        i : ℕ
        i = a.0

        is : r ≡ c.first + i
        is = a.1.is

        h : i < c.count
        h = a.1.within

        -- A row that was not read has no open qubit.
        read : read_in? c i ≡ true
        read = bit (read_in? c i) (λ t. t) (λ t. let z = ap (λ (y : Entry). y.number) (now i is h) in absurd (omega (arith, a.1.some_open_lem, rw t at z)))

        row_is : row_in c i ≡ (check_in c i).row
        row_is = rw read

        made : settled p value (entry_in work i) ≡ after i
        made =
            ap (settled p value) (now i is h ∙ ap (entry_of o x) row_is)
            ∙ settle_on o x p value (check_in c i).row (let z = g.rows.small in let y = g.size in omega arith) g.bit_value (own_distinct n p on c g.rows i h) g.was_open g.blank (has_it i is h)
            ∙ ap (entry_of o' x') (sym row_is)

        right : Right p c o' x' i
        right t on-p shut =
            let d = made ∙ ap (entry_of o' x') row_is in
            let none_left : (settled p value (entry_in work i)).number ≡ 0 = ap (λ (y : Entry). y.number) d ∙ eqb-true (length (part o' (check_in c i).row)) 0 (length_empty (part o' (check_in c i).row) ∙ shut) in
            same_digit (odd x' (check_in c i).row) (check_in c i).lit
            (sym (ap (λ (y : Entry). y.parity) d) ∙ w.reads refl i a.1 none_left ∙ ap (λ (y : ℕ). digit (lit? (get_or c.lit y 0))) is)

    step : Walk p value c o x rest work'
    step = ⊎_elim own other (own_or_other c.first c.count work r)

-- From place k of the list on the rows are to be settled.
pub record Settling (p value : ℕ) (on : List ℕ) (first count : ℕ) (lit work₀ : List ℕ) (k : ℕ) (work : List ℕ) : Type 0 where
  pub long : length work ≡ length work₀
  pub so : (n : ℕ) (flat ends : List ℕ) (o x : Qubits) → let c = rows_in flat ends first count lit in Given n p value on c o x work₀ → Walk p value c o x (drop k on) work

module _ (p value : ℕ) (on : List ℕ) (first count : ℕ) (lit work₀ : List ℕ) (few : count ≤ 512) where
  abbrev rows : List ℕ → List ℕ → RowLists
  rows flat ends = rows_in flat ends first count lit

  pub settling_start : Settling p value on first count lit work₀ 0 work₀
  settling_start = record { long = refl; so = λ n flat ends o x g. begun n p value on (rows flat ends) o x work₀ g few }

  module _ (k : ℕ) (work : List ℕ) (s : Settling p value on first count lit work₀ k work) where
    module _ (l : k < length on) (work' : List ℕ) (told : Bool) (v : RowSettled p value (get_or on k 0) first count lit work work' told) where
      pub settling_row : told ≡ true → Settling p value on first count lit work₀ (k + 1) work'
      settling_row t =
          record {
            long = v.long ∙ s.long;
            so = λ n flat ends o x g.
                step n p value on (rows flat ends) o x work₀ g few (get_or on k 0) (drop (k + 1) on) work
                (subst (λ (y : List ℕ). Walk p value (rows flat ends) o x y work) (drop_here on k l) (s.so n flat ends o x g)) (has_at on k l) work'
                (subst (RowSettled p value (get_or on k 0) first count lit work work') t v);
          }

      pub settling_not : RowsSettled p value on first count lit work₀ work' false
      settling_not = record { long = v.long ∙ s.long; settles = λ t. never t refl }

    pub settling_end : value < 2 → length on ≤ k → RowsSettled p value on first count lit work₀ work true
    settling_end bound l =
        record {
          long = s.long;
          settles = λ t flat ends listed same n size small good o x was_open blank tracks.
              let g : Given n p value on (rows flat ends) o x work₀ =
              record { rows = record { good = good; small = small; listed = listed; rows_on_lem = same }; size = size; bit_value = bound; was_open = was_open; blank = blank; tracks = tracks } in
              let w = walk_end first count (before n p value on (rows flat ends) o x work₀ g few) (after n p value on (rows flat ends) o x work₀ g few)
              (Right p (rows flat ends) (put p false o) (put p (eqb value 1) x)) (Tallied count) work
              (subst (λ (y : List ℕ). Walk p value (rows flat ends) o x y work) (drop_of_length-le on l) (s.so n flat ends o x g)) in
              (record { entries = w.0; tallied = w.1 }, w.2);
        }
