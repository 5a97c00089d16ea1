-- With each row the list has the rows on each qubit. Assumes nothing.
--   noted_below  the ends of the rows stay
--   listed_next  one row more
--   listed_kept  where the elements of the qubits stay, so do the rows on them
use mathlib.Core.Path.{◌≡◌, refl, sym, ap, ◌∙◌, subst}
use mathlib.Core.Bool.{Bool, true, false, ◌||◌, cond}
use mathlib.Core.Logic.{◌⊎◌, inl, inr, ⊎_elim}
use mathlib.Core.List.{List, [], ◌∷◌, ◌++◌}
use Prim.Native.Nat.{ℕ, zero, suc, ◌+◌, ◌≤◌, ◌<◌}
use native.Mathlib.Nat.{eq-or-lt_of_le, le_of_suc-le-suc}
use native.Mathlib.Numerals.{add-one}
use native.Mathlib.Omega.{arith}
use borrow.Author.Tests.{eq-eqb, ne_eqb, eqb-true, ltb-true}
use lib.Dec.{eqb, leb, ltb}
use lib.ListN.{length, get_or, set, take, drop, length-set, length-drop, length-append, get_or-append}
use lib.Seq.{get_or-set_same, get_or-set_other, get_or-take, get_or-drop, ext_get_or, length-take-le, drop-set-lt, drop-set-add, take-suc-set, get_or-append_seam}
use Rattle.binary.specs.Meaning.{Row, has}
use Rattle.binary.proofs.Bits.{bit, never, or_false, or_right}
use Rattle.binary.proofs.WordBits.{order}
use Rattle.code.specs.Tests.{Ascending, Distinct}
use Rattle.code.proofs.Order.{ascending_distinct}
use Rattle.incidence.specs.Incidence.{slot, number_on, rows_on, note_on, note_all, emptied, noted, ListedOn, Listed}
use Rattle.incidence.proofs.Noting.{note_long, all_long, emptied_long, note_place, note_full}

----------------------------------------------------------------------
-- Elements of other qubits stay

part_long : (l : List ℕ) (a c : ℕ) → a + c ≤ length l → length (take c (drop a l)) ≡ c
part_long l a c h = length-take-le c (drop a l) (omega (arith, length-drop a l))

-- A part whose elements stay.
part_same : (l l' : List ℕ) (a c : ℕ) → length l' ≡ length l → a + c ≤ length l → ((k : ℕ) → a ≤ k → k < a + c → get_or l' k 0 ≡ get_or l k 0)
    → take c (drop a l') ≡ take c (drop a l)
part_same l l' a c long within same =
    ext_get_or 0 (take c (drop a l')) (take c (drop a l)) (part_long l' a c (omega arith) ∙ sym (part_long l a c within))
    (λ i h. let m : i < c = omega (arith, part_long l' a c (omega arith)) in
    get_or-take c (drop a l') i 0 m ∙ get_or-drop a l' i 0 ∙ same (a + i) (omega arith) (omega arith)
    ∙ sym (get_or-take c (drop a l) i 0 m ∙ get_or-drop a l i 0))

module _ (i : ℕ) (l : List ℕ) (p : ℕ) where
  note_other : (k : ℕ) → (k < slot p) ⊎ (slot p + 15 ≤ k) → get_or (note_on i l p) k 0 ≡ get_or l k 0
  unfolding note_on
  note_other k o =
      bit (leb (slot p + 15) (length l))
      (λ t. rw t (bit (ltb (number_on l p) 14)
      (λ u. rw u (get_or-set_other (set l (slot p + 1 + number_on l p) i) (slot p) k (number_on l p + 1) 0 (λ e. apart e)
      ∙ get_or-set_other l (slot p + 1 + number_on l p) k i 0 (λ e. ⊎_elim (λ (h : k < slot p). omega arith) (λ (h : slot p + 15 ≤ k). omega (arith, ltb-true (number_on l p) 14 u)) o)))
      (λ u. rw u (get_or-set_other l (slot p) k 15 0 (λ e. apart e)))))
      (λ t. rw t)
    where
      apart : k ≡ slot p → ⊥
      apart e = ⊎_elim (λ (h : k < slot p). omega arith) (λ (h : slot p + 15 ≤ k). omega arith) o

-- The rows on a qubit whose elements stay.
module _ (l l' : List ℕ) (q : ℕ) (long : length l' ≡ length l) (within : slot q + 15 ≤ length l)
    (same : (k : ℕ) → slot q ≤ k → k < slot q + 15 → get_or l' k 0 ≡ get_or l k 0) where
  number_same : number_on l' q ≡ number_on l q
  number_same = same (slot q) (omega arith) (omega arith)

  rows_same : number_on l q ≤ 14 → rows_on l' q ≡ rows_on l q
  unfolding rows_on
  rows_same few =
      ap (λ (c : ℕ). take c (drop (slot q + 1) l')) number_same
      ∙ part_same l l' (slot q + 1) (number_on l q) long (omega arith) (λ k h m. same k (omega arith) (omega arith))

----------------------------------------------------------------------
-- One row more on a qubit

module _ (i : ℕ) (l : List ℕ) (q : ℕ) (within : slot q + 15 ≤ length l) where
  number_full : 14 ≤ number_on l q → number_on (note_on i l q) q ≡ 15
  number_full h = ap (λ (m : List ℕ). number_on m q) (sym (note_full i l q within (number_on l q) refl h)) ∙ get_or-set_same l (slot q) 15 0 (omega arith)

  module _ (few : number_on l q < 14) where
    abbrev mid : List ℕ
    mid = set l (slot q + 1 + number_on l q) i

    number_more : number_on (note_on i l q) q ≡ number_on l q + 1
    number_more =
        ap (λ (m : List ℕ). number_on m q) (sym (note_place i l q within (number_on l q) refl few))
        ∙ get_or-set_same mid (slot q) (number_on l q + 1) 0 (omega (arith, length-set l (slot q + 1 + number_on l q) i))

    rows_more : rows_on (note_on i l q) q ≡ rows_on l q ++ (i ∷ [])
    unfolding rows_on
    rows_more =
        ap (λ (c : ℕ). take c (drop (slot q + 1) (note_on i l q))) (number_more ∙ add-one (number_on l q))
        ∙ ap (λ (m : List ℕ). take (suc (number_on l q)) (drop (slot q + 1) m)) (sym (note_place i l q within (number_on l q) refl few))
        ∙ ap (take (suc (number_on l q))) (drop-set-lt (slot q + 1) mid (slot q) (number_on l q + 1) (omega arith) ∙ drop-set-add (slot q + 1) l (number_on l q) i)
        ∙ take-suc-set (drop (slot q + 1) l) (number_on l q) i (omega (arith, length-drop (slot q + 1) l))

----------------------------------------------------------------------
-- One row more

-- Two qubits have no element in common.
slots_apart : (p q k : ℕ) → (p ≡ q → ⊥) → slot q ≤ k → k < slot q + 15 → (k < slot p) ⊎ (slot p + 15 ≤ k)
slots_apart p q k d h m = ⊎_elim (λ (o : p < q). inr (omega arith)) (λ (o : q ≤ p). inl (omega (arith, other o))) (order p q)
  where
    other : q ≤ p → q < p
    other o = ⊎_elim (λ (e : q ≡ p). absurd (d (sym e))) (λ (s : q < p). s) (eq-or-lt_of_le o)

-- Elements below those of the qubits stay.
all_below : (i : ℕ) (row : Row) (l : List ℕ) (k : ℕ) → k < 1024 → get_or (note_all i row l) k 0 ≡ get_or l k 0
unfolding note_all
all_below i [] l k h = refl
all_below i (p ∷ row) l k h = all_below i row (note_on i l p) k h ∙ note_other i l p k (inl (omega arith))

-- A qubit that the row does not have.
all_same : (i : ℕ) (row : Row) (l : List ℕ) (q : ℕ) → has row q ≡ false → (k : ℕ) → slot q ≤ k → k < slot q + 15 → get_or (note_all i row l) k 0 ≡ get_or l k 0
unfolding note_all
all_same i [] l q f k h m = refl
all_same i (p ∷ row) l q f k h m =
    let o = or_false (eqb p q) (has row q) f in
    all_same i row (note_on i l p) q o.1 k h m ∙ note_other i l p k (slots_apart p q k (λ e. never (eq-eqb p q e) o.0) h m)

-- What the list has of a qubit that the row has: the row is the last, or the qubit is full.
abbrev More : ℕ → List ℕ → List ℕ → ℕ → Type 0
More i l l' q = (number_on l' q ≤ 14 → (number_on l q ≤ 14) × (rows_on l' q ≡ rows_on l q ++ (i ∷ [])))

more_on : (i : ℕ) (l : List ℕ) (q : ℕ) → slot q + 15 ≤ length l → More i l (note_on i l q) q
more_on i l q within h =
    ⊎_elim (λ (few : number_on l q < 14). (omega arith, rows_more i l q within few))
    (λ (many : 14 ≤ number_on l q). absurd (omega (arith, number_full i l q within many)))
    (order (number_on l q) 14)

-- A row of which the first qubit is noted.
module _ (i p : ℕ) (row : Row) (l : List ℕ) (q : ℕ) (within : slot q + 15 ≤ length l) where
  abbrev next : List ℕ
  next = note_on i l p

  next_within : slot q + 15 ≤ length next
  next_within = omega (arith, note_long i l p)

  more_there : eqb p q ≡ false → More i next (note_all i row next) q → More i l (note_all i row next) q
  more_there u more h =
      let same : (k : ℕ) → slot q ≤ k → k < slot q + 15 → get_or next k 0 ≡ get_or l k 0 = λ k a b. note_other i l p k (slots_apart p q k (λ e. never (eq-eqb p q e) u) a b) in
      let rest = more h in
      let number = number_same l next q (note_long i l p) within same in
      (omega (arith, rest.0, number), rest.1 ∙ ap (λ (rows : List ℕ). rows ++ (i ∷ [])) (rows_same l next q (note_long i l p) within same (omega (arith, rest.0, number))))

  more_here : p ≡ q → has row p ≡ false → More i l (note_all i row next) q
  more_here e f h =
      let same = all_same i row next q (subst (λ (x : ℕ). has row x ≡ false) e f) in
      let number = number_same next (note_all i row next) q (all_long i row next) next_within same in
      let one = subst (λ (x : ℕ). More i l (note_on i l x) q) (sym e) (more_on i l q within) (omega (arith, h, number)) in
      (one.0, rows_same next (note_all i row next) q (all_long i row next) next_within same (omega (arith, h, number)) ∙ one.1)

all_more : (i : ℕ) (row : Row) (l : List ℕ) (q : ℕ) → slot q + 15 ≤ length l → Distinct row → has row q ≡ true → More i l (note_all i row l) q
unfolding note_all
all_more i [] l q within d t = never t refl
all_more i (p ∷ row) l q within d t =
    bit (eqb p q) (λ u. more_here i p row l q within (eqb-true p q u) d.0)
    (λ u. more_there i p row l q within u (all_more i row (note_on i l p) q (next_within i p row l q within) d.1 (rw u at t)))

----------------------------------------------------------------------
-- The first row finds none

emptied_below : (n : ℕ) (l : List ℕ) (k : ℕ) → k < 1024 → get_or (emptied n l) k 0 ≡ get_or l k 0
unfolding emptied
emptied_below zero l k h = refl
emptied_below (suc n) l k h = get_or-set_other (emptied n l) (slot n) k 0 0 (λ e. omega arith) ∙ emptied_below n l k h

emptied_none : (n : ℕ) (l : List ℕ) (q : ℕ) → q < n → slot q < length l → number_on (emptied n l) q ≡ 0
unfolding emptied
emptied_none zero l q h m = absurd (omega arith)
emptied_none (suc n) l q h m =
    ⊎_elim (λ (e : q ≡ n). rw e (get_or-set_same (emptied n l) (slot n) 0 0 (omega (arith, emptied_long n l))))
    (λ (less : q < n). get_or-set_other (emptied n l) (slot n) (slot q) 0 0 (λ e. omega arith) ∙ emptied_none n l q less m)
    (eq-or-lt_of_le (le_of_suc-le-suc h))

-- The ends of the rows stay.
pub noted_below : (n i : ℕ) (row : Row) (l : List ℕ) (k : ℕ) → k < 1024 → get_or (noted n i row l) k 0 ≡ get_or l k 0
unfolding noted
noted_below n i row l k h =
    all_below i row (cond (eqb i 0) (emptied n l) l) k h ∙ bit (eqb i 0) (λ t. rw t (emptied_below n l k h)) (λ t. rw t)

----------------------------------------------------------------------
-- Rows with one more

has_last : (xs : List ℕ) (i r : ℕ) → has (xs ++ (i ∷ [])) r ≡ (has xs r || eqb i r)
has_last [] i r = bit (eqb i r) (λ t. rw t) (λ t. rw t)
has_last (x ∷ xs) i r = bit (eqb x r) (λ t. rw t) (λ t. rw t (has_last xs i r))

distinct_last : (xs : List ℕ) (i : ℕ) → Distinct xs → has xs i ≡ false → Distinct (xs ++ (i ∷ []))
distinct_last [] i d f = (refl, tt)
distinct_last (x ∷ xs) i d f =
    let o = or_false (eqb x i) (has xs i) f in
    (has_last xs i x ∙ rw (d.0, ne_eqb i x (λ e. never (eq-eqb x i (sym e)) o.0)), distinct_last xs i d.1 o.1)

module _ (rows : List Row) (row : Row) (l l' : List ℕ) (q : ℕ) (v : ListedOn rows l q) where
  total : length (rows ++ (row ∷ [])) ≡ length rows + 1
  total = length-append rows (row ∷ [])

  -- A row is one of those before, or the last.
  split : (P : ℕ → Type 0) → ((r : ℕ) → r < length rows → P r) → P (length rows) → (r : ℕ) → r < length (rows ++ (row ∷ [])) → P r
  split P before last r h =
      ⊎_elim (λ (less : r < length rows). before r less) (λ (more : length rows ≤ r). let e : length rows ≡ r = omega (arith, total) in subst P e last) (order r (length rows))

  still_listed : has row q ≡ false → rows_on l' q ≡ rows_on l q → ListedOn (rows ++ (row ∷ [])) l' q
  still_listed f e =
      record {
        once = subst Distinct (sym e) v.once;
        are = split (λ r. has (rows_on l' q) r ≡ has (get_or (rows ++ (row ∷ [])) r []) q)
            (λ r h. rw (e, get_or-append rows (row ∷ []) [] r h) (v.are r h))
            (rw (e, get_or-append_seam rows row [] [], f) (v.no_other (length rows) (omega arith)));
        no_other = λ r h. rw e (v.no_other r (omega (arith, total)));
      }

  newly_listed : has row q ≡ true → rows_on l' q ≡ rows_on l q ++ (length rows ∷ []) → ListedOn (rows ++ (row ∷ [])) l' q
  newly_listed t e =
      record {
        once = subst Distinct (sym e) (distinct_last (rows_on l q) (length rows) v.once (v.no_other (length rows) (omega arith)));
        are = split (λ r. has (rows_on l' q) r ≡ has (get_or (rows ++ (row ∷ [])) r []) q)
            (λ r h. with_last r ∙ rw (ne_eqb (length rows) r (λ (z : length rows ≡ r). omega arith), get_or-append rows (row ∷ []) [] r h) (or_none (has (rows_on l q) r) ∙ v.are r h))
            (with_last (length rows) ∙ rw (eq-eqb (length rows) (length rows) refl, get_or-append_seam rows row [] [], t) (or_right (has (rows_on l q) (length rows)) refl));
        no_other = λ r h. with_last r ∙ rw (v.no_other r (omega (arith, total)), ne_eqb (length rows) r (λ (z : length rows ≡ r). omega (arith, total)));
      }
    where
      with_last : (r : ℕ) → has (rows_on l' q) r ≡ (has (rows_on l q) r || eqb (length rows) r)
      with_last r = rw e (has_last (rows_on l q) (length rows) r)

      or_none : (b : Bool) → (b || false) ≡ b
      or_none true = refl
      or_none false = refl

----------------------------------------------------------------------
-- The law

none_listed : (l : List ℕ) (q : ℕ) → number_on l q ≡ 0 → ListedOn [] l q
unfolding rows_on
none_listed l q e = record {
  once = rw e tt;
  are = λ r h. absurd (omega arith);
  no_other = λ r h. rw e;
}

-- The list that a row finds.
abbrev found : ℕ → ℕ → List ℕ → List ℕ
found n i l = cond (eqb i 0) (emptied n l) l

found_long : (n i : ℕ) (l : List ℕ) → length (found n i l) ≡ length l
found_long n i l = bit (eqb i 0) (λ t. rw t (emptied_long n l)) (λ t. rw t)

found_listed : (n : ℕ) (rows : List Row) (i : ℕ) (l : List ℕ) → n ≤ 1024 → 16384 ≤ length l → i ≡ length rows → Listed n rows l
    → (q : ℕ) → q < n → number_on (found n i l) q ≤ 14 → ListedOn rows (found n i l) q
found_listed n [] i l small long e v q h few = rw (eq-eqb i 0 e) (none_listed (emptied n l) q (emptied_none n l q h (omega arith)))
found_listed n (r ∷ rows) i l small long e v q h few =
    let later : eqb i 0 ≡ false = ne_eqb i 0 (λ z. omega arith) in rw later (v (omega arith) q h (rw later at few))

pub listed_next : (n : ℕ) (rows : List Row) (row : Row) (i : ℕ) (l : List ℕ) → n ≤ 1024 → 16384 ≤ length l → i ≡ length rows → Ascending n row → Listed n rows l
    → Listed n (rows ++ (row ∷ [])) (noted n i row l)
unfolding noted
listed_next n rows row i l small long e asc v some q h few = bit (has row q) new old
  where
    m : List ℕ
    m = found n i l

    within : slot q + 15 ≤ length m
    within = omega (arith, found_long n i l)

    new : has row q ≡ true → ListedOn (rows ++ (row ∷ [])) (note_all i row m) q
    new t =
        let more = all_more i row m q within (ascending_distinct n row asc) t few in
        newly_listed rows row m (note_all i row m) q (found_listed n rows i l small long e v q h more.0) t
        (more.1 ∙ ap (λ (k : ℕ). rows_on m q ++ (k ∷ [])) e)

    old : has row q ≡ false → ListedOn (rows ++ (row ∷ [])) (note_all i row m) q
    old f =
        let same = all_same i row m q f in
        let number = number_same m (note_all i row m) q (all_long i row m) within same in
        let little : number_on m q ≤ 14 = omega (arith, few, number) in
        still_listed rows row m (note_all i row m) q (found_listed n rows i l small long e v q h little) f (rows_same m (note_all i row m) q (all_long i row m) within same little)

-- Where the elements of the qubits stay, so do the rows on them.
pub listed_kept : (n : ℕ) (rows : List Row) (l l' : List ℕ) → n ≤ 1024 → 16384 ≤ length l → length l' ≡ length l → ((k : ℕ) → 1024 ≤ k → get_or l' k 0 ≡ get_or l k 0)
    → Listed n rows l → Listed n rows l'
listed_kept n rows l l' small long same-long same v some q h few =
    let part : (k : ℕ) → slot q ≤ k → k < slot q + 15 → get_or l' k 0 ≡ get_or l k 0 = λ k a b. same k (omega arith) in
    let little : number_on l q ≤ 14 = omega (arith, few, number_same l l' q same-long (omega arith) part) in
    let e = rows_same l l' q same-long (omega arith) part little in
    let w = v some q h little in
    record { once = subst Distinct (sym e) w.once; are = λ r m. rw e (w.are r m); no_other = λ r m. rw e (w.no_other r m) }
