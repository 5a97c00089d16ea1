-- One column of packed rows is cleared: the cells, and the numbers of the untaken columns. Assumes nothing.
use mathlib.Core.Path.{◌≡◌, refl, sym, ap, ap₂, ◌∙◌}
use mathlib.Core.Bool.{Bool, true, false, not, cond, ◌&&◌}
use mathlib.Core.Logic.{◌⊎◌, inl, inr, ⊎_elim}
use mathlib.Core.List.{List}
use Prim.Native.Nat.{ℕ, zero, suc, ◌+◌, ◌-◌, ◌*◌, ◌/◌, ◌%◌, ◌≤◌, ◌<◌}
use native.Mathlib.Nat.{le_refl}
use native.Mathlib.Decide.{ℕ_discrete}
use native.Mathlib.Omega.{arith}
use borrow.Author.Tests.{eq-eqb, ne_eqb, le-leb, lt-leb}
use lib.Dec.{leb}
use lib.ListN.{length, get_or}
use Rattle.lists.specs.Copied.{apart?, Copied}
use Rattle.binary.specs.Bits.{◌⊕◌}
use Rattle.binary.specs.Words.{bit}
use Rattle.packing.specs.Packed.{cell}
use Rattle.packing.proofs.Rows.{apart, other_cells}
use Rattle.columns.specs.Columns.{rows_with}
use Rattle.numbering.specs.Numbering.{Stays, Joined, Added, Merged, NumberedBut, WhereInside}
use Rattle.search.specs.Route.{former}
use Rattle.search.specs.Search.{First, Leaves, Clears}
use Rattle.binary.proofs.Bits.{⊕_false, ⊕_self, never, and_in, or_left, not_out, tally_same, none_counted, below_out}
use Rattle.binary.proofs.WordBits.{order}
use Rattle.binary.proofs.Weights.{tally_change, tally_up}
use Rattle.numbering.proofs.Counting.{row_ends, number_same, inside_in}
use Rattle.numbering.proofs.Numbered.{joined_other, numbered_added, but_added, but_merged, untaken_same}

----------------------------------------------------------------------
-- Rows without the column

pub none_more : (w top i q : ℕ) (m : List ℕ) → ((j : ℕ) → top ≤ j → j < i → cell m w j q ≡ false) → (r : Bool) → r ≡ cell m w i q → r ≡ false
    → (j : ℕ) → top ≤ j → j < i + 1 → cell m w j q ≡ false
none_more w top i q m s r e z j l h =
    ⊎_elim (λ g. s j l g) (λ (g : i ≤ j). let d : j ≡ i = omega arith in rw (d, ← e) z) (order j i)

----------------------------------------------------------------------
-- How many rows have the column

-- Row r is the first of those from j on.
pub one_less_lem : (w j rows q : ℕ) (m : List ℕ) (r : ℕ) → First w j rows q m r → r < rows → rows_with m w j rows q ≡ suc (rows_with m w (r + 1) rows q)
one_less_lem w j rows q m r f h =
    tally_up rows r (λ l. leb (r + 1) l && cell m w l q) (λ l. leb j l && cell m w l q) h (rw (lt-leb (r + 1) r (omega arith)))
    (rw (le-leb j r f.start) (f.found h)) (λ l d. at l (λ e. never (eq-eqb r l (sym e)) d))
  where
    at : (l : ℕ) → (l ≡ r → ⊥) → (leb j l && cell m w l q) ≡ (leb (r + 1) l && cell m w l q)
    at l d = ⊎_elim
        (λ (a : l < j). let s = f.start in rw (lt-leb j l a, lt-leb (r + 1) l (omega arith)))
        (λ (a : j ≤ l). ⊎_elim
        (λ (b : l < r). rw (le-leb j l a, lt-leb (r + 1) l (omega arith)) (f.before l a b))
        (λ (b : r ≤ l). rw (le-leb j l a, le-leb (r + 1) l (omega arith))) (order l r)) (order l j)

-- None is left.
pub none_left : (w j rows q : ℕ) (m : List ℕ) → rows_with m w j rows q ≡ 0 → (l : ℕ) → j ≤ l → l < rows → cell m w l q ≡ false
none_left w j rows q m e l a b =
    rw (le-leb j l a) at (not_out (leb j l && cell m w l q) (below_out rows (λ i. not (leb j i && cell m w i q)) (none_counted rows (λ i. leb j i && cell m w i q) e) l b))

pub none_next : (w j rows q : ℕ) (m : List ℕ) → j < rows → rows_with m w (j + 1) rows q ≡ 0 → First w (j + 1) rows q m rows
none_next w j rows q m h e =
    record { start = omega arith; within = le_refl rows; before = λ l a b. none_left w (j + 1) rows q m e l a b; found = λ l. absurd (omega arith) }

----------------------------------------------------------------------
-- A row added

-- The rows past the one that is added to.
pub rest_same : {weight : ℕ} {down into : ℕ → Bool} (w rows q from to : ℕ) (m m' : List ℕ) → w ≤ 16 → rows ≤ 512 → q < 64 * w → Joined weight down into w from to m m'
    → rows_with m' w (to + 1) rows q ≡ rows_with m w (to + 1) rows q
rest_same w rows q from to m m' wide few h s =
    tally_same rows (λ i. leb (to + 1) i && cell m w i q) (λ i. leb (to + 1) i && cell m' w i q) (λ i l. ⊎_elim
    (λ (a : i < to + 1). rw (lt-leb (to + 1) i a))
    (λ (a : to + 1 ≤ i). ap (λ (b : Bool). leb (to + 1) i && b) (joined_other w from to m m' wide s i q (omega arith) (λ e. omega arith) h)) (order i (to + 1)))

pub made_out : (w from to : ℕ) (m m' : List ℕ) (Change : Type 0) → w ≤ 16 → from < 512 → to < 512 → 10240 ≤ length m → WhereInside w from to m m' Change → Change
made_out w from to m m' Change a b d e s = s.made (inside_in (length m) w from a b e) (inside_in (length m) w to a d e)

----------------------------------------------------------------------
-- A row that is counted no more, added to the later rows

-- Row i is added to each row past row `from` that has column q, up to row n; the rows from n on stay too.
pub record Later (w rows i from n q : ℕ) (m m' : List ℕ) : Type 0 where
  pub long : length m' ≡ length m
  pub added : (j c : ℕ) → from < j → j < n → c < 64 * w → cell m' w j c ≡ cell m w j c ⊕ (cell m w j q && cell m w i c)
  pub kept : (j c : ℕ) → (j ≤ from) ⊎ (n ≤ j) → j < rows → c < 64 * w → cell m' w j c ≡ cell m w j c
  pub stays : Stays m m'
  pub numbered : (top : ℕ) → top ≤ i → NumberedBut w top rows i m → NumberedBut w top rows i m'

module _ (w rows i from q : ℕ) (low : i ≤ from) where
  pub later_none : (m : List ℕ) → Later w rows i from (from + 1) q m m
  later_none m =
      record { long = refl; added = λ j c l h. absurd (omega arith); kept = λ j c s h l. refl; stays = λ k h. refl; numbered = λ top l n. n }

  -- One more row, whose cells are known.
  module _ (j : ℕ) (m₀ m m' : List ℕ) (room : q < 64 * w) (after : from < j) (within : j < rows) (s : Later w rows i from j q m₀ m) where
    later_more : length m' ≡ length m → Stays m m' → ((top : ℕ) → top ≤ i → NumberedBut w top rows i m → NumberedBut w top rows i m')
        → ((c : ℕ) → c < 64 * w → cell m' w j c ≡ cell m w j c ⊕ (cell m w j q && cell m w i c))
        → ((l c : ℕ) → l < rows → (l ≡ j → ⊥) → c < 64 * w → cell m' w l c ≡ cell m w l c) → Later w rows i from (j + 1) q m₀ m'
    later_more long stays numbered here other =
        record {
          long = long ∙ s.long;
          added = λ l c a b h. ⊎_elim
              (λ (g : l < j). other l c (omega arith) (λ e. omega arith) h ∙ s.added l c a g h)
              (λ (g : j ≤ l). let e : l ≡ j = omega arith in
              rw e (here c h ∙ ap₂ ◌⊕◌ (old c h) (ap₂ ◌&&◌ (old q room) (s.kept i c (inl low) (omega arith) h))))
              (order l j);
          kept = λ l c b r h.
              other l c r (λ e. ⊎_elim (λ (p : l ≤ from). omega arith) (λ (p : j + 1 ≤ l). omega arith) b) h
              ∙ s.kept l c (⊎_elim (λ p. inl p) (λ (p : j + 1 ≤ l). inr (omega arith)) b) r h;
          stays = λ k h. stays k h ∙ s.stays k h;
          numbered = λ top l n. numbered top l (s.numbered top l n);
        }
      where
        old : (c : ℕ) → c < 64 * w → cell m w j c ≡ cell m₀ w j c
        old c h = s.kept j c (inr (le_refl j)) within h

  later_skipped : (j : ℕ) (m₀ m : List ℕ) → q < 64 * w → from < j → j < rows → Later w rows i from j q m₀ m → cell m w j q ≡ false → Later w rows i from (j + 1) q m₀ m
  later_skipped j m₀ m room after within s z =
      later_more j m₀ m m room after within s refl (λ k h. refl) (λ top l n. n) (λ c h. rw z (sym (⊕_false (cell m w j c)))) (λ l c r n h. refl)

  -- Rows without the column are passed over.
  later_passed : (j d : ℕ) (m₀ m : List ℕ) → q < 64 * w → from < j → j + d ≤ rows → Later w rows i from j q m₀ m
      → ((l : ℕ) → j ≤ l → l < j + d → cell m w l q ≡ false) → Later w rows i from (j + d) q m₀ m
  later_passed j zero m₀ m room after within s f = let e : j + 0 ≡ j = omega arith in rw e s
  later_passed j (suc d) m₀ m room after within s f =
      let e : j + 1 + d ≡ j + suc d = omega arith in
      rw (← e) (later_passed (j + 1) d m₀ m room (omega arith) (omega arith) (later_skipped j m₀ m room after (omega arith) s (f j (omega arith) (omega arith)))
      (λ l a b. f l (omega arith) (omega arith)))

  -- Up to the next row with the column.
  pub later_to : (j : ℕ) (m₀ m : List ℕ) (r : ℕ) → q < 64 * w → from < j → Later w rows i from j q m₀ m → First w j rows q m r → Later w rows i from r q m₀ m
  later_to j m₀ m r room after s f =
      let g = f.start in
      let h = f.within in
      let e : j + (r - j) ≡ r = omega arith in
      rw (← e) (later_passed j (r - j) m₀ m room after (omega arith) s (λ l a b. f.before l a (omega arith)))

  -- Row r, the next one.
  pub later_added : (j : ℕ) (m₀ m m' : List ℕ) (r : ℕ) → q < 64 * w → from < j → w ≤ 16 → rows ≤ 512 → Later w rows i from j q m₀ m
      → First w j rows q m r → r < rows → Added w i r m m' → Later w rows i from (r + 1) q m₀ m'
  later_added j m₀ m m' r room after wide few s f h a =
      let past = f.start in
      later_more r m₀ m m' room (omega arith) h (later_to j m₀ m r room after s f) a.long a.stays
      (λ top l. but_added w top rows i r m m' wide few (omega arith) h l (omega arith) (λ e. omega arith) a)
      (λ c b. rw (f.found h) (a.cells c b)) (λ l c b. joined_other w i r m m' wide a l c (omega arith))

----------------------------------------------------------------------
-- A row leaves

-- Row r is the first later row with the column.
module _ (w rows i q : ℕ) (m m₁ : List ℕ) (room : q < 64 * w) (wide : w ≤ 16) (few : rows ≤ 512) (within : i < rows) (r : ℕ) (f : First w (i + 1) rows q m r) where
  -- There is none: row i is added to itself.
  pub leaves_alone : r ≡ rows → Added w i i m m₁ → Leaves w rows i q m m₁
  leaves_alone e a =
      record {
        long = a.long;
        added = λ j c l h b. other j c h (λ d. omega arith) b ∙ rw (f.before j (omega arith) (omega arith)) (sym (⊕_false (cell m w j c)));
        kept = λ j c l h b. other j c h (λ d. omega arith) b;
        stays = a.stays;
        numbered = λ top l n c h u. let z = numbered_added w top rows i i m m₁ wide few l within a n c h u in
            rw (a.cells c h ∙ ⊕_self (cell m w i c)) (omega (arith, z));
      }
    where
      other : (j c : ℕ) → j < rows → (j ≡ i → ⊥) → c < 64 * w → cell m₁ w j c ≡ cell m w j c
      other j c h = joined_other w i i m m₁ wide a j c (omega arith)

  -- It counts row i out, and the rows past it follow.
  pub leaves_merged : (m₂ : List ℕ) → r < rows → Merged w i r m m₁ → Later w rows i r rows q m₁ m₂ → Leaves w rows i q m m₂
  leaves_merged m₂ h a s =
      let past = f.start in
      record {
        long = s.long ∙ a.long;
        added = λ j c l b g. at j c l b g (ℕ_discrete j r);
        kept = λ j c l b g. s.kept j c (inl (omega arith)) b g ∙ other j c b (λ e. omega arith) g;
        stays = λ k l. s.stays k l ∙ a.stays k l;
        numbered = λ top l n. s.numbered top l (but_merged w top rows i r m m₁ wide few (omega arith) h l within (λ e. omega arith) a n);
      }
    where
      other : (j c : ℕ) → j < rows → (j ≡ r → ⊥) → c < 64 * w → cell m₁ w j c ≡ cell m w j c
      other j c b = joined_other w i r m m₁ wide a j c (omega arith)

      at : (j c : ℕ) → i < j → j < rows → c < 64 * w → Dec (j ≡ r) → cell m₂ w j c ≡ cell m w j c ⊕ (cell m w j q && cell m w i c)
      at j c l b g (yes e) = rw (e, f.found h) (s.kept r c (inl (le_refl r)) h g ∙ a.cells c g)
      at j c l b g (no e) =
          let past = f.start in
          ⊎_elim
          (λ (d : j < r). s.kept j c (inl (omega arith)) b g ∙ other j c b e g ∙ rw (f.before j (omega arith) d) (sym (⊕_false (cell m w j c))))
          (λ (d : r ≤ j). s.added j c (omega arith) b g ∙ ap₂ ◌⊕◌ (other j c b e g) (ap₂ ◌&&◌ (other j q b e room) (other i c within (λ x. omega arith) g)))
          (order j r)

----------------------------------------------------------------------
-- The column cleared

pub clears_none : (w top rows q i : ℕ) (m : List ℕ) → First w top rows q m i → i ≡ rows → Clears w top rows q m m false
clears_none w top rows q i m f e =
    record {
      long = refl;
      stays = λ k h. refl;
      cleared = λ t. never t refl;
      numbered = λ t. never t refl;
      same = λ _. refl;
      blank = λ _ j l h. f.before j l (omega arith);
    }

-- Without row top.
module _ (w top rows : ℕ) (m : List ℕ) (within : top < rows) (c : ℕ) where
  past_top : rows_with m w (top + 1) rows c + cond (cell m w top c) 1 0 ≡ rows_with m w top rows c
  past_top =
      let z = tally_change rows top (λ j. leb top j && cell m w j c) (λ j. leb (top + 1) j && cell m w j c) within (λ j d l. ap (◌&& cell m w j c) (later j d)) in
      let y = rw (le-leb top top (le_refl top), lt-leb (top + 1) top (omega arith)) at z in
      omega (arith, y)
    where
      later : (j : ℕ) → (j ≡ top → ⊥) → leb (top + 1) j ≡ leb top j
      later j d = ⊎_elim (λ (l : j < top). lt-leb (top + 1) j (omega arith) ∙ sym (lt-leb top j l))
          (λ (l : top ≤ j). le-leb (top + 1) j (omega arith) ∙ sym (le-leb top j l)) (order j top)

module _ (w top rows q i : ℕ) (m m₁ : List ℕ) (wide : w ≤ 16) (few : rows ≤ 512) (f : First w top rows q m i) (within : i < rows) (s : Leaves w rows i q m m₁) where
  -- A row before row i does not have the column.
  before : (j c : ℕ) → top ≤ j → j < i → cell m w j c ≡ cell m w j c ⊕ (cell m w j q && cell m w i c)
  before j c l h = rw (f.before j l h) (sym (⊕_false (cell m w j c)))

  stays : (j c : ℕ) → top ≤ j → j < rows → (j ≡ i → ⊥) → c < 64 * w → cell m₁ w j c ≡ cell m w j c ⊕ (cell m w j q && cell m w i c)
  stays j c l b n h =
      ⊎_elim (λ (g : j < i). s.kept j c g b h ∙ before j c l g) (λ (g : i ≤ j). s.added j c (omega arith) b h) (order j i)

  pub clears_top : i ≡ top → Clears w top rows q m m₁ true
  clears_top d =
      record {
        long = s.long;
        stays = s.stays;
        cleared = λ _. (
          i,
          record {
            start = f.start;
            within = within;
            before = f.before;
            found = f.found within;
            cells = λ j c l b h. rw (ne_eqb j i (λ g. omega arith)) (stays j c (omega arith) b (λ g. omega arith) h);
          },
        );
        numbered = λ _ n c h u. let z = s.numbered top f.start n c h u in
            let y = past_top w top rows m₁ (omega arith) c in
            omega (arith, rw d at z, y);
        same = λ t. never refl t;
        blank = λ t. never refl t;
      }

  module _ (m₃ : List ℕ) (n : i ≡ top → ⊥) (long : 10240 ≤ length m) (r : Copied (top * w) (i * w) w m₁ m₃) where
    below : top < i
    below = omega (arith, f.start)

    apart_rows : apart? (length m₁) (top * w) (i * w) w ≡ true
    unfolding apart?
    apart_rows =
        let a = apart w top i below in
        let b = row_ends w i wide (omega arith) in
        let d = s.long in
        and_in (and_in (le-leb (top * w + w) (length m₁) (omega (arith, a, b, d))) (le-leb (i * w + w) (length m₁) (omega (arith, b, d)))) (or_left _ (le-leb (top * w + w) (i * w) a))

    moved : (c : ℕ) → c < 64 * w → cell m₃ w i c ≡ cell m₁ w top c
    unfolding cell
    moved c h = ap (λ (x : ℕ). bit x (c % 64)) (r.copied apart_rows (c / 64) (omega arith))

    other : (j c : ℕ) → (j ≡ i → ⊥) → c < 64 * w → cell m₃ w j c ≡ cell m₁ w j c
    other = other_cells w i m₁ m₃ (r.stays apart_rows)

    past : (k : ℕ) → 8192 ≤ k → get_or m₃ k 0 ≡ get_or m₁ k 0
    past k h = r.stays apart_rows k (inr (omega (arith, row_ends w i wide (omega arith))))

    -- Row top stands at place i: as many rows have a column but for row i.
    as_many : (c : ℕ) → c < 64 * w → rows_with m₃ w (top + 1) rows c + cond (cell m₁ w i c) 1 0 ≡ rows_with m₁ w top rows c
    as_many c h =
        let a = tally_change rows i (λ j. leb top j && cell m₁ w j c) (λ j. leb top j && cell m₃ w j c) within (λ j d l. ap (λ (b : Bool). leb top j && b) (other j c d h)) in
        let b = rw (le-leb top i f.start, moved c h) at a in
        let d = rw (other top c (λ e. n (sym e)) h) at (past_top w top rows m₃ (omega arith) c) in
        omega (arith, b, d)

    pub clears_moved : Clears w top rows q m m₃ true
    clears_moved =
        record {
          long = r.long ∙ s.long;
          stays = λ k h. past k (omega arith) ∙ s.stays k h;
          cleared = λ _. (
            i,
            record {
              start = f.start;
              within = within;
              before = f.before;
              found = f.found within;
              cells = λ j c l b h. cells j c l b h (ℕ_discrete j i);
            },
          );
          numbered = λ _ x c h u. let a = number_same m₁ m₃ c (λ p l. past (8192 + 16 * (c / 64) + p) (omega arith)) in
              let b = s.numbered top f.start x c h (sym (untaken_same m₁ m₃ (λ k l. past k (omega arith)) c) ∙ u) in
              let d = as_many c h in
              omega (arith, a, b, d);
          same = λ t. never refl t;
          blank = λ t. never refl t;
        }
      where
        cells : (j c : ℕ) → top < j → j < rows → c < 64 * w → Dec (j ≡ i)
            → cell m₃ w j c ≡ cell m w (former top i j) c ⊕ (cell m w (former top i j) q && cell m w i c)
        cells j c l b h (yes d) = rw (eq-eqb j i d, d) (moved c h ∙ stays top c (le_refl top) (omega arith) (λ x. n (sym x)) h)
        cells j c l b h (no d) = rw (ne_eqb j i d) (other j c d h ∙ stays j c (omega arith) b d h)
