-- The columns that are not lost, the shortest first: the stand of the search follows the route. Assumes nothing.
use mathlib.Core.Path.{◌≡◌, refl, sym, ap, ◌∙◌, subst, fun_ext}
use mathlib.Core.Bool.{Bool, true, false, not, ◌&&◌}
use mathlib.Core.Logic.{inl, inr, ⊎_elim}
use mathlib.Core.List.{List}
use mathlib.Core.Option.{Option, none, some}
use Prim.Native.Nat.{ℕ, zero, suc, ◌+◌, ◌-◌, ◌*◌, ◌/◌, ◌≤◌, ◌<◌}
use native.Mathlib.Numerals.{add-one}
use native.Mathlib.Omega.{arith}
use borrow.Author.Tests.{le-leb, lt-ltb, le-ltb}
use lib.Dec.{eqb, leb, ltb}
use lib.ListN.{length}
use Rattle.binary.specs.Meaning.{Qubits}
use Rattle.packing.specs.Packed.{cell}
use Rattle.columns.specs.Planes.{number}
use Rattle.columns.specs.Columns.{untaken, rows_with, Numbered}
use Rattle.std.specs.Prelude
use Rattle.choosing.specs.declared.Shortest.{Shortest}
use Rattle.choosing.specs.Choosing.{ShortestOf, room?}
use Rattle.choosing.specs.Choosing as choosing
use Rattle.search.specs.Route.{Stand, column_length, without, take_by, take_column, shortest, step_by, step, steps, Same}
use Rattle.search.specs.Search.{Takes, row_of, stand_of, Sound, Knowns}
use Rattle.binary.proofs.Bits.{bit, &&_true, and_in, and_out, tally_same}
use Rattle.binary.proofs.WordBits.{order}
use Rattle.numbering.proofs.Counting.{row_ends}
use Rattle.numbering.proofs.Numbered.{cell_same}
use Rattle.search.proofs.Rows.{none_left}
use Rattle.search.proofs.Choices.{first_none, shortest_none, shortest_some}
use Rattle.search.proofs.Stands.{numbered_less, untaken_word, columns_same, row_none, row_left, row_same, stand_eq, same_eq, same_trans, take_same, take_untaken, takes_stand}

pub not_found : {w : ℕ} {m m' : List ℕ} {r : Prelude.Option Shortest} → choosing.TakesFound w m m' r → r ≡ Prelude.None → choosing.Takes w m m' (record { column = 0; rows = 1024 })
not_found {w} {m} {m'} t e = subst (λ (x : Prelude.Option Shortest). choosing.TakesFound w m m' x) e t

----------------------------------------------------------------------
-- The shortest column is taken

module _ (n w rows top : ℕ) (m₀ m : List ℕ) (found : Shortest) (wide : n ≤ 64 * w) (few : w ≤ 16) (enough : rows ≤ 512) (within : top ≤ rows)
    (room : 10240 ≤ length m₀) (sound : Sound n w rows top m₀) (t : choosing.Takes w m₀ m found) where
  roomy : room? (length m₀) w ≡ true
  unfolding room?
  roomy = and_in (le-leb w 16 few) (le-leb 10240 (length m₀) room)

  so : ShortestOf w m₀ found.column found.rows
  so = t.shortest roomy

  -- The length of a column, by the work list.
  length_is : (q : ℕ) → q < n → column_length rows (stand_of n w rows top m₀) q ≡ rows_with m₀ w top rows q
  length_is q h =
      tally_same rows (λ i. leb top i && cell m₀ w i q) (λ i. row_of n w rows top m₀ i q)
      (λ i l. rw (lt-ltb i rows l, lt-ltb q n h) (ap (◌&& cell m₀ w i q) (&&_true (leb top i) refl)))

  length_number : (q : ℕ) → q < n → untaken m₀ q ≡ true → column_length rows (stand_of n w rows top m₀) q ≡ number m₀ q
  length_number q h u = length_is q h ∙ sym (sound.1 q (omega arith) u)

  is_untaken : (q : ℕ) → (ltb q n && untaken m₀ q) ≡ true → untaken m₀ q ≡ true
  is_untaken q e = (and_out (ltb q n) (untaken m₀ q) e).1

  -- No column is untaken.
  pub none_taken : found.rows ≡ 1024 → step n rows (stand_of n w rows top m₀) ≡ stand_of n w rows top m₀
  none_taken e =
      ap (λ (r : Option ℕ). step_by rows r (stand_of n w rows top m₀)) (shortest_none (column_length rows (stand_of n w rows top m₀)) (λ q. ltb q n && untaken m₀ q) n
      (λ p l. bit (ltb p n && untaken m₀ p) (λ d. absurd (omega (arith, (so.least p (omega arith) (is_untaken p d)).0))) (λ d. d)))

  module _ (some_left : found.rows < 1024) where
    got : (found.column < 64 * w) × (untaken m₀ found.column ≡ true) × (number m₀ found.column ≡ found.rows)
    got = so.found some_left

    pub column_in : found.column < n
    column_in = sound.0 found.column got.0 got.1

    shortest_taken : step n rows (stand_of n w rows top m₀) ≡ take_column rows found.column (stand_of n w rows top m₀)
    shortest_taken =
        let e = length_number found.column column_in got.1 ∙ got.2 in
        ap (λ (r : Option ℕ). step_by rows r (stand_of n w rows top m₀)) (shortest_some (column_length rows (stand_of n w rows top m₀)) (λ q. ltb q n && untaken m₀ q) n found.column column_in
        (and_in (lt-ltb found.column n column_in) got.1)
        (λ p l u. omega (arith, e, (so.least p (omega arith) (is_untaken p u)).1, length_number p l (is_untaken p u)))
        (λ p l u. omega (arith, e, so.lowest p l (is_untaken p u), length_number p (omega (arith, column_in)) (is_untaken p u))))

    -- The rows that have it are as many as were counted.
    counted_then : rows_with m w top rows found.column ≡ found.rows
    counted_then =
        tally_same rows (λ i. leb top i && cell m₀ w i found.column) (λ i. leb top i && cell m w i found.column) (λ i l. ap (λ (b : Bool). leb top i && b)
        (cell_same w i found.column m₀ m got.0 (t.kept (i * w + found.column / 64) (inl (omega (arith, got.0, row_ends w i few (omega arith)))))))
        ∙ sym (sound.1 found.column got.0 got.1) ∙ got.2

    pub as_counted : rows_with m w top rows found.column ≤ found.rows
    as_counted = omega (arith, counted_then)

    -- A column without rows.
    pub blank : found.rows ≡ 0 → Takes w top rows found.column m m top
    blank e = inl (refl, refl, none_left w top rows found.column m (counted_then ∙ e))

    module _ (m' : List ℕ) (r : ℕ) (x : Takes w top rows found.column m m' r) where
      untaken_then : (p : ℕ) → p < 64 * w → untaken m' p ≡ (untaken m₀ p && not (eqb found.column p))
      untaken_then p h = ⊎_elim
          (λ y. ap (λ (l : List ℕ). untaken l p) y.1)
          (λ y. untaken_word m m' p (y.1.stays (8448 + p / 64) (omega arith) (λ e. omega arith))) x ∙ t.taken roomy some_left p

      taken_stands : stand_of n w rows r m' ≡ step n rows (stand_of n w rows top m₀)
      taken_stands =
          stand_eq (stand_of n w rows r m') (take_column rows found.column (stand_of n w rows top m₀)) (fun_ext at ∙ sym (take_untaken rows found.column (stand_of n w rows top m₀)))
          (same_trans (stand_of n w rows r m') (take_column rows found.column (stand_of n w rows top m)) (take_column rows found.column (stand_of n w rows top m₀))
          (takes_stand n w rows top found.column m m' r wide column_in x) (take_same rows found.column (stand_of n w rows top m) (stand_of n w rows top m₀)
          (columns_same top m₀ m (λ k h. t.kept (9216 + k) (inr (omega arith))), row_same n w rows top m₀ m wide few enough (λ k h. t.kept k (inl (omega arith))))))
          ∙ sym shortest_taken
        where
          at : (p : ℕ) → (ltb p n && untaken m' p) ≡ without found.column (λ q. ltb q n && untaken m₀ q) p
          at p = ⊎_elim (λ (h : p < n). rw (lt-ltb p n h) (untaken_then p (omega arith))) (λ (h : n ≤ p). rw (le-ltb p n h)) (order p n)

      taken_sound : Sound n w rows r m'
      taken_sound = (
        λ c h u. sound.0 c h (and_out (untaken m₀ c) (not (eqb found.column c)) (sym (untaken_then c h) ∙ u)).0,
        ⊎_elim (λ y. rw (y.0, y.1) numbered) (λ y. rw y.0 (y.1.numbered numbered)) x,
      )
        where
          numbered : Numbered w top rows m
          numbered =
              numbered_less w top rows m₀ m few enough (λ k h. t.kept k (inl h))
              (λ c h u. (and_out (untaken m₀ c) (not (eqb found.column c)) (sym (t.taken roomy some_left c) ∙ u)).0) sound.1

      taken_within : r ≤ rows
      taken_within = ⊎_elim (λ y. omega (arith, y.0)) (λ y. omega (arith, y.0, y.1.column.start, y.1.column.within)) x

      taken_long : length m' ≡ length m₀
      taken_long = ⊎_elim (λ y. ap length y.1) (λ y. y.1.long) x ∙ t.long

      -- The invariant of the pass.
      pub known_more : (k : ℕ) (s : Stand) (long : ℕ) → k < n → length m₀ ≡ long → stand_of n w rows top m₀ ≡ steps n rows k s
          → (k + 1 ≤ n) × (r ≤ rows) × (length m' ≡ long) × Sound n w rows r m' × (stand_of n w rows r m' ≡ steps n rows (k + 1) s)
      known_more k s long h d e = (omega arith, taken_within, taken_long ∙ d, taken_sound, taken_stands ∙ rw add-one (ap (step n rows) e))

----------------------------------------------------------------------
-- All columns that are not lost

-- Once no column is untaken, nothing changes any more.
pub steps_idle : (n rows k d : ℕ) (s t : Stand) → steps n rows k s ≡ t → step n rows t ≡ t → steps n rows (d + k) s ≡ t
steps_idle n rows k zero s t e i = let z : 0 + k ≡ k = omega arith in rw z e
steps_idle n rows k (suc d) s t e i =
    let z : suc d + k ≡ suc (d + k) = omega arith in
    rw z (ap (step n rows) (steps_idle n rows k d s t e i) ∙ i)

-- Once no row is left, only the untaken columns change.
step_empty : (n rows : ℕ) (s : Stand) → ((i q : ℕ) → s.row i q ≡ false) → Same (step n rows s) s
step_empty n rows s h = by (shortest (column_length rows s) n s.untaken)
  where
    by : (r : Option ℕ) → Same (step_by rows r s) s
    by none = (refl, refl)
    by (some q) = subst (λ (r : Option ℕ). Same (take_by r q s) s) (sym (first_none rows (λ i. s.row i q) (λ i l. h i q))) (refl, refl)

steps_empty : (n rows k d : ℕ) (s t : Stand) → Same (steps n rows k s) t → ((i q : ℕ) → t.row i q ≡ false) → Same (steps n rows (d + k) s) t
steps_empty n rows k zero s t e h = let z : 0 + k ≡ k = omega arith in rw z e
steps_empty n rows k (suc d) s t e h =
    let z : suc d + k ≡ suc (d + k) = omega arith in
    let r = steps_empty n rows k d s t e h in
    rw z (same_trans (step n rows (steps n rows (d + k) s)) (steps n rows (d + k) s) t (step_empty n rows (steps n rows (d + k) s) (λ i q. ap (λ (x : ℕ → Qubits). x i q) r.1 ∙ h i q)) r)

module _ (n w rows k top : ℕ) (m₀ m : List ℕ) (within : top ≤ rows) (long : length m ≡ length m₀) (h : k ≤ n) (e : stand_of n w rows top m ≡ steps n rows k (stand_of n w rows 0 m₀)) where
  pub knowns_end : k ≡ n → Knowns n w rows m₀ top m
  knowns_end d = record { long = long; within = within; stands = same_eq (stand_of n w rows top m) (steps n rows n (stand_of n w rows 0 m₀)) (rw d at e) }

  -- No column is untaken any more.
  pub knowns_idle : (m' : List ℕ) → m' ≡ m → step n rows (stand_of n w rows top m) ≡ stand_of n w rows top m → Knowns n w rows m₀ top m'
  knowns_idle m' d i =
      let z : (n - k) + k ≡ n = omega arith in
      record {
        long = ap length d ∙ long;
        within = within;
        stands = rw d (same_eq (stand_of n w rows top m) (steps n rows n (stand_of n w rows 0 m₀))
            (sym (rw z at (steps_idle n rows k (n - k) (stand_of n w rows 0 m₀) (stand_of n w rows top m) (sym e) i))));
      }

  -- No row is left.
  pub knowns_empty : top ≡ rows → Knowns n w rows m₀ top m
  knowns_empty d =
      let z : (n - k) + k ≡ n = omega arith in
      let r = rw z at (steps_empty n rows k (n - k) (stand_of n w rows 0 m₀) (stand_of n w rows top m) (same_eq (steps n rows k (stand_of n w rows 0 m₀)) (stand_of n w rows top m) (sym e)) empty) in
      record { long = long; within = within; stands = (sym r.0, sym r.1) }
    where
      empty : (i q : ℕ) → row_of n w rows top m i q ≡ false
      empty i q = ⊎_elim (λ (l : i < top). row_left n w rows top m i q l) (λ (l : top ≤ i). row_none n w rows top m i q (omega arith)) (order i top)
