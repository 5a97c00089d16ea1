-- The two ways of a start: the lost qubits peel away, or the search is made. Assumes nothing.
use mathlib.Core.Path.{◌≡◌, refl, sym, ap, ◌∙◌, fun_ext, subst}
use mathlib.Core.Bool.{Bool, true, false, ◌&&◌}
use mathlib.Core.Logic.{◌⊎◌, inl, inr}
use mathlib.Core.List.{List}
use Prim.Native.Nat.{ℕ, zero, suc, ◌+◌, ◌≤◌, ◌<◌}
use native.Mathlib.Omega.{arith}
use lib.Dec.{leb}
use lib.ListN.{length, get_or}
use borrow.Author.Tests.{leb-true, le-leb, lt-leb}
use Rattle.binary.specs.Meaning.{Qubits, Row, All, Commute}
use Rattle.binary.specs.Words.{listed}
use Rattle.binary.specs.Classes.{Commuting}
use Rattle.binary.proofs.Bits.{never, and_out}
use Rattle.lists.specs.Copied.{apart?, Copied}
use Rattle.code.specs.Lists.{rows_from}
use Rattle.code.specs.Tests.{Ascending}
use Rattle.code.proofs.Order.{rows_below}
use Rattle.machine.specs.Machine.{is_open, keep_if, start_mark}
use Rattle.machine.specs.Lists.{view}
use Rattle.machine.specs.Peeling.{peels_away}
use Rattle.machine.proofs.Peeling.{unfixed}
use Rattle.scans.specs.Rows.{RowLists, rows_in, read?, check_at, checks_from, row_checks, GoodRows}
use Rattle.scans.proofs.Scanning.{open_below_lem}
use Rattle.kept.specs.Kept.{Kept, RowsOn}
use Rattle.kept.proofs.Same.{kept_same, rows_same}
use Rattle.scans.specs.Half as sized
use Rattle.filling.specs.Filling as filling
use Rattle.filling.specs.Filling.{Fills}
use Rattle.peeling.specs.Peeling as peeling
use Rattle.peeling.specs.Peeling.{Peels, Ready}
use Rattle.std.specs.Prelude.{Option}
use Rattle.search.specs.declared.Cleared.{Cleared}
use Rattle.search.specs.Marked.{enough, Marked}
use Rattle.lists.specs.Filled.{Filled}
use Rattle.packing.specs.PackedRows.{RowsPut}
use Rattle.starting.specs.Starting.{open_mark, Keeps, Saves, Restores, PeeledFirst, Searched, Begun, enough?, enough_in?, Starts, Opens, searchable?, Marks}
use Rattle.starting.proofs.Marks.{listed_below, open_marks, open_lost, long_enough, fixed_marks, columns_noted, routed_as}

----------------------------------------------------------------------
-- Rows and checks

-- Rows that commute with the other kind do so as checks.
commuting_checks : (flat ends lit : List ℕ) (others : List Row) (r count : ℕ) → Commute (rows_from flat ends r count) others → Commuting others (checks_from flat ends lit r count)
commuting_checks flat ends lit others r zero e = tt
commuting_checks flat ends lit others r (suc count) e = go (read? lit r) (commuting_checks flat ends lit others (suc r) count e.1)
  where
    go : (b : Bool) → Commuting others (checks_from flat ends lit (suc r) count) → Commuting others (keep_if b (check_at flat ends lit r) (checks_from flat ends lit (suc r) count))
    go true v = (e.0, v)
    go false v = v

-- A list that keeps the same.
keeps_same : (n : ℕ) (c : RowLists) (work work' marks : List ℕ) → n ≤ 1024 → c.count ≤ 512 → ((k : ℕ) → k < 8192 → get_or work' k 0 ≡ get_or work k 0)
    → ((j : ℕ) → j < 9 → get_or work' (8192 + j) 0 ≡ get_or work (8192 + j) 0) → ((j : ℕ) → j < c.count → get_or work' (8704 + j) 0 ≡ get_or work (8704 + j) 0)
    → Keeps n c work marks → Keeps n c work' marks
keeps_same n c work work' marks size few same set counts k =
    record {
      kept = kept_same (is_open (view n marks)) c work work' few set counts k.kept;
      on = rows_same n (is_open (view n marks)) (is_open (view n marks)) c work work' few same (λ q e. let l = open_below_lem n marks q e in (e, omega arith)) k.on;
    }

keeps_below : (n : ℕ) (c : RowLists) (work work' marks : List ℕ) → n ≤ 1024 → c.count ≤ 512 → ((k : ℕ) → k < 9216 → get_or work' k 0 ≡ get_or work k 0) → Keeps n c work marks → Keeps n c work' marks
keeps_below n c work work' marks size few same =
    keeps_same n c work work' marks size few (λ k h. same k (omega arith)) (λ j h. same (8192 + j) (omega arith)) (λ j h. same (8704 + j) (omega arith))

keeps_as : (n : ℕ) (c : RowLists) (work marks marks' : List ℕ) → is_open (view n marks) ≡ is_open (view n marks') → Keeps n c work marks → Keeps n c work marks'
keeps_as n c work marks marks' e k = record { kept = subst (λ (o : Qubits). Kept o c work) e k.kept; on = subst (λ (o : Qubits). RowsOn o c work) e k.on }

filled_keeps : (n : ℕ) (c : RowLists) (marks work work' : List ℕ) → n ≤ 1024 → c.count ≤ 512 → c.first + c.count ≤ 1024 → c.first + c.count ≤ length c.lit → 9216 ≤ length work
    → Fills n c marks work work' → GoodRows n c → Keeps n c work' marks
unfolding filling.enough? sized.sized?
filled_keeps n c marks work work' size few last lit words f good =
    let t : filling.enough? n c (length work) ≡ true
    = rw (le-leb n 1024 size, le-leb c.count 512 few, le-leb (c.first + c.count) 1024 last, le-leb 9216 (length work) words, le-leb (c.first + c.count) (length c.lit) lit) in
    record { kept = f.kept t good; on = f.rows t good }

----------------------------------------------------------------------
-- What is kept of the rows, copied and back

-- Two parts of a list copied, one behind the other; the parts and their copies do not overlap.
module _ (a b a' b' count : ℕ) (old mid new : List ℕ) (first : Copied a b 9 old mid) (second : Copied a' b' count mid new)
    (apart : apart? (length old) a b 9 ≡ true) (apart' : apart? (length mid) a' b' count ≡ true) where
  both_stay : (k : ℕ) → (k < b) ⊎ (b + 9 ≤ k) → (k < b') ⊎ (b' + count ≤ k) → get_or new k 0 ≡ get_or old k 0
  both_stay k h i = second.stays apart' k i ∙ first.stays apart k h

  first_copied : b + 9 ≤ b' → (j : ℕ) → j < 9 → get_or new (b + j) 0 ≡ get_or old (a + j) 0
  first_copied h j l = second.stays apart' (b + j) (inl (omega arith)) ∙ first.copied apart j l

  second_copied : b + 9 ≤ a' → (j : ℕ) → j < count → get_or new (b' + j) 0 ≡ get_or old (a' + j) 0
  second_copied h j l = second.copied apart' j l ∙ first.stays apart (a' + j) (inr (omega arith))

  second_before : a' + count ≤ b → (j : ℕ) → j < count → get_or new (b' + j) 0 ≡ get_or old (a' + j) 0
  second_before h j l = second.copied apart' j l ∙ first.stays apart (a' + j) (inl (omega arith))

module _ (count : ℕ) (old mid new : List ℕ) (few : count ≤ 512) (words : 10240 ≤ length old) where
  pub saves : Copied 8192 9216 9 old mid → Copied 8704 9728 count mid new → Saves count old new
  unfolding apart?
  saves first second =
      let l = first.long in
      let a : apart? (length old) 8192 9216 9 ≡ true = rw (le-leb 8201 (length old) (omega arith), le-leb 9225 (length old) (omega arith)) in
      let b : apart? (length mid) 8704 9728 count ≡ true = rw (le-leb (8704 + count) (length mid) (omega arith), le-leb (9728 + count) (length mid) (omega arith), le-leb (8704 + count) 9728 (omega arith)) in
      record {
        long = second.long ∙ first.long;
        stays = λ k h. both_stay 8192 9216 8704 9728 count old mid new first second a b k (inl h) (inl (omega arith));
        set = first_copied 8192 9216 8704 9728 count old mid new first second a b (omega arith);
        counts = second_before 8192 9216 8704 9728 count old mid new first second a b (omega arith);
      }

  pub restores : Copied 9216 8192 9 old mid → Copied 9728 8704 count mid new → Restores count old new
  unfolding apart?
  restores first second =
      let l = first.long in
      let a : apart? (length old) 9216 8192 9 ≡ true = rw (le-leb 9225 (length old) (omega arith), le-leb 8201 (length old) (omega arith)) in
      let b : apart? (length mid) 9728 8704 count ≡ true
      = rw (le-leb (9728 + count) (length mid) (omega arith), le-leb (8704 + count) (length mid) (omega arith), lt-leb (9728 + count) 8704 (omega arith), le-leb (8704 + count) 9728 (omega arith)) in
      record {
        long = second.long ∙ first.long;
        stays = λ k h. both_stay 9216 8192 9728 8704 count old mid new first second a b k (inl h) (inl (omega arith));
        set = first_copied 9216 8192 9728 8704 count old mid new first second a b (omega arith);
        counts = second_copied 9216 8192 9728 8704 count old mid new first second a b (omega arith);
      }

----------------------------------------------------------------------
-- Peeling first

module _ (n : ℕ) (c : RowLists) (lost work work₁ work₂ work₃ marks marks₁ marks₂ marks₃ : List ℕ) (r : Bool) (size : n ≤ 1024) (few : c.count ≤ 512) (first : c.first ≤ 512)
    (words : 10240 ≤ length work) (room : n ≤ length marks) (lit : c.first + c.count ≤ length c.lit)
    (opened : Filled (open_mark n lost) n marks marks₁) (filled : Fills n c marks₁ work work₁) (copied : Saves c.count work₁ work₂)
    (peels : Peels n c.flat c.ends c.first c.count (record { marks = marks₁; work = work₂ }) (record { marks = marks₂; work = work₃ }) r)
    (again : Filled (open_mark n lost) n marks₂ marks₃) where
  keeps_then : GoodRows n c → Keeps n c work₁ marks₁
  keeps_then good = filled_keeps n c marks₁ work work₁ size few (omega arith) lit (omega arith) filled good

  ready : GoodRows n c → Ready n (rows_in c.flat c.ends c.first c.count c.lit) (record { marks = marks₁; work = work₂ })
  ready good = let k = keeps_below n c work₁ work₂ marks₁ size few copied.stays (keeps_then good) in record { good = good; kept = k.kept; on = k.on }

  can_peel : peeling.enough? n c.first c.count (length marks₁) (length work₂) ≡ true
  unfolding peeling.enough?
  can_peel =
      let a = opened.long in
      let b = filled.long in
      let d = copied.long in
      rw (le-leb n 1024 size, le-leb c.count 512 few, le-leb (c.first + c.count) 1024 (omega arith), le-leb n (length marks₁) (omega arith), le-leb 9216 (length work₂) (omega arith))

  same_open : is_open (view n marks₁) ≡ is_open (view n marks₃)
  same_open = open_lost n lost marks₁ opened.first ∙ sym (open_lost n lost marks₃ again.first)

  pub peeled_first : PeeledFirst n c lost work work₃ marks marks₃ r
  peeled_first =
      record {
        long = peels.stays.work_long ∙ copied.long ∙ filled.long;
        opened = record {
          long = again.long ∙ peels.stays.marks_long ∙ opened.long;
          first = again.first;
          rest = λ q h. again.rest q h ∙ peels.stays.rest q h ∙ opened.rest q h;
        };
        told = λ good. (peels.told can_peel c.lit (ready good)).answer ∙ ap (peels_away (row_checks c) n) (open_lost n lost marks₁ opened.first);
        saved = λ good. record {
          work = work₁;
          keeps = keeps_as n c work₁ marks₁ marks₃ same_open (keeps_then good);
          below = λ k h. peels.stays.below k h ∙ copied.stays k (omega arith);
          set = λ j h. peels.stays.past (9216 + j) (omega arith) ∙ copied.set j h;
          counts = λ j h. peels.stays.past (9728 + j) (omega arith) ∙ copied.counts j h;
        };
      }

----------------------------------------------------------------------
-- The search

module _ (n : ℕ) (flat ends lost : List ℕ) (other others : ℕ) (work work₁ work₂ marks marks' : List ℕ) (r : Option Cleared) (size : n ≤ 1024) (many : others ≤ 512)
    (words : 10240 ≤ length work) (long : n ≤ length lost) (room : n ≤ length marks)
    (packed : RowsPut n flat ends other others work work₁) (fixes : Marked n others lost work₁ marks work₂ marks' r) where
  pub searched : Searched n flat ends lost other others work work₂ marks marks'
  searched =
      record {
        work_long = fixes.work_size ∙ packed.long;
        marks_long = fixes.size;
        rest = fixes.rest;
        marked = fixed_marks n flat ends lost other others marks marks' work work₁ work₂ r packed fixes ready;
        routed = columns_noted n flat ends lost other others marks marks' work work₁ work₂ r packed fixes ready;
      }
    where
      ready : enough n others lost work₁ marks ≡ true
      ready = long_enough n flat ends lost other others marks marks' work work₁ work₂ r packed fixes size many words long room

----------------------------------------------------------------------
-- The promise

-- What the functions below ask.
pub record Enough (n lost lit first count other others work marks : ℕ) : Type 0 where
  pub size : n ≤ 1024
  pub few : count ≤ 512
  pub many : others ≤ 512
  pub start : first ≤ 512
  pub other_start : other ≤ 512
  pub words : 10240 ≤ work
  pub lost_long : n ≤ lost
  pub lit_long : first + count ≤ lit
  pub marks_long : n ≤ marks

pub enough_out : {n lost lit first count other others work marks : ℕ} → enough? n lost lit first count other others work marks ≡ true
    → Enough n lost lit first count other others work marks
unfolding enough?
enough_out {n} {lost} {lit} {first} {count} {other} {others} {work} {marks} t =
    let a = and_out _ (leb n marks) t in
    let b = and_out _ (leb (first + count) lit) a.0 in
    let d = and_out _ (leb n lost) b.0 in
    let f = and_out _ (leb 10240 work) d.0 in
    let g = and_out _ (leb other 512) f.0 in
    let h = and_out _ (leb first 512) g.0 in
    let i = and_out _ (leb others 512) h.0 in
    let j = and_out (leb n 1024) (leb count 512) i.0 in
    record {
      size = leb-true _ _ j.0;
      few = leb-true _ _ j.1;
      many = leb-true _ _ i.1;
      start = leb-true _ _ h.1;
      other_start = leb-true _ _ g.1;
      words = leb-true _ _ f.1;
      lost_long = leb-true _ _ d.1;
      lit_long = leb-true _ _ b.1;
      marks_long = leb-true _ _ a.1;
    }

module _ (n : ℕ) (c : RowLists) (lost : List ℕ) (other others : ℕ) (work marks : List ℕ) where
  pub starts_not : enough_in? n c lost other others work marks ≡ false → Starts n c lost other others work work marks marks
  starts_not e = record { work_long = refl; marks_long = refl; rest = λ q h. refl; refused = λ u. (refl, refl); begun = λ u. never u e; routed = λ u. never u e }

  -- The search is made where every lost qubit is marked open.
  pub starts_searched : enough_in? n c lost other others work marks ≡ true → (work₁ marks₁ work₂ marks₂ work₃ : List ℕ) → length work₁ ≡ length work
      → Filled (open_mark n lost) n marks marks₁ → Searched n c.flat c.ends lost other others work₁ work₂ marks₁ marks₂ → Fills n c marks₂ work₂ work₃
      → Starts n c lost other others work work₃ marks marks₂
  starts_searched e work₁ marks₁ work₂ marks₂ work₃ long opened v filled =
      record {
        work_long = filled.long ∙ v.work_long ∙ long;
        marks_long = v.marks_long ∙ opened.long;
        rest = λ q h. v.rest q h ∙ opened.rest q h;
        refused = λ u. never e u;
        begun = λ u good others-good even.
            let f = enough_out e in
            record {
              marked = v.marked opened.first others-good;
              keeps =
                  let l = v.work_long in
                  filled_keeps n c marks₂ work₂ work₃ f.size f.few (let s = f.start in let m = f.few in omega arith) f.lit_long (let w = f.words in omega arith) filled good;
            };
        routed = λ u good others-good left. routed_as n (rows_from c.flat c.ends other others) (listed n lost) work₂ work₃ filled.past (v.routed others-good);
      }

  module _ (e : enough_in? n c lost other others work marks ≡ true) (work₁ marks₁ : List ℕ) (r : Bool) (first : PeeledFirst n c lost work work₁ marks marks₁ r) where
    -- The lost qubits peel away, and what was kept of the rows is back in its place.
    pub starts_peeled : r ≡ true → (work₂ : List ℕ) → Restores c.count work₁ work₂ → Starts n c lost other others work work₂ marks marks₁
    starts_peeled away work₂ restored =
        record {
          work_long = restored.long ∙ first.long;
          marks_long = first.opened.long;
          rest = first.opened.rest;
          refused = λ u. never e u;
          begun = λ u good others-good even. begun good others-good even;
          routed = λ u good others-good left. never (sym (first.told good) ∙ away) left;
        }
      where
        begun : GoodRows n c → All (Ascending n) (rows_from c.flat c.ends other others)
            → Commute (rows_from c.flat c.ends c.first c.count) (rows_from c.flat c.ends other others) → Begun n c lost other others work₂ marks₁
        begun good others-good even =
            let f = enough_out e in
            let s = first.saved good in
            let leaves : peels_away (row_checks c) n (listed n lost) ≡ true = sym (first.told good) ∙ away in
            let none_fixed = unfixed n (rows_from c.flat c.ends other others) (listed n lost) (row_checks c) (rows_below n (rows_from c.flat c.ends other others) others-good)
            (listed_below n lost) (commuting_checks c.flat c.ends c.lit (rows_from c.flat c.ends other others) c.first c.count even) leaves in
            record {
              marked = open_marks n lost marks₁ first.opened.first ∙ ap (start_mark (listed n lost)) (sym (fun_ext none_fixed));
              keeps = keeps_same n c s.work work₂ marks₁ f.size f.few (λ k h. restored.stays k h ∙ s.below k h) (λ j h. restored.set j h ∙ s.set j h)
                  (λ j h. restored.counts j h ∙ s.counts j h) s.keeps;
            }

----------------------------------------------------------------------
-- The marks alone

module _ (n : ℕ) (lost marks : List ℕ) where
  pub opens_made : (n ≤ length lost) × (n ≤ length marks) → (marks' : List ℕ) → Filled (open_mark n lost) n marks marks' → Opens n lost marks marks'
  opens_made long marks' v = record { long = v.long; opened = λ e. v; refused = λ e. never (rw (le-leb n (length lost) long.0, le-leb n (length marks) long.1)) e }

  pub opens_not : (leb n (length lost) && leb n (length marks)) ≡ false → Opens n lost marks marks
  opens_not e = record { long = refl; opened = λ u. never u e; refused = λ u. refl }

module _ (n : ℕ) (flat ends lost : List ℕ) (other others : ℕ) (work marks : List ℕ) where
  abbrev searching : Bool
  searching = searchable? n (length lost) other others (length work) (length marks)

  pub marks_not : searching ≡ false → Marks n flat ends lost other others work work marks marks
  marks_not e = record { work_long = refl; marks_long = refl; rest = λ q h. refl; refused = λ u. (refl, refl); marked = λ u. never u e; routed = λ u. never u e }

  pub marks_searched : searching ≡ true → (work' marks₁ marks' : List ℕ) → Filled (open_mark n lost) n marks marks₁ → Searched n flat ends lost other others work work' marks₁ marks'
      → Marks n flat ends lost other others work work' marks marks'
  marks_searched e work' marks₁ marks' opened v =
      record {
        work_long = v.work_long;
        marks_long = v.marks_long ∙ opened.long;
        rest = λ q h. v.rest q h ∙ opened.rest q h;
        refused = λ u. never e u;
        marked = λ u good. v.marked opened.first good;
        routed = λ u good. v.routed good;
      }

-- What the search asks.
pub record Searchable (n lost other others work marks : ℕ) : Type 0 where
  pub size : n ≤ 1024
  pub many : others ≤ 512
  pub start : other ≤ 512
  pub words : 10240 ≤ work
  pub lost_long : n ≤ lost
  pub marks_long : n ≤ marks

pub searchable_out : {n lost other others work marks : ℕ} → searchable? n lost other others work marks ≡ true → Searchable n lost other others work marks
unfolding searchable?
searchable_out {n} {lost} {other} {others} {work} {marks} t =
    let a = and_out _ (leb n marks) t in
    let b = and_out _ (leb n lost) a.0 in
    let d = and_out _ (leb 10240 work) b.0 in
    let e = and_out _ (leb other 512) d.0 in
    let f = and_out (leb n 1024) (leb others 512) e.0 in
    record {
      size = leb-true _ _ f.0;
      many = leb-true _ _ f.1;
      start = leb-true _ _ e.1;
      words = leb-true _ _ d.1;
      lost_long = leb-true _ _ b.1;
      marks_long = leb-true _ _ a.1;
    }
