-- A half whose marks are those of a start ends as the machine's from there: a try, the search, and the half itself. Assumes nothing.
use mathlib.Core.Path.{◌≡◌, refl, sym, ap, ap₂, ◌∙◌, subst}
use mathlib.Core.Bool.{Bool, true, false, not, ◌&&◌, cond}
use mathlib.Core.List.{List}
use Rattle.std.specs.Prelude.{Option, Some}
use Prim.Native.Nat.{ℕ, zero, suc, ◌+◌, ◌*◌, ◌≤◌}
use native.Mathlib.Nat.{add-zero}
use native.Mathlib.Omega.{arith}
use lib.Dec.{eqb, ltb, leb}
use lib.ListN.{length, get_or}
use borrow.Author.Tests.{lt-ltb, le-leb}
use Rattle.binary.specs.Meaning.{Qubits, Check}
use Rattle.binary.specs.Words.{listed}
use Rattle.binary.proofs.Bits.{and_in, tally_none}
use Rattle.code.specs.Lists.{row_at, rows_from}
use Rattle.code.proofs.Order.{rows_below}
use Rattle.machine.specs.declared.HalfReport.{HalfReport}
use Rattle.machine.specs.Words.{finished?}
use Rattle.machine.specs.Machine.{is_open, closed?, take_up_all, blank, stage, start_mark, start, freest, run, keep_if, readings, Half, checks, decoded}
use Rattle.machine.specs.Lists.{view}
use Rattle.machine.specs.Demands.{Obeys}
use Rattle.machine.specs.Peeling.{tried, TryLaw}
use Rattle.machine.proofs.Demands.{end_from}
use Rattle.machine.proofs.Trying.{try_law}
use Rattle.lists.specs.Filled.{Filled}
use Rattle.scans.specs.Rows.{RowLists, checks_from, row_checks, GoodRows}
use Rattle.scans.specs.Half.{sized?}
use Rattle.scans.specs.Scans.{count_marks}
use Rattle.kept.specs.Kept.{Kept, RowsOn}
use Rattle.filling.specs.Filling.{Fills}
use Rattle.filling.specs.Filling as fills
use Rattle.starting.specs.Starting.{open_mark, fixed_in, Starts, Opens, Marks}
use Rattle.starting.specs.Starting as starts
use Rattle.starting.proofs.Marks.{listed_below, open_marks}
use Rattle.turns.specs.Turns.{Working, Stays, is_guessed, run_from}
use Rattle.turns.specs.Runs.{end_of, rest_of, Ran, Runs, GoesOn}
use Rattle.turns.specs.Runs as runs
use Rattle.turns.proofs.Stays.{stays_same, stays_on}
use Rattle.turns.proofs.Marked.{counted_as, enough_in}
use Rattle.trying.specs.declared.TryAnswer.{TryAnswer}
use Rattle.trying.specs.declared.TryAnswer.TheVariants as trying
use Rattle.trying.specs.Turns.{Stuck, Reaches}
use Rattle.trying.specs.Trying.{Given, Tries}
use Rattle.halves.specs.Starts.{half_in, RowsObey, HalfRoom, HalfRan}

----------------------------------------------------------------------
-- The half's checks

-- The rows of which a list has element e.
abbrev elements : List ℕ → ℕ → ℕ → ℕ → ℕ → Bool
elements lit first count e j = ltb j count && eqb (get_or lit (first + j) 0) e

readings_are : (flat ends lit : List ℕ) (first count i k : ℕ) → i + k ≡ count
    → readings i (elements lit first count 1) (elements lit first count 2) (rows_from flat ends (first + i) k) ≡ checks_from flat ends lit (first + i) k
readings_are flat ends lit first count i zero e = refl
readings_are flat ends lit first count i (suc k) e =
    let next : first + suc i ≡ suc (first + i) = omega arith in
    let at = get_or lit (first + i) 0 in
    let row = row_at flat ends (first + i) in
    let rest = subst (λ (r : ℕ). readings (suc i) (elements lit first count 1) (elements lit first count 2) (rows_from flat ends r k) ≡ checks_from flat ends lit r k) next
    (readings_are flat ends lit first count (suc i) k (omega arith)) in
    ap₂ (λ (b : Bool) (cs : List Check). keep_if (not (b && eqb at 2)) (record { lit = b && eqb at 1; row = row }) cs) (lt-ltb i count (omega arith)) rest

checks_are : (n : ℕ) (c : RowLists) (lost : List ℕ) (other others : ℕ) → checks (half_in n c lost other others) ≡ row_checks c
checks_are n c lost other others =
    subst (λ (r : ℕ). readings 0 (elements c.lit c.first c.count 1) (elements c.lit c.first c.count 2) (rows_from c.flat c.ends r c.count) ≡ checks_from c.flat c.ends c.lit r c.count)
    (add-zero c.first) (readings_are c.flat c.ends c.lit c.first c.count 0 c.count (omega arith))

----------------------------------------------------------------------
-- From a start to the end

-- The marks are those of a start with these qubits fixed.
module _ (n : ℕ) (c : RowLists) (lost : List ℕ) (other others : ℕ) (fixed : Qubits) (l : Working) (marked : view n l.marks ≡ start_mark (listed n lost) fixed) where
  end_is : (budget limit : ℕ) → end_from (half_in n c lost other others) fixed budget limit ≡ end_of n c budget limit l
  unfolding start
  end_is budget limit =
      ap (λ (cs : List Check). run cs n (freest cs n) budget limit (suc limit) (start cs (listed n lost) fixed)) (checks_are n c lost other others)
      ∙ ap (λ (m : ℕ → ℕ). run (row_checks c) n (freest (row_checks c) n) budget limit (suc limit) (stage m 0 (take_up_all (closed? (is_open m)) (row_checks c) blank))) (sym marked)

  none_guessed : (q : ℕ) → is_guessed n l.marks q ≡ false
  none_guessed q = ap (λ (m : ℕ → ℕ). eqb (m q) 3) marked ∙ of (listed n lost q) (fixed q)
    where
      of : (l f : Bool) → eqb (cond l (cond f 1 4) 0) 3 ≡ false
      of true true = refl
      of true false = refl
      of false f = refl

  -- Marks of a start have no peeled qubit.
  none_peeled : (q : ℕ) → eqb (view n l.marks q) 2 ≡ false
  none_peeled q = ap (λ (m : ℕ → ℕ). eqb (m q) 2) marked ∙ of (listed n lost q) (fixed q)
    where
      of : (l f : Bool) → eqb (cond l (cond f 1 4) 0) 2 ≡ false
      of true true = refl
      of true false = refl
      of false f = refl

  ran_from : (budget limit : ℕ) (new : Working) (a : Option HalfReport) (r : HalfReport) → Runs n c budget limit l new a → runs.enough? n c l ≡ true → a ≡ Some r
      → GoodRows n c → Kept (is_open (view n l.marks)) c l.work → RowsOn (is_open (view n l.marks)) c l.work
      → Ran n c new r (end_from (half_in n c lost other others) fixed budget limit)
  ran_from budget limit new a r v enough told good kept on =
      let o = v.over enough in
      let same : o.0 ≡ r = cc in
      subst (λ (x : HalfReport). Ran n c new x (end_from (half_in n c lost other others) fixed budget limit)) same
      (subst (Ran n c new o.0) (sym (end_is budget limit)) (o.2 (record { good = good; kept = kept; on = on; unguessed = none_guessed })))

----------------------------------------------------------------------
-- Sizes in range and lists long enough

-- Sizes and lists that are enough for the decode are for its start.
start_enough : (n lost lit first count other others work marks : ℕ) → n ≤ 1024 → count ≤ 512 → others ≤ 512 → first ≤ 512 → other ≤ 512 → 10240 ≤ work → n ≤ lost → first + count ≤ lit
    → n ≤ marks → starts.enough? n lost lit first count other others work marks ≡ true
unfolding starts.enough?
start_enough n lost lit first count other others work marks a b d e f g h i j =
    rw (le-leb n 1024 a, le-leb count 512 b, le-leb others 512 d, le-leb first 512 e, le-leb other 512 f, le-leb 10240 work g, le-leb n lost h, le-leb (first + count) lit i, le-leb n marks j)

-- A start writes marks and work list, and no form.
start_stays : (n : ℕ) (l : Working) (work' marks' : List ℕ) → length work' ≡ length l.work → length marks' ≡ length l.marks → ((q : ℕ) → n ≤ q → get_or marks' q 0 ≡ get_or l.marks q 0)
    → Stays n l (record { marks = marks'; forms = l.forms; work = work' })
start_stays n l work' marks' work_long marks_long rest =
    record { marks_long = marks_long; forms_long = refl; work_long = work_long; marks_rest = rest; forms_rest = λ i h. refl }

-- Sizes and lists that are enough for the decode are for the search.
search_enough : (n lost other others work marks : ℕ) → n ≤ 1024 → others ≤ 512 → other ≤ 512 → 10240 ≤ work → n ≤ lost → n ≤ marks → starts.searchable? n lost other others work marks ≡ true
unfolding starts.searchable?
search_enough n lost other others work marks a b d e f g =
    rw (le-leb n 1024 a, le-leb others 512 b, le-leb other 512 d, le-leb 10240 work e, le-leb n lost f, le-leb n marks g)

-- And what is kept of the rows.
fill_enough : (n : ℕ) (c : RowLists) (work : ℕ) → n ≤ 1024 → c.count ≤ 512 → c.first ≤ 512 → 10240 ≤ work → c.first + c.count ≤ length c.lit → fills.enough? n c work ≡ true
unfolding fills.enough? sized?
fill_enough n c work a b d e f =
    rw (le-leb n 1024 a, le-leb c.count 512 b, le-leb (c.first + c.count) 1024 (omega arith), le-leb (c.first + c.count) (length c.lit) f, le-leb 9216 work (omega arith))

----------------------------------------------------------------------
-- What the sizes allow, whatever the lists hold

obeys : (n : ℕ) (c : RowLists) (lost : List ℕ) (other others : ℕ) → RowsObey n c other others → Obeys (half_in n c lost other others)
obeys n c lost other others obey =
    record {
      rows_below = rows_below n (rows_from c.flat c.ends c.first c.count) obey.own.ascending;
      others_below = rows_below n (rows_from c.flat c.ends other others) obey.other_kind;
      lost_below = listed_below n lost;
      commute = obey.commute;
    }

module _ (n : ℕ) (c : RowLists) (lost : List ℕ) (other others : ℕ) (old : Working) (asked : HalfRoom n c lost other others old) where
  -- Lists that keep their lengths are still enough.
  can_turn : (l : Working) → Stays n old l → runs.enough? n c l ≡ true
  can_turn l k =
      enough_in n c l
      (record { size = asked.size; marks = omega arith; forms = omega arith; work = omega arith; few = asked.few; read = asked.read; last = omega arith })
      asked.first

  can_start : (l : Working) → Stays n old l → starts.enough_in? n c lost other others l.work l.marks ≡ true
  can_start l k = start_enough _ _ _ _ _ _ _ _ _ (omega arith) (omega arith) (omega arith) (omega arith) (omega arith) (omega arith) (omega arith) (omega arith) (omega arith)

  can_search : (l : Working) → Stays n old l → starts.searchable? n (length lost) other others (length l.work) (length l.marks) ≡ true
  can_search l k = search_enough _ _ _ _ _ _ (omega arith) (omega arith) (omega arith) (omega arith) (omega arith) (omega arith)

  can_fill : (l : Working) → Stays n old l → fills.enough? n c (length l.work) ≡ true
  can_fill l k = fill_enough n c _ (omega arith) (omega arith) (omega arith) (omega arith) (omega arith)

----------------------------------------------------------------------
-- The search, and the turns after it

module _ (n : ℕ) (c : RowLists) (lost : List ℕ) (other others budget limit : ℕ) (old : Working) (asked : HalfRoom n c lost other others old) (work₁ marks₁ : List ℕ)
    (marks : Marks n c.flat c.ends lost other others old.work work₁ old.marks marks₁) (fixed : ℕ) (counted : fixed ≡ count_marks n marks₁ 1) (mid : Working) (a : TryAnswer)
    (try : Tries n c limit fixed (record { marks = marks₁; forms = old.forms; work = work₁ }) mid a) where
  abbrev begun : Working
  begun = record { marks = marks₁; forms = old.forms; work = work₁ }

  begun_stays : Stays n old begun
  begun_stays = start_stays n old work₁ marks₁ marks.work_long marks.marks_long marks.rest

  mid_stays : Stays n old mid
  mid_stays = stays_on n old begun mid begun_stays try.stays

  abbrev h : Half
  h = half_in n c lost other others

  module _ (obey : RowsObey n c other others) where
    marked : view n marks₁ ≡ start_mark (listed n lost) (fixed_in n c lost other others)
    marked = marks.marked (can_search n c lost other others old asked old (stays_same n old)) obey.other_kind

    given : Given n fixed marks₁
    given = record {
      unguessed = none_guessed n c lost other others (fixed_in n c lost other others) begun marked;
      so_many = counted_as n marks₁ 1 fixed (let l = marks.marks_long in omega arith) counted;
    }

    reaches : Reaches n c limit mid a (λ budget. end_of n c budget limit begun)
    reaches = try.tells c.flat obey.own given

    ends : end_of n c budget limit begun ≡ decoded h budget limit
    unfolding decoded
    ends = sym (end_is n c lost other others (fixed_in n c lost other others) begun marked budget limit)

  -- The turns without a guess are the whole half.
  pub searched_over : (r : HalfReport) → a ≡ trying.Over r → HalfRan n c lost other others budget limit old mid (Some r)
  searched_over r told = record { stays = mid_stays; over = (r, refl, λ obey. subst (Ran n c mid r) (ends obey) (((reaches obey).over r told).1 budget)) }

  -- What is kept of the rows is made for the turns that follow.
  module _ (work₂ : List ℕ) (filled : Fills n c mid.marks mid.work work₂) (new : Working) (b : Option HalfReport) where
    abbrev ready : Working
    ready = record { marks = mid.marks; forms = mid.forms; work = work₂ }

    ready_stays : Stays n old ready
    ready_stays =
        stays_on n old mid ready mid_stays
        (record { marks_long = refl; forms_long = refl; work_long = filled.long; marks_rest = λ q i. refl; forms_rest = λ i j. refl })

    kept : RowsObey n c other others → Kept (is_open (view n mid.marks)) c work₂
    kept obey = filled.kept (can_fill n c lost other others old asked mid mid_stays) obey.own

    on : RowsObey n c other others → RowsOn (is_open (view n mid.marks)) c work₂
    on obey = filled.rows (can_fill n c lost other others old asked mid mid_stays) obey.own

    -- From where they led.
    pub searched_left : (made : ℕ) → a ≡ trying.Left made → GoesOn n c budget limit made ready new b → HalfRan n c lost other others budget limit old new b
    unfolding run_from
    searched_left made told v =
        record {
          stays = stays_on n old ready new ready_stays v.stays;
          over = (
            (v.over enough).0,
            (v.over enough).1,
            λ obey.
                let s = (reaches obey).left made told in
                subst (Ran n c new (v.over enough).0) (rest obey s ∙ ends obey)
                ((v.over enough).2 (record { begins = record { good = obey.own; kept = kept obey; on = on obey; unguessed = s.ready.unguessed }; topped = s.ready.topped })),
          );
        }
      where
        enough : (runs.enough? n c ready && leb made limit) ≡ true
        enough = and_in (can_turn n c lost other others old asked ready ready_stays) (le-leb made limit (try.within made told))

        rest : RowsObey n c other others → Stuck n c limit made mid (λ budget. end_of n c budget limit begun) → rest_of n c budget limit made ready ≡ end_of n c budget limit begun
        rest obey s = s.rest budget

    -- Nothing is known: the turns are made from the start.
    pub searched_again : a ≡ trying.Unknown → Runs n c budget limit ready new b → HalfRan n c lost other others budget limit old new b
    unfolding decoded
    searched_again told v =
        record {
          stays = stays_on n old ready new ready_stays v.stays;
          over = (
            (v.over enough).0,
            (v.over enough).1,
            λ obey.
                ran_from n c lost other others (fixed_in n c lost other others) ready (as_begun obey) budget limit new b _ v enough (v.over enough).1 obey.own (kept obey) (on obey),
          );
        }
      where
        enough : runs.enough? n c ready ≡ true
        enough = can_turn n c lost other others old asked ready ready_stays

        as_begun : RowsObey n c other others → view n mid.marks ≡ start_mark (listed n lost) (fixed_in n c lost other others)
        as_begun obey =
            try.unknown told (none_peeled n c lost other others (fixed_in n c lost other others) begun (marked obey)) ∙ marked obey

----------------------------------------------------------------------
-- The try, and the half

-- A try as if no qubit were fixed.
module _ (n : ℕ) (c : RowLists) (lost : List ℕ) (other others limit : ℕ) (old : Working) (asked : HalfRoom n c lost other others old) (marks₁ : List ℕ)
    (opens : Opens n lost old.marks marks₁) (mid : Working) (a : TryAnswer)
    (try : Tries n c limit 0 (record { marks = marks₁; forms = old.forms; work = old.work }) mid a) where
  abbrev first : Working
  first = record { marks = marks₁; forms = old.forms; work = old.work }

  opened : Filled (open_mark n lost) n old.marks marks₁
  opened = opens.opened (and_in (le-leb n (length lost) asked.losses) (le-leb n (length old.marks) asked.marks))

  first_stays : Stays n old first
  first_stays = start_stays n old old.work marks₁ refl opened.long opened.rest

  tried_stays : Stays n old mid
  tried_stays = stays_on n old first mid first_stays try.stays

  unmarked : view n marks₁ ≡ start_mark (listed n lost) (λ q. false)
  unmarked = open_marks n lost marks₁ opened.first

  none_fixed : Given n 0 marks₁
  none_fixed = record {
    unguessed = none_guessed n c lost other others (λ q. false) first unmarked;
    so_many = sym (tally_none n _ (λ q. ap (λ (m : ℕ → ℕ). eqb (m q) 1) unmarked ∙ of (listed n lost q)));
  }
    where
      of : (l : Bool) → eqb (cond l 4 0) 1 ≡ false
      of true = refl
      of false = refl

  -- A try that is over is the half's end.
  pub half_tried : (budget : ℕ) (r : HalfReport) → a ≡ trying.Over r → HalfRan n c lost other others budget limit old mid (Some r)
  unfolding TryLaw tried
  half_tried budget r told =
      record { stays = tried_stays; over = (r, refl, λ obey. subst (Ran n c mid r) (sym (try_law h (obeys n c lost other others obey) budget limit (over obey))) (ran obey)) }
    where
      h : Half
      h = half_in n c lost other others

      ran : RowsObey n c other others → Ran n c mid r (tried h limit)
      ran obey =
          subst (Ran n c mid r) (sym (end_is n c lost other others (λ q. false) first unmarked 0 limit)) (((try.tells c.flat obey.own none_fixed).over r told).1 0)

      over : RowsObey n c other others → finished? (tried h limit).word ≡ true
      over obey = ap finished? (sym (ap (λ (x : HalfReport). x.word) (ran obey).report) ∙ ((try.tells c.flat obey.own none_fixed).over r told).0)

  -- Where it left a qubit the search is made.
  pub half_searched : (budget : ℕ) (new : Working) (b : Option HalfReport) → HalfRan n c lost other others budget limit mid new b → HalfRan n c lost other others budget limit old new b
  half_searched budget new b v = record { stays = stays_on n old mid new tried_stays v.stays; over = v.over }

  -- Else the half is started anew.
  pub half_again : (budget : ℕ) (work₂ marks₂ : List ℕ) (new : Working) (b : Option HalfReport) → Starts n c lost other others mid.work work₂ mid.marks marks₂
      → Runs n c budget limit (record { marks = marks₂; forms = mid.forms; work = work₂ }) new b → HalfRan n c lost other others budget limit old new b
  unfolding decoded
  half_again budget work₂ marks₂ new b starts v =
      record {
        stays = stays_on n old anew new anew_stays v.stays;
        over = (
          (v.over enough).0,
          (v.over enough).1,
          λ obey.
              let s = starts.begun (can_start n c lost other others old asked mid tried_stays) obey.own obey.other_kind obey.commute in
              ran_from n c lost other others (fixed_in n c lost other others) anew s.marked budget limit new b _ v enough (v.over enough).1 obey.own s.keeps.kept s.keeps.on,
        );
      }
    where
      anew : Working
      anew = record { marks = marks₂; forms = mid.forms; work = work₂ }

      anew_stays : Stays n old anew
      anew_stays = stays_on n old mid anew tried_stays (start_stays n mid work₂ marks₂ starts.work_long starts.marks_long starts.rest)

      enough : runs.enough? n c anew ≡ true
      enough = can_turn n c lost other others old asked anew anew_stays
