-- A qubit settled in the lists is one settled by the machine. Assumes nothing.
use mathlib.Core.Path.{◌≡◌, refl, sym, ap, ◌∙◌, fun_ext, subst}
use mathlib.Core.Bool.{Bool, true, false, not, ◌&&◌}
use mathlib.Core.Option.{Option, none, some}
use Rattle.std.specs.Prelude.{Some}
use mathlib.Core.List.{List}
use Prim.Native.Nat.{ℕ, suc, ◌+◌, ◌*◌, ◌≤◌, ◌<◌}
use native.Mathlib.Numerals.{add-one}
use native.Mathlib.Omega.{arith}
use lib.Dec.{eqb}
use lib.ListN.{length, get_or, set}
use lib.ListN.{length-set}
use Rattle.binary.specs.Meaning.{Qubits, Row, Check, has}
use Rattle.binary.proofs.Bits.{bit as cases, never, eqb_differ}
use Rattle.code.specs.Lists.{row_at}
use Rattle.forms.specs.Forms.{Taken}
use Rattle.machine.specs.Machine.{Form, Forms, put, is_open, closed?, closing, side, take_up_all, stage, settle}
use Rattle.machine.specs.Lists.{view, forms_of}
use Rattle.forms.specs.Forms.{with_live, Topped, TakenAs, PutsSide, PutsGuess}
use Rattle.turns.specs.Lists.{state_of}
use Rattle.forms.specs.Sides.{check}
use Rattle.forms.proofs.Putting.{side_put, side_rest, guess_put, guess_rest}
use Rattle.scans.specs.Rows.{RowLists, row_checks, GoodRows}
use Rattle.scans.proofs.Scanning.{open_below_lem, view_set, rest_set, one_less_lem}
use Rattle.kept.specs.Kept.{Kept, RowsOn}
use Rattle.kept.proofs.Same.{kept_same, rows_same}
use Rattle.guessing.specs.Guessing.{Weighed, WeightsAlone, WeighRoom, Renews}
use Rattle.guessing.proofs.Adding.{alone_same}
use Rattle.guessing.proofs.Room.{does_weigh}
use Rattle.kept.proofs.Lowering.{not_has, has_open}
use Rattle.closing.specs.Closing.{closed_at?, TakenRows, ClosingRows, ClosedRows}
use Rattle.closing.proofs.TakingRows.{never_live}
use Rattle.closing.proofs.ClosingRows.{closed_as}
use Rattle.turns.specs.Lent.{Room}
use Rattle.turns.specs.Turns.{Working, Unsettled, is_guessed, Ready, StageAs, Turns, Turned, Stays, settle_by, Settled, peel_by, guess_by}
use Rattle.machine.proofs.Settling.{side_top}
use Rattle.turns.proofs.Stays.{stays_on}
use Rattle.machine.proofs.Stages.{open_put}

----------------------------------------------------------------------
-- The rows that a turn closed

pub closing_test : (mark : ℕ → ℕ) (p m : ℕ) → is_open mark p ≡ true → eqb m 4 ≡ false → (c : Check)
    → closing mark (put p m mark) c ≡ closed_at? false p (is_open (put p m mark)) c
unfolding closed_at?
closing_test mark p m t e c =
    cases (has c.row p) (λ i. rw (i, has_open (is_open mark) p c.row t i)) (λ i. rw i (same i))
  where
    neither : (b : Bool) → (not b && b) ≡ false
    neither true = refl
    neither false = refl

    same : has c.row p ≡ false → (not (closed? (is_open mark) c) && closed? (is_open (put p m mark)) c) ≡ false
    same i = rw (open_put p m mark e, not_has (is_open mark) p c.row i) (neither (closed? (is_open mark) c))

----------------------------------------------------------------------
-- The weights follow, if they are kept

-- From a list without qubit p in what is kept of the rows.
pub record Follows (n : ℕ) (c : RowLists) (p : ℕ) (weighed : Bool) (work work' : List ℕ) : Type 0 where
  pub alone : WeightsAlone n work work'
  pub weights : weighed ≡ true → GoodRows n c → (o : Qubits) → ((q : ℕ) → o q ≡ true → q < n) → o p ≡ true → Kept (put p false o) c work → RowsOn o c work
      → Weighed o c work → Weighed (put p false o) c work'

pub follows_not : (n : ℕ) (c : RowLists) (p : ℕ) (weighed : Bool) (work : List ℕ) → weighed ≡ false → Follows n c p weighed work work
follows_not n c p weighed work e = record { alone = alone_same n work; weights = λ t. never t e }

pub follows_renewed : (n : ℕ) (c : RowLists) (p : ℕ) (weighed : Bool) (work work' : List ℕ) → WeighRoom n c work → Renews n c p work work' → Follows n c p weighed work work'
follows_renewed n c p weighed work work' room v =
    let w = v.renews (does_weigh n c work room) in record { alone = w.alone; weights = λ t good o inside is_open_lem kept on weighs. w.renewed c.lit good o inside is_open_lem kept on weighs }

----------------------------------------------------------------------
-- A qubit settled

-- Of sizes in range and lists long enough, the rows that a turn closed are taken up.
pub closed_by : (n : ℕ) (c : RowLists) (l : Working) (p live : ℕ) (forms' work' : List ℕ) (t : Taken) → Room n c l → p < n → ClosedRows n c p live l.forms forms' l.work work' t
    → ClosingRows n c p live l.forms forms' l.work work' t
closed_by n c l p live forms' work' t r h v =
    closed_as n c p live l.forms forms' l.work work' t (record { forms_long = r.forms; small = let size = r.size in omega arith; few = r.few; work_long = r.work; lit = r.read; last = r.last }) v

module _ (n : ℕ) (c : RowLists) (old : Working) (forms' work₁ work' : List ℕ) (p m live : ℕ) (weighed : Bool) (room : Room n c old) (here : Unsettled n old.marks p)
    (not-four : eqb m 4 ≡ false) (t : Taken) where
  below : p < n
  below = here.below

  is_open_lem : is_open (view n old.marks) p ≡ true
  is_open_lem = here.marked

  size : n ≤ 1024
  size = room.size

  few : c.count ≤ 512
  few = room.few

  in_marks : p < length old.marks
  in_marks = let m = room.marks in omega arith

  abbrev marks' : List ℕ
  marks' = set old.marks p m

  abbrev new : Working
  new = record { marks = marks'; forms = forms'; work = work' }

  abbrev o : Qubits
  o = is_open (view n old.marks)

  -- The open qubits afterwards.
  open_then : is_open (view n marks') ≡ put p false o
  open_then = ap is_open (view_set n old.marks p m below in_marks) ∙ open_put p m (view n old.marks) not-four

  stage_as : (turns : ℕ) (r : Option Forms) → TakenAs n forms' r t → StageAs n new turns t (stage (put p m (view n old.marks)) turns r)
  stage_as turns none e = (e, view_set n old.marks p m below in_marks, refl, refl)
  stage_as turns (some fs) e = (
    e.0,
    λ i. record { mark = view_set n old.marks p m below in_marks i; forms = record { form = e.1 i; live = fs.live }; turns = turns },
    e.2,
  )

  topped_of : (r : Option Forms) → TakenAs n forms' r t → (k : ℕ) → t ≡ Some k → Topped n k forms'
  topped_of none e k i = never_live k (sym e ∙ i)
  topped_of (some fs) e k i = let z : Some fs.live ≡ Some k = sym e.0 ∙ i in let same : fs.live ≡ k = cc in subst (λ (l : ℕ). Topped n l forms') same e.2

  pub settled : ClosingRows n c p live old.forms forms' old.work work₁ t → Follows n c p weighed work₁ work' → Settled n c p m live weighed old new t
  unfolding settle_by
  settled v follows =
      record {
        stays = record {
          marks_long = length-set old.marks p m;
          forms_long = v.forms_long;
          work_long = follows.alone.long ∙ v.work_long;
          marks_rest = rest_set n old.marks p m below;
          forms_rest = v.forms_rest;
        };
        one = one_less_lem n old.marks p m is_open_lem not-four;
        turns = λ good ready plain before. turns_of_lem good (v.rows good o is_open_lem ready.kept ready.on ready.topped) ready plain before;
      }
    where
      taken : Option Forms
      taken = take_up_all (closing (view n old.marks) (put p m (view n old.marks))) (row_checks c) (with_live n old.forms live)

      same : take_up_all (closed_at? false p (put p false o)) (row_checks c) (with_live n old.forms live) ≡ taken
      same =
          ap (λ (s : Check → Bool). take_up_all s (row_checks c) (with_live n old.forms live))
          (ap (closed_at? false p) (sym (open_put p m (view n old.marks) not-four)) ∙ sym (fun_ext (closing_test (view n old.marks) p m is_open_lem not-four)))

      took_as : TakenRows n c p live o old.forms forms' work₁ t → TakenAs n forms' taken t
      took_as w = subst (λ (r : Option Forms). TakenAs n forms' r t) same w.taken

      still : (q : ℕ) → is_open (view n marks') q ≡ true → (o q ≡ true) × (q < 1024)
      still q e =
          let i : put p false o q ≡ true = sym (ap (λ (f : Qubits). f q) open_then) ∙ e in
          let was : o q ≡ true = cases (eqb p q) (λ u. never (rw u at i) refl) (λ u. rw u at i) in
          let l = open_below_lem n old.marks q was in
          (was, omega arith)

      -- After the rows are closed, and after the weights have followed.
      on_then : Ready n c live weighed old → RowsOn o c work₁
      on_then ready = rows_same n o o c old.work work₁ few v.below (λ q e. let l = open_below_lem n old.marks q e in (e, omega arith)) ready.on

      unguessed_then : (weighed ≡ false → eqb m 3 ≡ false) → Ready n c live weighed old → weighed ≡ false → (q : ℕ) → is_guessed n new.marks q ≡ false
      unguessed_then plain ready e q =
          ap (λ (f : ℕ → ℕ). eqb (f q) 3) (view_set n old.marks p m below in_marks) ∙ cases (eqb p q) (λ u. rw u (plain e)) (λ u. rw u (ready.unguessed e q))

      turns_of_lem : GoodRows n c → TakenRows n c p live o old.forms forms' work₁ t → Ready n c live weighed old → (weighed ≡ false → eqb m 3 ≡ false)
          → (before : ℕ) → Turns n c before weighed (settle_by n c p m live) old new t
      turns_of_lem good w ready plain before =
          record {
            comes = λ turns. stage_as (suc turns) taken (took_as w);
            ready = λ k e. record {
              topped = topped_of taken (took_as w) k e;
              kept = subst (λ (f : Qubits). Kept f c work') (sym open_then)
                  (kept_same (put p false o) c work₁ work' few (λ j h. follows.alone.below (8192 + j) (omega arith)) (λ j h. follows.alone.below (8704 + j) (omega arith)) (w.kept k e));
              on = rows_same n o (is_open (view n marks')) c old.work work' few (λ j h. follows.alone.below j (omega arith) ∙ v.below j h) still ready.on;
              weights = λ u. subst (λ (f : Qubits). Weighed f c work') (sym open_then)
                  (follows.weights u good o (open_below_lem n old.marks) is_open_lem (w.kept k e) (on_then ready)
                  (record { weights = λ q s. v.past (9216 + q) (omega arith) ∙ (ready.weights u).weights q s }));
              unguessed = unguessed_then plain ready;
            };
          }

----------------------------------------------------------------------
-- Peeling and guessing: the qubit's form is put, then it is settled

module _ (n : ℕ) (c : RowLists) (p : ℕ) (old : Working) (forms₁ : List ℕ) (f : Form) (Put-as : forms_of n forms₁ ≡ put p f (forms_of n old.forms)) where
  abbrev mid : Working
  mid = record { marks = old.marks; forms = forms₁; work = old.work }

  -- The form has no bit above the live guesses either.
  mid_ready : (live more : ℕ) (weighed : Bool) → live ≤ more → ((k : ℕ) → more < k → f k ≡ false) → Ready n c live weighed old → Ready n c more weighed mid
  mid_ready live more weighed l top ready =
      record {
        topped = λ q k i. ap (λ (g : ℕ → Form). g q k) Put-as ∙ cases (eqb p q) (λ e. rw e (top k i)) (λ e. rw e (ready.topped q k (omega arith)));
        kept = ready.kept;
        on = ready.on;
        weights = ready.weights;
        unguessed = ready.unguessed;
      }

  -- The machine puts the form as it settles the qubit.
  as_put : (m live : ℕ) (new : Working) (t : Taken) (turns before : ℕ) → StageAs n new (suc turns) t (settle_by n c p m live (state_of n old.marks forms₁ before turns))
      → StageAs n new (suc turns) t (settle (row_checks c) (state_of n old.marks old.forms before turns) p m (record { form = put p f (forms_of n old.forms); live = live }))
  unfolding settle_by
  as_put m live new t turns before =
      subst (λ (g : ℕ → Form). StageAs n new (suc turns) t (settle (row_checks c) (state_of n old.marks old.forms before turns) p m (record { form = g; live = live }))) Put-as

stays_put : (n : ℕ) (old new : Working) (forms₁ : List ℕ) → length forms₁ ≡ length old.forms → ((i : ℕ) → 4 * n ≤ i → get_or forms₁ i 0 ≡ get_or old.forms i 0)
    → Stays n (record { marks = old.marks; forms = forms₁; work = old.work }) new → Stays n old new
stays_put n old new forms₁ long rest v =
    stays_on n old (record { marks = old.marks; forms = forms₁; work = old.work }) new
    (record { marks_long = refl; forms_long = long; work_long = refl; marks_rest = λ q h. refl; forms_rest = rest }) v

module _ (n : ℕ) (c : RowLists) (p live : ℕ) (old new : Working) (forms₁ : List ℕ) (t : Taken) (below : p < n) (room : 4 * n ≤ length old.forms) where
  pub peel_turned : (r : ℕ) (weighed : Bool) (row : Row) → row ≡ row_at c.flat c.ends r → PutsSide n (check (eqb (get_or c.lit r 0) 1) row) live p old.forms forms₁
      → Settled n c p 2 live weighed (record { marks = old.marks; forms = forms₁; work = old.work }) new t → Turned n c live weighed (peel_by n c p r) old new t
  unfolding peel_by
  peel_turned r weighed row e puts v =
      record {
        stays = stays_put n old new forms₁ puts.long (side_rest n live p (check (eqb (get_or c.lit r 0) 1) row) old.forms forms₁ puts below room) v.stays;
        one = v.one;
        turns = λ good ready.
            let was : forms_of n forms₁ ≡ put p (side_of (row_at c.flat c.ends r)) (forms_of n old.forms)
            = side_put n live p (check (eqb (get_or c.lit r 0) 1) row) old.forms forms₁ puts below room ready.topped ∙ ap (λ (x : Row). put p (side_of x) (forms_of n old.forms)) e in
            let top : (k : ℕ) → live < k → side_of (row_at c.flat c.ends r) k ≡ false = λ k l. side_top (with_live n old.forms live) (check (eqb (get_or c.lit r 0) 1) (row_at c.flat c.ends r)) k (λ q. ready.topped q k l) (omega arith) in
            let w = v.turns good (mid_ready n c p old forms₁ (side_of (row_at c.flat c.ends r)) was live live weighed (omega arith) top ready) (λ u. refl) live in
            record { comes = λ turns. as_put n c p old forms₁ (side_of (row_at c.flat c.ends r)) was 2 live new t turns live (w.comes turns); ready = w.ready };
      }
    where
      side_of : Row → Form
      side_of x = side (with_live n old.forms live) (check (eqb (get_or c.lit r 0) 1) x)

  pub guess_turned : (newest : ℕ) → newest ≡ live + 1 → live < 255 → PutsGuess n newest p old.forms forms₁
      → Settled n c p 3 newest true (record { marks = old.marks; forms = forms₁; work = old.work }) new t → Turned n c live true (guess_by n c p) old new t
  unfolding guess_by
  guess_turned newest e l puts v =
      record {
        stays = stays_put n old new forms₁ puts.long (guess_rest n newest p old.forms forms₁ puts below room (omega arith)) v.stays;
        one = v.one;
        turns = λ good ready.
            let was = guess_put n newest p old.forms forms₁ puts below room (omega arith) (λ q k i. ready.topped q k (omega arith)) in
            let w = v.turns good (mid_ready n c p old forms₁ (λ k. eqb k newest) was live newest true (omega arith) (λ k i. eqb_differ k newest (λ u. absurd (omega arith))) ready) (λ u. never refl u) live in
            record {
              comes = λ turns.
                  subst (λ (g : ℕ). StageAs n new (suc turns) t
                  (settle (row_checks c) (state_of n old.marks old.forms live turns) p 3 (record { form = put p (λ k. eqb k g) (forms_of n old.forms); live = g })))
                  (e ∙ add-one live) (as_put n c p old forms₁ (λ k. eqb k newest) was 3 newest new t turns live (w.comes turns));
              ready = w.ready;
            };
      }
