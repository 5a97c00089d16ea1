-- Peeling in the lists is the machine's, step by step. Assumes nothing.
use mathlib.Core.Path.{◌≡◌, refl, sym, ap, ◌∙◌, fun_ext, subst}
use mathlib.Core.Bool.{Bool, true, false, not, ◌&&◌, cond}
use mathlib.Core.Option.{Option, none, some}
use mathlib.Core.List.{List, []}
use Prim.Native.Nat.{ℕ, ◌+◌, ◌-◌, ◌≤◌, ◌<◌}
use native.Mathlib.Omega.{arith}
use lib.Dec.{eqb, leb}
use lib.ListN.{length, get_or, set, length-set}
use borrow.Author.Tests.{leb-true, le-leb, not-false}
use Rattle.binary.specs.Bits.{below}
use Rattle.binary.specs.Meaning.{Qubits, Check}
use Rattle.binary.proofs.Bits.{bit, never, and_out, not_out, not_in, eq_eqb, eqb_eq, below_out, below_in, tally_few, none_counted}
use Rattle.machine.specs.Machine.{put, is_open, dangling}
use Rattle.machine.specs.Report.{marked}
use Rattle.machine.specs.Lists.{view}
use Rattle.machine.specs.Peeling.{peel_step, peeled, peels_away}
use Rattle.machine.proofs.Settling.{part_open}
use Rattle.machine.proofs.Stages.{dangling_is, open_put}
use Rattle.machine.proofs.Peeling.{peeled_plus, peeled_less, peeled_stays}
use Rattle.scans.specs.Rows.{RowLists, rows_in, check_in, row_checks}
use Rattle.scans.specs.Scans.{OpenFrom, count_marks, OneLess}
use Rattle.scans.proofs.Scanning.{open_below_lem, view_set, rest_set, some_open_lem, one_less_lem}
use Rattle.kept.specs.Kept.{dangles?, Kept, Lowest, LoweredRows}
use Rattle.kept.proofs.Same.{rows_same}
use Rattle.kept.proofs.Dangling.{dangling_none, found_inside, dangling_found}
use Rattle.peeling.specs.Peeling.{Lists, open_in, Ready, Stays, Settles, OneStep, enough?, Told, Peels}

pub stays_same : (n : ℕ) (l : Lists) → Stays n l l
stays_same n l = record { marks_long = refl; work_long = refl; rest = λ q h. refl; below = λ k h. refl; past = λ k h. refl }

pub stays_on : (n : ℕ) (old mid new : Lists) → Stays n old mid → Stays n mid new → Stays n old new
stays_on n old mid new a b =
    record {
      marks_long = b.marks_long ∙ a.marks_long;
      work_long = b.work_long ∙ a.work_long;
      rest = λ q h. b.rest q h ∙ a.rest q h;
      below = λ k h. b.below k h ∙ a.below k h;
      past = λ k h. b.past k h ∙ a.past k h;
    }

----------------------------------------------------------------------
-- One step

module _ (n : ℕ) (flat ends : List ℕ) (first count : ℕ) (old : Lists) (i : ℕ) (low : Lowest count old.work i) (long : 9216 ≤ length old.work) where
  abbrev rows : List ℕ → RowLists
  rows lit = rows_in flat ends first count lit

  abbrev o : Qubits
  o = open_in n old

  known : (lit : List ℕ) → Ready n (rows lit) old → (i < count → dangles? o (rows lit) i ≡ true) × ((j : ℕ) → j < i → dangles? o (rows lit) j ≡ false)
  known lit ready = low.lowest long o (rows lit) refl ready.kept

  pub step_none : count ≤ i → OneStep n flat ends first count old old false
  step_none h =
      record {
        stays = stays_same n old;
        by_total = λ z. refl;
        one = λ e. never e refl;
        idle = λ e. refl;
        settles = λ e. never e refl;
        none_dangles = λ e lit ready. dangling_none o (rows lit) (λ j l. (known lit ready).1 j (omega arith));
      }

  module _ (h : i < count) (row : List ℕ) (is : row ≡ (check_in (rows []) i).row) (at : ℕ) (scan : OpenFrom o row 0 at) where
    found : OpenFrom o (check_in (rows []) i).row 0 at
    found = subst (λ (x : List ℕ). OpenFrom o x 0 at) is scan

    -- A dangling row has an open qubit.
    pub step_shut : length row ≤ at → OneStep n flat ends first count old old false
    step_shut l =
        record {
          stays = stays_same n old;
          by_total = λ z. refl;
          one = λ e. never e refl;
          idle = λ e. refl;
          settles = λ e. never e refl;
          none_dangles = λ e lit ready.
              let k = known lit ready in let m = found_inside o (rows lit) i h (k.0 h) k.1 at found in let d = ap length is in absurd (omega arith);
        }

    module _ (inside : at < length row) (p : ℕ) (p-is : p ≡ get_or row at 0) (size : n ≤ 1024) (few : count ≤ 512) (room : n ≤ length old.marks) where
      p_open : o p ≡ true
      p_open = rw p-is (scan.found inside)

      pub p_below : p < n
      p_below = open_below_lem n old.marks p p_open

      module _ (work' : List ℕ) (lowered : LoweredRows p count old.work work') where
        abbrev new : Lists
        new = record { marks = set old.marks p 2; work = work' }

        marks_then : view n new.marks ≡ put p 2 (view n old.marks)
        marks_then = view_set n old.marks p 2 p_below (let b = p_below in omega arith)

        open_then : open_in n new ≡ put p false o
        open_then = ap is_open marks_then ∙ open_put p 2 (view n old.marks) refl

        still : (q : ℕ) → open_in n new q ≡ true → (o q ≡ true) × (q < 1024)
        still q e =
            let i : put p false o q ≡ true = sym (ap (λ (f : Qubits). f q) open_then) ∙ e in
            let was : o q ≡ true = bit (eqb p q) (λ u. never (rw u at i) refl) (λ u. rw u at i) in
            let l = open_below_lem n old.marks q was in
            (was, omega arith)

        ready_then : (lit : List ℕ) → Ready n (rows lit) old → Ready n (rows lit) new
        ready_then lit ready =
            record {
              good = ready.good;
              kept = subst (λ (f : Qubits). Kept f (rows lit) work') (sym open_then)
                  (lowered.kept long (let b = p_below in omega arith) few n (rows lit) refl ready.good o p_open ready.kept ready.on);
              on = rows_same n o (open_in n new) (rows lit) old.work work' few lowered.below still ready.on;
            }

        pub step_made : OneStep n flat ends first count old new true
        step_made =
            record {
              stays = record {
                marks_long = length-set old.marks p 2;
                work_long = lowered.long;
                rest = rest_set n old.marks p 2 p_below;
                below = lowered.below;
                past = lowered.past;
              };
              by_total = λ z. let e = low.by_total z in absurd (omega arith);
              one = λ e. one_less_lem n old.marks p 2 p_open refl;
              idle = λ e. never refl e;
              settles = λ e lit ready.
                  let k = known lit ready in
                  record {
                    row = (p, check_in (rows lit) i);
                    dangles = dangling_found o (rows lit) i h (k.0 h) k.1 at found
                        ∙ ap (λ (q : ℕ). some (q, check_in (rows lit) i)) (ap (λ (x : List ℕ). get_or x at 0) (sym is) ∙ sym p-is);
                    marks = marks_then;
                    ready = ready_then lit ready;
                  };
              none_dangles = λ e. never refl e;
            }

----------------------------------------------------------------------
-- All steps

-- After k steps, with so many open qubits left.
pub record Peeling (n : ℕ) (c : RowLists) (old : Lists) (k left : ℕ) (l : Lists) : Type 0 where
  pub steps : k + left ≡ marked n (view n old.marks) 4
  pub count : left ≡ marked n (view n l.marks) 4
  pub opened : open_in n l ≡ peeled (row_checks c) k (open_in n old)
  pub marks : (q : ℕ) → view n l.marks q ≡ cond (open_in n old q && not (peeled (row_checks c) k (open_in n old) q)) 2 (view n old.marks q)
  pub ready : Ready n c l

module _ (n : ℕ) (c : RowLists) (old : Lists) where
  abbrev cs : List Check
  cs = row_checks c

  abbrev o₀ : Qubits
  o₀ = open_in n old

  pub peeling_start : (left : ℕ) → left ≡ marked n (view n old.marks) 4 → Ready n c old → Peeling n c old 0 left old
  peeling_start left e ready =
      record { steps = omega arith; count = e; opened = refl; marks = λ q. sym (neither (o₀ q) (view n old.marks q)); ready = ready }
    where
      neither : (b : Bool) (x : ℕ) → cond (b && not b) 2 x ≡ x
      neither true x = refl
      neither false x = refl

  module _ (k left : ℕ) (l : Lists) (s : Peeling n c old k left l) where
    few : k ≤ n
    few = let t = tally_few n (λ q. eqb (view n old.marks q) 4) in let u = s.steps in omega arith

    -- What n steps leave, from here on.
    rest_of_lem : peeled cs n o₀ ≡ peeled cs (n - k) (open_in n l)
    rest_of_lem =
        let f = few in
        let e : k + (n - k) ≡ n = omega arith in
        sym (ap (λ (m : ℕ). peeled cs m o₀) e) ∙ peeled_plus cs k (n - k) o₀ ∙ ap (peeled cs (n - k)) (sym s.opened)

    -- Where nothing changes from here on, the marks are told.
    marks_told : peeled cs n o₀ ≡ open_in n l → (q : ℕ) → view n l.marks q ≡ cond (o₀ q && not (peeled cs n o₀ q)) 2 (view n old.marks q)
    marks_told e q = s.marks q ∙ ap (λ (b : Bool). cond (o₀ q && not b) 2 (view n old.marks q)) (ap (λ (f : Qubits). f q) (sym s.opened ∙ sym e))

    shut_all : left ≡ 0 → (q : ℕ) → open_in n l q ≡ false
    shut_all e q =
        bit (open_in n l q)
        (λ t. never t (not_out (open_in n l q) (below_out n _ (none_counted n (open_in n l) (sym s.count ∙ e)) q (open_below_lem n l.marks q t)))) (λ t. t)

    pub peeling_done : left ≡ 0 → Told n c old l true
    unfolding peels_away
    peeling_done e =
        record {
          answer = sym (below_in n _ (λ q h. not_in (gone q)));
          marks = marks_told (fun_ext (λ q. gone q ∙ sym (shut_all e q)));
        }
      where
        gone : (q : ℕ) → peeled cs n o₀ q ≡ false
        gone q =
            bit (peeled cs n o₀ q)
            (λ t. never (peeled_less cs (n - k) (open_in n l) q (sym (ap (λ (f : Qubits). f q) rest_of_lem) ∙ t)) (shut_all e q)) (λ t. t)

    pub peeling_stuck : 0 < left → dangling (open_in n l) cs ≡ none → Told n c old l false
    unfolding peels_away
    peeling_stuck more none_left =
        let same : peeled cs n o₀ ≡ open_in n l = rest_of_lem ∙ peeled_stays cs (n - k) (open_in n l) none_left in
        record {
          answer = sym (ap (λ (f : Qubits). below n (λ q. not (f q))) same ∙ some_open_lem n left l.marks s.count more);
          marks = marks_told same;
        }

    pub peeling_next : 0 < left → (l' : Lists) → OneLess n l.marks l'.marks → Settles n c l l' → Peeling n c old (k + 1) (left - 1) l'
    peeling_next more l' less v =
        record {
          steps = let z = s.steps in omega arith;
          count = let y = s.count in omega (arith, less);
          opened = opened_then;
          marks = λ q. ap (λ (f : ℕ → ℕ). f q) v.marks ∙ bit (eqb v.row.0 q) (λ e. rw e (at q (eqb_eq v.row.0 q e))) (λ e. rw e (s.marks q ∙ off q e));
          ready = v.ready;
        }
      where
        next_is : peeled cs (k + 1) o₀ ≡ put v.row.0 false (open_in n l)
        next_is = peeled_plus cs k 1 o₀ ∙ ap (peeled cs 1) (sym s.opened) ∙ ap (λ (d : Option (ℕ × Check)). peel_step d (open_in n l)) v.dangles

        opened_then : open_in n l' ≡ peeled cs (k + 1) o₀
        opened_then = ap is_open v.marks ∙ open_put v.row.0 2 (view n l.marks) refl ∙ sym next_is

        p_open : open_in n l v.row.0 ≡ true
        p_open = part_open (open_in n l) v.row.1.row v.row.0 [] (dangling_is (open_in n l) cs v.row v.dangles).0

        shut_now : open_in n l' v.row.0 ≡ false
        shut_now = ap (λ (f : Qubits). f v.row.0) (opened_then ∙ next_is) ∙ rw (eq_eqb v.row.0)

        at : (q : ℕ) → v.row.0 ≡ q → 2 ≡ cond (o₀ q && not (peeled cs (k + 1) o₀ q)) 2 (view n old.marks q)
        at q e =
            let was : o₀ q ≡ true = peeled_less cs k o₀ q (ap (λ (f : Qubits). f q) (sym s.opened) ∙ ap (open_in n l) (sym e) ∙ p_open) in
            let now : peeled cs (k + 1) o₀ q ≡ false = ap (λ (f : Qubits). f q) (sym opened_then) ∙ ap (open_in n l') (sym e) ∙ shut_now in
            rw (was, now)

        off : (q : ℕ) → eqb v.row.0 q ≡ false
            → cond (o₀ q && not (peeled cs k o₀ q)) 2 (view n old.marks q) ≡ cond (o₀ q && not (peeled cs (k + 1) o₀ q)) 2 (view n old.marks q)
        off q e =
            let same : peeled cs k o₀ q ≡ peeled cs (k + 1) o₀ q = sym (ap (λ (f : Qubits). f q) next_is ∙ rw e (ap (λ (f : Qubits). f q) s.opened)) in
            ap (λ (b : Bool). cond (o₀ q && not b) 2 (view n old.marks q)) same

----------------------------------------------------------------------
-- The loop, whatever the lists hold

pub record Goes (n : ℕ) (flat ends : List ℕ) (first count : ℕ) (old : Lists) (left : ℕ) (l : Lists) : Type 0 where
  pub stays : Stays n old l
  pub so : (lit : List ℕ) → Ready n (rows_in flat ends first count lit) old → (k : ℕ) × Peeling n (rows_in flat ends first count lit) old k left l

pub record Room (n first count long words : ℕ) : Type 0 where
  pub size : n ≤ 1024
  pub few : count ≤ 512
  pub last : first + count ≤ 1024
  pub marks : n ≤ long
  pub work : 9216 ≤ words

pub room : (n first count marks work : ℕ) → enough? n first count marks work ≡ true → Room n first count marks work
unfolding enough?
room n first count marks work t =
    let a = and_out (leb n 1024 && leb count 512 && leb (first + count) 1024 && leb n marks) (leb 9216 work) t in
    let b = and_out (leb n 1024 && leb count 512 && leb (first + count) 1024) (leb n marks) a.0 in
    let d = and_out (leb n 1024 && leb count 512) (leb (first + count) 1024) b.0 in
    let e = and_out (leb n 1024) (leb count 512) d.0 in
    record { size = leb-true _ _ e.0; few = leb-true _ _ e.1; last = leb-true _ _ d.1; marks = leb-true _ _ b.1; work = leb-true _ _ a.1 }

pub enough_told : (n first count marks work : ℕ) (told : Bool) → told ≡ enough? n first count marks work → not told ≡ false → enough? n first count marks work ≡ true
enough_told n first count marks work told e t = bit (enough? n first count marks work) (λ y. y) (λ y. never (ap not (e ∙ y)) t)

module _ (n : ℕ) (flat ends : List ℕ) (first count : ℕ) (old : Lists) where
  abbrev enough_here : Bool
  enough_here = enough? n first count (length old.marks) (length old.work)

  pub peels_refused : (told : Bool) → told ≡ enough_here → not told ≡ true → Peels n flat ends first count old old false
  peels_refused told e t = record { stays = stays_same n old; refused = λ u. (refl, refl); told = λ u. never u (sym e ∙ not_out told t) }

  pub goes_start : (left : ℕ) → enough_here ≡ true → left ≡ count_marks n old.marks 4 → Goes n flat ends first count old left old
  goes_start left enough e =
      let counted : left ≡ marked n (view n old.marks) 4 = e ∙ rw (le-leb n (length old.marks) (room n first count (length old.marks) (length old.work) enough).marks) in
      record { stays = stays_same n old; so = λ lit ready. (0, peeling_start n (rows_in flat ends first count lit) old left counted ready) }

  module _ (left : ℕ) (l : Lists) (g : Goes n flat ends first count old left l) (enough : enough_here ≡ true) where
    pub peels_done : left ≡ 0 → Peels n flat ends first count old l true
    peels_done e =
        record {
          stays = g.stays;
          refused = λ u. never enough u;
          told = λ u lit ready. let z = g.so lit ready in peeling_done n (rows_in flat ends first count lit) old z.0 left l z.1 e;
        }

    module _ (more : 0 < left) (l' : Lists) (r : Bool) (step : OneStep n flat ends first count l l' r) where
      pub peels_stuck : not r ≡ true → Peels n flat ends first count old l' false
      peels_stuck e =
          record {
            stays = stays_on n old l l' g.stays step.stays;
            refused = λ u. never enough u;
            told = λ u lit ready.
                let z = g.so lit ready in
                let t = peeling_stuck n (rows_in flat ends first count lit) old z.0 left l z.1 more (step.none_dangles (not_out r e) lit z.1.ready) in
                record { answer = t.answer; marks = λ q. ap (λ (x : Lists). view n x.marks q) (step.idle (not_out r e)) ∙ t.marks q };
          }

      pub goes_on : not r ≡ false → Goes n flat ends first count old (left - 1) l'
      goes_on e =
          record {
            stays = stays_on n old l l' g.stays step.stays;
            so = λ lit ready.
                let z = g.so lit ready in
                (z.0 + 1, peeling_next n (rows_in flat ends first count lit) old z.0 left l z.1 more l' (step.one (not-false r e)) (step.settles (not-false r e) lit z.1.ready));
          }
