-- A turn by the kept numbers is the machine's. Assumes nothing.
use mathlib.Core.Path.{◌≡◌, refl, sym, ap, ◌∙◌, subst}
use mathlib.Core.Bool.{Bool, true, false, not}
use mathlib.Core.Option.{Option, none, some}
use Rattle.std.specs.Prelude.{Option as Opt, Some, None}
use mathlib.Core.List.{List}
use Prim.Native.Nat.{ℕ, ◌+◌, ◌≤◌, ◌<◌}
use native.Mathlib.Omega.{arith}
use lib.Dec.{eqb}
use lib.ListN.{length, get_or}
use Rattle.binary.specs.Bits.{below}
use Rattle.binary.specs.Meaning.{Qubits}
use Rattle.binary.proofs.Bits.{bit, never, eq_eqb, eqb_differ, below_in, not_in}
use Rattle.code.specs.declared.Qubit.{Qubit}
use Rattle.forms.specs.Forms.{Taken}
use Rattle.turns.specs.declared.Move.{Move}
use Rattle.machine.specs.Machine.{is_open, dangling, best}
use Rattle.machine.specs.Lists.{view}
use Rattle.machine.proofs.Guessing.{best_rule}
use Rattle.scans.specs.Rows.{RowLists, check_in, row_checks, GoodRows}
use Rattle.scans.specs.Scans.{OpenFrom}
use Rattle.scans.proofs.Scanning.{open_below_lem}
use Rattle.kept.specs.Kept.{dangles?, Lowest}
use Rattle.kept.proofs.Same.{kept_same, rows_same}
use Rattle.kept.proofs.Dangling.{dangling_none, found_inside, dangling_found}
use Rattle.guessing.specs.Guessing.{WeighRoom, Weighs, lighter, choice_of, heaviest}
use Rattle.guessing.proofs.Adding.{alone_same}
use Rattle.guessing.proofs.Room.{does_weigh, named_as}
use Rattle.guessing.proofs.Choices.{weighed_rule}
use Rattle.turns.specs.Turns.{Working, Ready, Stays, Turned, peel_by, guess_by, turn_by, WeighedOnce, Guessed, MovedBy, Moved}
use Rattle.turns.proofs.Stays.{stays_same, stays_on}

----------------------------------------------------------------------
-- The qubit that the rule names

-- The qubit that the rule names by the weights is open.
choice_open : (n : ℕ) (work marks : List ℕ) (x : Opt Qubit) (p : Qubit) → x ≡ choice_of (best (lighter work) n (is_open (view n marks))) → x ≡ Some p
    → is_open (view n marks) p.0 ≡ true
choice_open n work marks x p a b = look (best (lighter work) n (is_open (view n marks))) refl
  where
    look : (y : Option ℕ) → best (lighter work) n (is_open (view n marks)) ≡ y → is_open (view n marks) p.0 ≡ true
    look none i = let z : x ≡ None = a ∙ ap choice_of i in let w : ◌≡◌ {A = Bool} true false = cc in never refl w
    look (some q) i =
        let z : x ≡ Some (record { 0 = q }) = a ∙ ap choice_of i in
        let w : p ≡ record { 0 = q } = cc in
        (best_rule (λ o. lighter work) n).names_open (is_open (view n marks)) p.0 (i ∙ ap some (sym (ap (λ (k : Qubit). k.0) w)))

pub choice_named : (n : ℕ) (marks work : List ℕ) (x : Opt Qubit) (p : Qubit) → x ≡ heaviest n marks work → n ≤ 1024 → n ≤ length marks → 10240 ≤ length work → x ≡ Some p
    → is_open (view n marks) p.0 ≡ true
choice_named n marks work x p a size long words b = choice_open n work marks x p (named_as n marks work x size long words a) b

-- Where some qubit is open the rule names one.
choice_some {ℓ} : {A : Type ℓ} (n : ℕ) (work marks : List ℕ) (x : Opt Qubit) → x ≡ choice_of (best (lighter work) n (is_open (view n marks))) → x ≡ None
    → below n (λ q. not (is_open (view n marks) q)) ≡ false → A
choice_some n work marks x a b some_open_lem =
    never (below_in n _ (λ q l. not_in ((best_rule (λ o. lighter work) n).names_one (is_open (view n marks)) (look (best (lighter work) n (is_open (view n marks))) refl) q l))) some_open_lem
  where
    look : (y : Option ℕ) → best (lighter work) n (is_open (view n marks)) ≡ y → best (lighter work) n (is_open (view n marks)) ≡ none
    look none i = i
    look (some q) i = let z : x ≡ Some (record { 0 = q }) = a ∙ ap choice_of i in let w : ◌≡◌ {A = Bool} true false = cc in never refl w

----------------------------------------------------------------------
-- The weights, counted unless they are kept

module _ (n : ℕ) (r : RowLists) (weighed : Bool) (work : List ℕ) where
  pub once_kept : not weighed ≡ false → WeighedOnce n r weighed work work
  once_kept e = record { alone = alone_same n work; weights = λ lit good o inside k w. w (bit weighed (λ t. t) (λ f. never (not_in f) e)) }

  pub once_counted : WeighRoom n r work → (work' : List ℕ) → Weighs n r work work' → WeighedOnce n r weighed work work'
  once_counted room work' v =
      let w = v.weighs (does_weigh n r work room) in record { alone = w.alone; weights = λ lit good o inside k u. w.weighed lit good o inside k }

-- A list that keeps the same of the rows, with the weights.
module _ (n : ℕ) (c : RowLists) (live : ℕ) (weighed : Bool) (old : Working) (work' : List ℕ) (size : n ≤ 1024) (few : c.count ≤ 512)
    (once : WeighedOnce n c weighed old.work work') where
  abbrev pub mid : Working
  mid = record { marks = old.marks; forms = old.forms; work = work' }

  stays_mid : Stays n old mid
  stays_mid = record { marks_long = refl; forms_long = refl; work_long = once.alone.long; marks_rest = λ q h. refl; forms_rest = λ q h. refl }

  module _ (good : GoodRows n c) (ready : Ready n c live weighed old) where
    abbrev o : Qubits
    o = is_open (view n old.marks)

    mid_ready : Ready n c live true mid
    mid_ready = record {
      topped = ready.topped;
      kept = kept_same o c old.work work' few (λ j h. once.alone.below (8192 + j) (omega arith)) (λ j h. once.alone.below (8704 + j) (omega arith)) ready.kept;
      on = rows_same n o o c old.work work' few (λ k h. once.alone.below k (omega arith)) (λ q e. let l = open_below_lem n old.marks q e in (e, omega arith)) ready.on;
      weights = λ e. once.weights c.lit good o (open_below_lem n old.marks) ready.kept ready.weights;
      unguessed = λ e. never refl e;
    }

  module _ (x : Opt Qubit) (a : x ≡ choice_of (best (lighter work') n (is_open (view n old.marks)))) where
    pub guessed_none : x ≡ None → Guessed n c live weighed old mid None
    guessed_none b = record { stays = stays_mid; one = (refl, refl); guesses = λ good ready some_open_lem none_dangles. choice_some n work' old.marks x a b some_open_lem }

    pub guessed_made : (p : Qubit) → x ≡ Some p → (new : Working) (t : Taken) → Turned n c live true (guess_by n c p.0) mid new t → Guessed n c live weighed old new (Some (record { taken = t; weighed = true }))
    unfolding turn_by guess_by
    guessed_made p b new t v =
        record {
          stays = stays_on n old mid new stays_mid v.stays;
          one = v.one;
          guesses = λ good ready some_open_lem none_dangles.
              let r = mid_ready good ready in
              let j = sym (weighed_rule n c (is_open (view n old.marks)) work' few (r.weights refl)) ∙ named (best (lighter work') n (is_open (view n old.marks))) refl in
              let w = v.turns good r in
              record { comes = λ turns. rw (none_dangles, j) (w.comes turns); ready = w.ready };
        }
      where
        named : (y : Option ℕ) → best (lighter work') n (is_open (view n old.marks)) ≡ y → best (lighter work') n (is_open (view n old.marks)) ≡ some p.0
        named none i = let z : x ≡ None = a ∙ ap choice_of i in let w : ◌≡◌ {A = Bool} true false = cc in never refl w
        named (some q) i =
            let z : x ≡ Some (record { 0 = q }) = a ∙ ap choice_of i in
            let w : p ≡ record { 0 = q } = cc in i ∙ ap some (sym (ap (λ (k : Qubit). k.0) w))

----------------------------------------------------------------------
-- A turn

module _ (n : ℕ) (c : RowLists) (budget live : ℕ) (weighed : Bool) (old new : Working) (r : ℕ) (low : Lowest c.count old.work r) (long : 9216 ≤ length old.work) where
  abbrev now_open : Qubits
  now_open = is_open (view n old.marks)

  known : Ready n c live weighed old → (r < c.count → dangles? now_open c r ≡ true) × ((j : ℕ) → j < r → dangles? now_open c j ≡ false)
  known ready = low.lowest long now_open c refl ready.kept

  module _ (h : r < c.count) (row : List ℕ) (is : row ≡ (check_in c r).row) (i : ℕ) (first : OpenFrom now_open row 0 i) where
    at : OpenFrom now_open (check_in c r).row 0 i
    at = subst (λ (x : List ℕ). OpenFrom now_open x 0 i) is first

    -- A dangling row has an open qubit.
    pub moved_shut : length row ≤ i → Moved n c budget live weighed old old None
    moved_shut l =
        record {
          stays = stays_same n old;
          one = (refl, refl);
          by_total = λ z s. refl;
          moves = λ good ready some_open_lem less.
              let k = known ready in let m = found_inside now_open c r h (k.0 h) k.1 i at in let e = ap length is in absurd (omega arith);
        }

    pub moved_peel : (p : ℕ) → p ≡ get_or row i 0 → (t : Taken) → Turned n c live weighed (peel_by n c p (c.first + r)) old new t → Moved n c budget live weighed old new (Some (record { taken = t; weighed = weighed }))
    unfolding turn_by peel_by
    moved_peel p e t v =
        record {
          stays = v.stays;
          one = v.one;
          by_total = λ z s. let d = low.by_total z in absurd (omega arith);
          moves = λ good ready some_open_lem less.
              let k = known ready in
              let d : dangling now_open (row_checks c) ≡ some (p, check_in c r) = dangling_found now_open c r h (k.0 h) k.1 i at ∙ ap (λ (q : ℕ). some (q, check_in c r)) (ap (λ (x : List ℕ). get_or x i 0) (sym is) ∙ sym e) in
              let w = v.turns good ready in
              (rw d, record { comes = λ turns. rw d (w.comes turns); ready = w.ready });
        }

  module _ (h : c.count ≤ r) where
    no_row : Ready n c live weighed old → dangling now_open (row_checks c) ≡ none
    no_row ready = dangling_none now_open c (λ j l. (known ready).1 j (omega arith))

    pub moved_spent : budget ≤ live → Moved n c budget live weighed old old None
    moved_spent l =
        record {
          stays = stays_same n old;
          one = (refl, refl);
          by_total = λ z s. refl;
          moves = λ good ready some_open_lem less. let e : live ≡ budget = omega arith in (refl, rw (no_row ready) (subst (λ (k : ℕ). eqb live k ≡ true) e (eq_eqb live)));
        }

    pub moved_guess : live < budget → (m : Opt Move) → Guessed n c live weighed old new m → Moved n c budget live weighed old new m
    moved_guess l m v = record { stays = v.stays; one = v.one; by_total = λ z s. absurd (omega arith); moves = λ good ready some_open_lem less. go good ready some_open_lem m v }
      where
        go : GoodRows n c → Ready n c live weighed old → below n (λ q. not (now_open q)) ≡ false → (m : Opt Move) → Guessed n c live weighed old new m → MovedBy n c budget live old new m
        go good ready some_open_lem None v = absurd (v.guesses good ready some_open_lem (no_row ready))
        go good ready some_open_lem (Some t) v = (rw (no_row ready) (eqb_differ live budget (λ e. absurd (omega arith))), v.guesses good ready some_open_lem (no_row ready))
