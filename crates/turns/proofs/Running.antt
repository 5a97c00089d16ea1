-- The loop over the turns is the machine's run. Assumes nothing.
use mathlib.Core.Path.{◌≡◌, refl, sym, ap, ap₂, ◌∙◌, subst}
use mathlib.Core.Bool.{Bool, true, false}
use mathlib.Core.Option.{Option, none, some}
use Rattle.std.specs.Prelude.{Option as Opt, Some, None}
use mathlib.Core.List.{List}
use Prim.Native.Nat.{ℕ, zero, suc, ◌+◌, ◌-◌, ◌≤◌, ◌<◌}
use native.Mathlib.Omega.{arith}
use native.Mathlib.Numerals.{add-one, lt_of_le_of_ne}
use lib.Dec.{eqb}
use Rattle.binary.specs.Meaning.{Qubits, Check}
use Rattle.binary.proofs.Bits.{bit, never, eq_eqb, eqb_differ, none_counted}
use Rattle.machine.specs.declared.Word.{Word}
use Rattle.machine.specs.declared.Word.TheVariants.{Stopped}
use Rattle.forms.specs.Forms.{Taken}
use Rattle.turns.specs.declared.Move.{Move}
use Rattle.turns.specs.declared.Ended.{Ended}
use Rattle.machine.specs.Words.{finished}
use Rattle.machine.specs.Machine.{State, Stage, on, failed, End, is_open, none_open, before, freest, turn, run}
use Rattle.machine.specs.Report.{marked}
use Rattle.machine.specs.Lists.{view}
use Rattle.turns.specs.Lists.{state_of}
use Rattle.scans.specs.Rows.{RowLists, row_checks, GoodRows}
use Rattle.scans.proofs.Scanning.{some_open_lem}
use Rattle.guessing.specs.Guessing.{Weighed}
use Rattle.turns.specs.Turns.{Working, Stays, is_guessed, Ready, StageAs, Turns, turn_by, spent?, SettlesOne, MovedBy, Moved, EndedAs, run_from, RunEnds}
use Rattle.machine.proofs.Runs.{Unsaid}
use Rattle.machine.proofs.Budgets.{FewAt, few_turn}
use Rattle.turns.proofs.Stays.{stays_same, stays_on}

----------------------------------------------------------------------
-- The machine's run

module _ (checks : List Check) (n : ℕ) (choose : Qubits → Option ℕ) (budget limit m : ℕ) (st : State) where
  pub run_ends : (w : Word) → before checks n choose budget limit st ≡ some w → run checks n choose budget limit (suc m) (on st) ≡ record { word = w; state = st }
  unfolding run
  run_ends w e = rw e

  pub run_goes : before checks n choose budget limit st ≡ none
      → run checks n choose budget limit (suc m) (on st) ≡ run checks n choose budget limit m (turn checks n choose st)
  unfolding run
  run_goes e = rw e

pub run_failed : (checks : List Check) (n : ℕ) (choose : Qubits → Option ℕ) (budget limit m : ℕ) (st : State)
    → run checks n choose budget limit m (failed st) ≡ record { word = Word.None; state = st }
unfolding run
run_failed checks n choose budget limit zero st = refl
run_failed checks n choose budget limit (suc m) st = refl

----------------------------------------------------------------------
-- The loop

module _ (n : ℕ) (c : RowLists) (budget limit made : ℕ) (old : Working) (begun : ℕ) where
  abbrev whole : End
  whole = run_from n c budget limit (suc (limit - made)) old begun made

  -- So far: the half that is left to run ends as the whole one.
  pub record Running (l : Working) (live : ℕ) (weighed : Bool) (turns left : ℕ) : Type 0 where
    pub same : run_from n c budget limit (suc (limit - turns)) l live turns ≡ run_from n c budget limit (suc (limit - made)) old begun made
    pub count : left ≡ marked n (view n l.marks) 4
    pub ready : Ready n c live weighed l
    pub few : live ≤ budget

  -- Whatever the lists hold: their lengths, and elements past n, stay.
  pub record Goes (l : Working) (live : ℕ) (weighed : Bool) (turns left : ℕ) : Type 0 where
    pub stays : Stays n old l
    pub within : turns ≤ limit
    pub so : GoodRows n c → Ready n c begun false old → begun ≤ budget → Running l live weighed turns left

  pub goes_start : made ≤ limit → (left : ℕ) → left ≡ marked n (view n old.marks) 4 → Goes old begun false made left
  goes_start within left e = record { stays = stays_same n old; within = within; so = λ good ready few. record { same = refl; count = e; ready = ready; few = few } }

  module _ (l : Working) (live : ℕ) (weighed : Bool) (turns left : ℕ) (g : Goes l live weighed turns left) where
    abbrev st : State
    st = state_of n l.marks l.forms live turns

    abbrev rule : Qubits → Option ℕ
    rule = freest (row_checks c) n

    -- Where a qubit is guessed, the weights are kept.
    weights_at : Running l live weighed turns left → (q : ℕ) → is_guessed n l.marks q ≡ true → Weighed (is_open (view n l.marks)) c l.work
    weights_at v q e = bit weighed (λ t. v.ready.weights t) (λ f. never e (v.ready.unguessed f q))

    -- A test before a turn ends the half here.
    ends : Running l live weighed turns left → (w : Word) → before (row_checks c) n rule budget limit st ≡ some w → EndedAs n c l (record { word = w; turns = turns; live = live }) whole
    unfolding run_from
    ends v w e =
        subst (EndedAs n c l (record { word = w; turns = turns; live = live }))
        (sym (run_ends (row_checks c) n rule budget limit (limit - turns) st w e) ∙ v.same)
        (record { word = refl; turns = refl; live = refl; marks = refl; forms = λ i. refl; kept = λ i. record { rows = v.ready.kept; weights = weights_at v } })

    pub goes_finished : (r : Ended) → r ≡ record { word = finished live; turns = turns; live = live } → left ≡ 0 → RunEnds n c budget limit made begun old l r
    goes_finished r i e =
        record {
          stays = g.stays;
          ends = λ good ready few.
              let v = g.so good ready few in
              subst (λ (x : Ended). EndedAs n c l x whole) (sym i) (ends v (finished live) (rw (none_counted n (is_open (view n l.marks)) (sym v.count ∙ e))));
        }

    module _ (more : 0 < left) where
      open_now : Running l live weighed turns left → none_open (row_checks c) n rule st ≡ false
      open_now v = some_open_lem n left l.marks v.count more

      pub goes_stopped : turns ≡ limit → RunEnds n c budget limit made begun old l (record { word = Stopped; turns = turns; live = live })
      goes_stopped e =
          record {
            stays = g.stays;
            ends = λ good ready few.
                let v = g.so good ready few in ends v Stopped (rw (open_now v, subst (λ (k : ℕ). eqb turns k ≡ true) e (eq_eqb turns)));
          }

      module _ (early : turns ≡ limit → ⊥) (l' : Working) (m : Opt Move) (moved : Moved n c budget live weighed l l' m) where
        moves : GoodRows n c → Running l live weighed turns left → (m' : Opt Move) → m ≡ m' → MovedBy n c budget live l l' m'
        moves good v m' e = subst (MovedBy n c budget live l l') e (moved.moves good v.ready (open_now v) v.few)

        pub goes_spent : m ≡ None → RunEnds n c budget limit made begun old l' (record { word = Word.Spent; turns = turns; live = live })
        goes_spent i =
            record {
              stays = stays_on n old l l' g.stays moved.stays;
              ends = λ good ready few.
                  let v = g.so good ready few in
                  let z = moves good v None i in
                  subst (λ (x : Working). EndedAs n c x (record { word = Word.Spent; turns = turns; live = live }) whole) (sym z.0)
                  (ends v Word.Spent (rw (open_now v, eqb_differ turns limit early, z.1)));
            }

        module _ (x : Move) (is_made : m ≡ Some x) where
          abbrev t : Taken
          t = x.taken

          abbrev keeps : Bool
          keeps = x.weighed

          stays : Stays n old l'
          stays = stays_on n old l l' g.stays moved.stays

          module _ (good : GoodRows n c) (v : Running l live weighed turns left) where
            z : (spent? n c budget live l.marks ≡ false) × Turns n c live keeps (turn_by n c) l l' t
            z = moves good v (Some x) is_made

            unsaid : Unsaid (row_checks c) n rule budget limit st
            unsaid = record { some_open_lem = open_now v; room = eqb_differ turns limit early; free = z.0 }

            -- A turn is made, and the rest of the run follows.
            goes : run (row_checks c) n rule budget limit (limit - turns) (turn (row_checks c) n rule st) ≡ whole
            unfolding run_from
            goes =
                sym (run_goes (row_checks c) n rule budget limit (limit - turns) st (rw (open_now v, eqb_differ turns limit early, z.0))) ∙ v.same

            comes : StageAs n l' (suc turns) t (turn (row_checks c) n rule st)
            unfolding turn_by
            comes = z.1.comes turns

            failed_end : t ≡ None → EndedAs n c l' (record { word = Word.None; turns = turns + 1; live = 0 }) whole
            failed_end e = look (turn (row_checks c) n rule st) refl comes
              where
                look : (s : Stage) → turn (row_checks c) n rule st ≡ s → StageAs n l' (suc turns) t s → EndedAs n c l' (record { word = Word.None; turns = turns + 1; live = 0 }) whole
                look (failed st') i w =
                    subst (EndedAs n c l' (record { word = Word.None; turns = turns + 1; live = 0 }))
                    (sym (run_failed (row_checks c) n rule budget limit (limit - turns) st')
                    ∙ ap (run (row_checks c) n rule budget limit (limit - turns)) (sym i) ∙ goes)
                    (record { word = refl; turns = add-one turns ∙ w.2; live = sym w.3; marks = w.1; forms = λ j. never refl j; kept = λ j. never refl j })
                look (on st') i w = let u : ◌≡◌ {A = Bool} true false = cc in never refl u

            running_on : turns ≤ limit → (now : ℕ) → t ≡ Some now → Running l' now keeps (turns + 1) (left - 1)
            unfolding run_from
            running_on in-limit now e = look (turn (row_checks c) n rule st) refl comes
              where
                look : (s : Stage) → turn (row_checks c) n rule st ≡ s → StageAs n l' (suc turns) t s → Running l' now keeps (turns + 1) (left - 1)
                look (failed st') i w = let u : ◌≡◌ {A = Bool} true false = cc in never refl u
                look (on st') i w =
                    let e' : st'.forms.live ≡ now = cc in
                    let here : state_of n l'.marks l'.forms now (turns + 1) ≡ st' = ap₂ (state_of n l'.marks l'.forms) (sym e') (add-one turns) ∙ w.1 in
                    record {
                      same = ap₂ (run (row_checks c) n rule budget limit) (steps in-limit) (ap on here ∙ sym i) ∙ goes;
                      count = let less = subst (SettlesOne n l l') is_made moved.one in let y = v.count in omega (arith, less);
                      ready = z.1.ready now e;
                      few = subst (λ (k : ℕ). k ≤ budget) e' (subst (FewAt budget) i (few_turn (row_checks c) n rule budget limit st v.few unsaid));
                    }
                  where
                    steps : turns ≤ limit → suc (limit - (turns + 1)) ≡ limit - turns
                    steps w' = let d = lt_of_le_of_ne w' early in omega arith

          pub goes_failed : t ≡ None → RunEnds n c budget limit made begun old l' (record { word = Word.None; turns = turns + 1; live = 0 })
          goes_failed e = record { stays = stays; ends = λ good ready few. failed_end good (g.so good ready few) e }

          pub goes_on : (now : ℕ) → t ≡ Some now → (turns' left' : ℕ) → turns' ≡ turns + 1 → left' ≡ left - 1 → Goes l' now keeps turns' left'
          goes_on now e turns' left' i j =
              rw (i, j) (record {
                stays = stays;
                within = let d = lt_of_le_of_ne g.within early in omega arith;
                so = λ good ready few. running_on good (g.so good ready few) g.within now e;
              })
