-- The loop over the peels is the machine's run up to the first guess. Assumes nothing.
use mathlib.Core.Path.{◌≡◌, refl, sym, ap, ap₂, ◌∙◌, subst}
use mathlib.Core.Bool.{Bool, true, false}
use mathlib.Core.Option.{Option, none, some}
use mathlib.Core.List.{List}
use Prim.Native.Nat.{ℕ, suc, ◌+◌, ◌-◌, ◌≤◌, ◌<◌, zero-le}
use native.Mathlib.Omega.{arith}
use native.Mathlib.Numerals.{add-one, lt_of_le_of_ne}
use lib.ListN.{get_or}
use Rattle.binary.specs.Meaning.{Qubits}
use Rattle.binary.proofs.Bits.{never, eqb_differ, none_counted, tally_none, tally_same}
use Rattle.machine.specs.declared.Word.{Word}
use Rattle.machine.specs.declared.Word.TheVariants.{Certain, Spent}
use Rattle.machine.specs.declared.HalfReport.{HalfReport}
use Rattle.machine.specs.Machine.{State, on, End, is_open, dangling, none_open, before, freest, run}
use Rattle.machine.specs.Report.{marked}
use Rattle.machine.specs.Lists.{view}
use Rattle.scans.specs.Rows.{RowLists, row_checks, GoodRows}
use Rattle.scans.specs.Scans.{OneLess}
use Rattle.scans.proofs.Scanning.{some_open_lem}
use Rattle.turns.specs.Lists.{state_of}
use Rattle.turns.specs.Turns.{Working, Stays, turn_by, run_from}
use Rattle.turns.specs.Runs.{Ran}
use Rattle.turns.proofs.Stays.{stays_same, stays_on}
use Rattle.turns.proofs.Running.{run_ends, run_goes}
use Rattle.trying.specs.declared.Peel.{Peel}
use Rattle.trying.specs.declared.Peel.TheVariants.{NoRow, Made}
use Rattle.trying.specs.declared.TryAnswer.TheVariants.{Unknown, Left, Over}
use Rattle.trying.specs.Entries.{rows_over}
use Rattle.trying.specs.Turns.{values_of, Ready, reopened, is_fixed, PeeledAs, Peels, Stuck, Reaches, RunTries}
use Rattle.trying.proofs.Peeling.{kept_of_lem}

-- The report of a half that ends certain after so many peels.
abbrev pub certain : ℕ → ℕ → HalfReport
certain fixed turns = record { word = Certain; fixed = fixed; turns = turns; guesses = 0; live = 0 }

-- How the half ends with each budget.
abbrev whole_of : ℕ → RowLists → ℕ → Working → ℕ → End
whole_of n c limit old budget = run_from n c budget limit (suc limit) old 0 0

-- So far: the half that is left to run ends as the whole one. number: how many qubits were open at the start.
pub record Running (n : ℕ) (c : RowLists) (limit number : ℕ) (old l : Working) (turns : ℕ) : Type 0 where
  pub same : (budget : ℕ) → run_from n c budget limit (suc (limit - turns)) l 0 turns ≡ whole_of n c limit old budget
  pub count : number ≡ turns + marked n (view n l.marks) 4
  pub fixed : (q : ℕ) → is_fixed n l.marks q ≡ is_fixed n old.marks q
  pub ready : Ready n c l

----------------------------------------------------------------------
-- The half at hand

module _ (n : ℕ) (c : RowLists) (limit number : ℕ) (old l : Working) (turns : ℕ) (v : Running n c limit number old l turns) where
  abbrev st : State
  st = state_of n l.marks l.forms 0 turns

  abbrev rule : Qubits → Option ℕ
  rule = freest (row_checks c) n

  abbrev whole : ℕ → End
  whole = whole_of n c limit old

  -- A test before a turn ends the half here.
  ends : (budget : ℕ) (w : Word) → before (row_checks c) n rule budget limit st ≡ some w → record { word = w; state = st } ≡ whole budget
  unfolding run_from
  ends budget w e = sym (run_ends (row_checks c) n rule budget limit (limit - turns) st w e) ∙ v.same budget

  finished : turns ≡ number → (fixed : ℕ) → fixed ≡ marked n (view n old.marks) 1 → (budget : ℕ) → Ran n c l (certain fixed number) (whole budget)
  finished e fixed are budget =
      subst (Ran n c l (certain fixed number)) (ends budget Certain (rw (none_counted n (is_open (view n l.marks)) (let z = v.count in omega arith))))
      (record {
        report = λ i. record { word = Certain; fixed = (are ∙ sym (tally_same n _ _ (λ q h. v.fixed q))) i; turns = sym e i; guesses = sym (tally_none n _ v.ready.unguessed) i; live = 0 };
        marks = refl;
        forms = λ j. refl;
        kept = λ j. record { rows = kept_of_lem (is_open (view n l.marks)) (values_of n l.forms) c l.work v.ready.tracks; weights = λ q t. never t (v.ready.unguessed q) };
      })

  module _ (more : turns < number) (early : turns ≡ limit → ⊥) where
    open_now : none_open (row_checks c) n rule st ≡ false
    open_now = some_open_lem n (marked n (view n l.marks) 4) l.marks refl (let z = v.count in omega arith)

    pub stuck : dangling (is_open (view n l.marks)) (row_checks c) ≡ none → Stuck n c limit turns l whole
    stuck e = record { ready = v.ready; rest = v.same; spent = sym (ap (λ (y : End). y.word) (ends 0 Spent (rw (open_now, eqb_differ turns limit early, e)))) }

    -- A turn is made, and the rest of the run follows.
    pub goes : turns ≤ limit → (l' : Working) → OneLess n l.marks l'.marks → PeeledAs n c l l' → Running n c limit number old l' (turns + 1)
    unfolding run_from turn_by
    goes in-limit l' less z =
        record {
          same = λ budget.
              ap₂ (λ (m k : ℕ). run (row_checks c) n rule budget limit m (on (state_of n l'.marks l'.forms 0 k))) steps (add-one turns)
              ∙ ap (run (row_checks c) n rule budget limit (limit - turns)) (sym (z.comes turns))
              ∙ sym (run_goes (row_checks c) n rule budget limit (limit - turns) st (rw (open_now, eqb_differ turns limit early, z.dangles))) ∙ v.same budget;
          count = let a = v.count in omega (arith, less);
          fixed = λ q. z.fixed q ∙ v.fixed q;
          ready = z.ready;
        }
      where
        steps : suc (limit - (turns + 1)) ≡ limit - turns
        steps = let d = lt_of_le_of_ne in-limit early in omega arith

----------------------------------------------------------------------
-- The loop

pub unknown_reaches : (n : ℕ) (c : RowLists) (limit : ℕ) (new : Working) (whole : ℕ → End) → Reaches n c limit new Unknown whole
unknown_reaches n c limit new whole =
    record { over = λ h i. let z : ◌≡◌ {A = Bool} true false = cc in never refl z; left = λ k i. let z : ◌≡◌ {A = Bool} true false = cc in never refl z }

-- Whatever the lists hold: their lengths, and elements past n, stay.
pub record Goes (n : ℕ) (c : RowLists) (limit fixed number : ℕ) (old l : Working) (turns : ℕ) : Type 0 where
  pub stays : Stays n old l
  pub marks : (q : ℕ) → reopened (get_or l.marks q 0) ≡ reopened (get_or old.marks q 0)
  pub within : turns ≤ limit
  pub so : (flat : List ℕ) → let d = rows_over flat c in GoodRows n d → Ready n d old → fixed ≡ marked n (view n old.marks) 1
      → number ≡ marked n (view n old.marks) 4 → Running n d limit number old l turns

module _ (n : ℕ) (c : RowLists) (limit fixed number : ℕ) (old : Working) where
  abbrev rows : List ℕ → RowLists
  rows flat = rows_over flat c

  pub goes_start : Goes n c limit fixed number old old 0
  goes_start = record {
    stays = stays_same n old;
    marks = λ q. refl;
    within = zero-le;
    so = λ flat good ready f e. record {
      same = λ budget. let z : limit - 0 ≡ limit = omega arith in ap (λ (k : ℕ). run_from n (rows flat) budget limit (suc k) old 0 0) z;
      count = omega arith;
      fixed = λ q. refl;
      ready = ready;
    };
  }

  pub goes_unknown : (new : Working) → Stays n old new → ((q : ℕ) → reopened (get_or new.marks q 0) ≡ reopened (get_or old.marks q 0))
      → RunTries n c limit fixed number old new Unknown
  goes_unknown new s m =
      record { stays = s; marks = m; within = λ k i. let z : ◌≡◌ {A = Bool} true false = cc in never refl z; tells = λ flat good ready f e. unknown_reaches n (rows flat) limit new (whole_of n (rows flat) limit old) }

  module _ (l : Working) (turns : ℕ) (g : Goes n c limit fixed number old l turns) where
    pub goes_over : turns ≡ number → RunTries n c limit fixed number old l (Over (certain fixed number))
    goes_over all =
        record {
          stays = g.stays;
          marks = g.marks;
          within = λ k i. let z : ◌≡◌ {A = Bool} true false = cc in never refl z;
          tells = λ flat good ready f e.
              record {
                over = λ h i.
                    let same : certain fixed number ≡ h = cc in
                    let v = g.so flat good ready f e in (
                      sym (ap (λ (y : HalfReport). y.word) same),
                      λ budget. subst (λ (y : HalfReport). Ran n (rows flat) l y (whole_of n (rows flat) limit old budget)) same
                          (finished n (rows flat) limit number old l turns v all fixed f budget),
                    );
                left = λ k i. let z : ◌≡◌ {A = Bool} true false = cc in never refl z;
              };
        }

    module _ (more : turns < number) (early : turns ≡ limit → ⊥) (l' : Working) (m : Peel) (p : Peels n c l l' m) where
      stays_then : Stays n old l'
      stays_then = stays_on n old l l' g.stays p.stays

      marks_then : (q : ℕ) → reopened (get_or l'.marks q 0) ≡ reopened (get_or old.marks q 0)
      marks_then q = p.marks q ∙ g.marks q

      pub goes_not : RunTries n c limit fixed number old l' Unknown
      goes_not = goes_unknown l' stays_then marks_then

      pub goes_left : m ≡ NoRow → RunTries n c limit fixed number old l' (Left turns)
      goes_left i =
          record {
            stays = stays_then;
            marks = marks_then;
            within = λ k i. let d : turns ≡ k = cc in subst (λ (x : ℕ). x ≤ limit) d g.within;
            tells = λ flat good ready f e.
                record {
                  over = λ h j. let z : ◌≡◌ {A = Bool} true false = cc in never refl z;
                  left = λ k j.
                      let d : turns ≡ k = cc in
                      let v = g.so flat good ready f e in
                      subst (λ (x : ℕ). Stuck n (rows flat) limit x l' (whole_of n (rows flat) limit old)) d
                      (subst (λ (x : Working). Stuck n (rows flat) limit turns x (whole_of n (rows flat) limit old)) (sym (p.idle i))
                      (stuck n (rows flat) limit number old l turns v more early (p.no_row i flat good v.ready)));
                };
          }

      pub goes_on : m ≡ Made → Goes n c limit fixed number old l' (turns + 1)
      goes_on i =
          record {
            stays = stays_then;
            marks = marks_then;
            within = let d = lt_of_le_of_ne g.within early in omega arith;
            so = λ flat good ready f e.
                let v = g.so flat good ready f e in goes n (rows flat) limit number old l turns v more early g.within l' (p.one i) (p.made i flat good v.ready);
          }
