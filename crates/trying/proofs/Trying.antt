-- A try from its start, and the promise. Assumes nothing.
use mathlib.Core.Path.{◌≡◌, refl, sym, ap, ◌∙◌, subst, fun_ext}
use mathlib.Core.Bool.{Bool, true, false, cond}
use mathlib.Core.Logic.{inr}
use mathlib.Core.Option.{none, some}
use mathlib.Core.List.{List}
use Prim.Native.Nat.{ℕ, suc, ◌+◌, ◌*◌, ◌≤◌}
use native.Mathlib.Omega.{arith}
use lib.Dec.{leb}
use lib.ListN.{length}
use borrow.Author.Tests.{leb-true}
use Rattle.std.specs.Prelude.{Option, Some}
use Rattle.binary.specs.Meaning.{Qubits, no_qubit}
use Rattle.binary.proofs.Bits.{and_out}
use Rattle.lists.specs.Cleared.{Cleared}
use Rattle.machine.specs.Machine.{Form, on, is_open, blank, stage, freest, run}
use Rattle.machine.specs.Lists.{view, forms_of}
use Rattle.scans.specs.Rows.{RowLists, row_checks, GoodRows}
use Rattle.scans.specs.Half.{sized?}
use Rattle.kept.specs.Kept.{Finds}
use Rattle.closing.specs.Closing.{LitClosed}
use Rattle.turns.specs.Turns.{Working, Stays, run_from}
use Rattle.turns.specs.Runs.{end_of}
use Rattle.turns.specs.Lent.{Room}
use Rattle.turns.proofs.Stays.{stays_on}
use Rattle.turns.proofs.Marked.{blank_forms}
use Rattle.trying.specs.declared.TryAnswer.{TryAnswer}
use Rattle.trying.specs.Entries.{Tracks, rows_over}
use Rattle.trying.specs.Start.{RowsCleared, AllOpened, MarkedOpened}
use Rattle.trying.specs.Turns.{values_of, Ready, Reaches, RunTries}
use Rattle.trying.specs.Trying.{Given, enough?, Tried}
use Rattle.trying.proofs.Starting.{dangling_found}
use Rattle.trying.proofs.Peeling.{kept_of_lem}

----------------------------------------------------------------------
-- The start

module _ (n : ℕ) (c : RowLists) (limit fixed : ℕ) (old : Working) (forms₁ work₁ work₃ : List ℕ) (w₂ : Working) (cleared : Cleared 0 (4 * n) old.forms forms₁)
    (none_open_lem : RowsCleared c.count old.work work₁) (x : Option ℕ) (opened : MarkedOpened n c (record { marks = old.marks; forms = forms₁; work = work₁ }) w₂ x) (as_long : length work₃ ≡ length w₂.work) where
  abbrev begun : Working
  begun = record { marks = old.marks; forms = forms₁; work = work₃ }

  abbrev rows : List ℕ → RowLists
  rows flat = rows_over flat c

  stays_begun : Stays n old begun
  stays_begun = record {
    marks_long = refl;
    forms_long = cleared.long;
    work_long = as_long ∙ opened.long ∙ none_open_lem.long;
    marks_rest = λ q h. refl;
    forms_rest = λ i h. cleared.outside i (inr h);
  }

  abbrev o : Qubits
  o = is_open (view n old.marks)

  clear : forms_of n forms₁ ≡ (λ q k. false)
  clear = blank_forms n old.forms forms₁ cleared

  module _ (number : ℕ) (is : x ≡ Some number) (told : Bool) (tells : LitClosed c.lit c.first c.count work₃ told) (dark : told ≡ false) (long : 10240 ≤ length w₂.work) (few : c.count ≤ 512)
      (room : c.first + c.count ≤ length c.lit) (found : Finds c.count w₂.work work₃) where
    all : AllOpened n c old.marks work₁ w₂.work number
    all = opened.all number is

    module _ (flat : List ℕ) (good : GoodRows n (rows flat)) (given : Given n fixed old.marks) where
      ready : Ready n (rows flat) begun
      ready = record {
        tracks = subst (λ (f : ℕ → Form). Tracks o (λ q. f q 0) (rows flat) work₃) (sym clear)
            (dangling_found o no_qubit (rows flat) w₂.work work₃ (omega arith) few found (all.entries flat good (none_open_lem.entries (rows flat) refl)));
        topped = λ q k l. ap (λ (f : ℕ → Form). f q k) clear;
        blank = λ q e. ap (λ (f : ℕ → Form). f q 0) clear;
        unguessed = given.unguessed;
      }

      -- No closed row is lit: the machine starts so.
      same : (budget : ℕ) → run_from n (rows flat) budget limit (suc limit) begun 0 0 ≡ end_of n (rows flat) budget limit old
      unfolding run_from
      same budget =
          ap (run (row_checks (rows flat)) n (freest (row_checks (rows flat)) n) budget limit (suc limit))
          (sym (ap (stage (view n old.marks) 0)
          (tells.taken room (omega arith) few flat c.ends o (kept_of_lem o (values_of n forms₁) (rows flat) work₃ ready.tracks) ∙ ap (λ (b : Bool). cond b none (some blank)) dark)
          ∙ λ i. on (record { mark = view n old.marks; forms = record { form = sym clear i; live = 0 }; turns = 0 })))

    pub tried_run : (new : Working) (r : TryAnswer) → RunTries n c limit fixed number (record w₂ { work = work₃ }) new r → Tried n c limit fixed old new r
    tried_run new r v₂ =
        let v = subst (λ (w : Working). RunTries n c limit fixed number (record { marks = w.marks; forms = w.forms; work = work₃ }) new r) opened.stays v₂ in
        record {
          stays = stays_on n old begun new stays_begun v.stays;
          marks = v.marks;
          within = v.within;
          tells = λ flat good given.
              subst (Reaches n (rows flat) limit new r) (fun_ext (same flat good given)) (v.tells flat good (ready flat good given) given.so_many all.number);
        }

----------------------------------------------------------------------
-- Sizes in range and lists long enough, and the promise

module _ (n : ℕ) (c : RowLists) (l : Working) where
  pub enough_room : enough? n c l ≡ true → Room n c l
  unfolding enough? sized?
  enough_room t =
      let a = and_out _ (leb (4 * n) (length l.forms)) t in
      let b = and_out _ (leb n (length l.marks)) a.0 in
      let e = and_out _ (leb 10240 (length l.work)) b.0 in
      let f = and_out _ (leb (c.first + c.count) (length c.lit)) e.0 in
      let g = and_out _ (leb (c.first + c.count) 1024) f.0 in
      let h = and_out (leb n 1024) (leb c.count 512) g.0 in
      record {
        size = leb-true _ _ h.0;
        marks = leb-true _ _ b.1;
        forms = leb-true _ _ a.1;
        work = leb-true _ _ e.1;
        few = leb-true _ _ h.1;
        read = leb-true _ _ f.1;
        last = leb-true _ _ g.1;
      }
