-- An open qubit settled in the lists: its mark, its form, and the numbers of the rows on it. Assumes nothing.
use mathlib.Core.Path.{◌≡◌, refl, sym, ap, ◌∙◌, subst, fun_ext}
use mathlib.Core.Bool.{Bool, true, false, ◌&&◌}
use mathlib.Core.List.{List}
use Prim.Native.Nat.{ℕ, ◌≤◌, ◌<◌}
use native.Mathlib.Omega.{arith}
use lib.Dec.{eqb}
use lib.ListN.{length, set, length-set}
use Rattle.binary.specs.Meaning.{Qubits}
use Rattle.binary.proofs.Bits.{bit, never, &&_true, &&_false, eqb_differ}
use Rattle.incidence.specs.Incidence.{number_on, rows_on}
use Rattle.machine.specs.Machine.{Form, is_open, put}
use Rattle.machine.specs.Lists.{view, forms_of}
use Rattle.machine.proofs.Stages.{open_put}
use Rattle.scans.specs.Rows.{RowLists}
use Rattle.scans.proofs.Scanning.{view_set, rest_set}
use Rattle.turns.specs.Turns.{Working, Stays}
use Rattle.trying.specs.Entries.{Tracks, ReadRight, rows_over, RowsSettled}
use Rattle.trying.specs.Turns.{values_of, Ready, ValuePut, SettledAs, QubitSettled}

module _ (n : ℕ) (c₀ : RowLists) (p v : ℕ) (old : Working) (forms' : List ℕ) (below : p < n) (in_marks : p < length old.marks) (w : ValuePut n p v old.forms forms') where
  abbrev marks' : List ℕ
  marks' = set old.marks p 2

  abbrev with_work : List ℕ → Working
  with_work work' = record { marks = marks'; forms = forms'; work = work' }

  stays : (work' : List ℕ) → length work' ≡ length old.work → Stays n old (with_work work')
  stays work' e = record { marks_long = length-set old.marks p 2; forms_long = w.long; work_long = e; marks_rest = rest_set n old.marks p 2 below; forms_rest = w.rest }

  abbrev o : Qubits
  o = is_open (view n old.marks)

  abbrev x : Qubits
  x = values_of n old.forms

  marks_are : view n marks' ≡ put p 2 (view n old.marks)
  marks_are = view_set n old.marks p 2 below in_marks

  open_are : is_open (view n marks') ≡ put p false o
  open_are = ap is_open marks_are ∙ open_put p 2 (view n old.marks) refl

  -- A mark that the qubit has neither before nor after.
  unmarked : (m : ℕ) → eqb 2 m ≡ false → ((q : ℕ) → eqb (view n old.marks q) m ≡ false) → (q : ℕ) → eqb (view n marks' q) m ≡ false
  unmarked m d f q = ap (λ (g : ℕ → ℕ). eqb (g q) m) marks_are ∙ bit (eqb p q) (λ e. rw e d) (λ e. rw e (f q))

  module _ (c : RowLists) (ready : Ready n c old) (is_open_lem : o p ≡ true) where
    forms_are : forms_of n forms' ≡ put p (λ k. eqb v 1 && eqb k 0) (forms_of n old.forms)
    forms_are = w.puts ready.topped (ready.blank p is_open_lem)

    values_are : values_of n forms' ≡ put p (eqb v 1) x
    values_are = fun_ext λ q. ap (λ (g : ℕ → Form). g q 0) forms_are ∙ bit (eqb p q) (λ e. rw e (&&_true (eqb v 1) refl)) (λ e. rw e)

    topped_then : (q k : ℕ) → 0 < k → forms_of n forms' q k ≡ false
    topped_then q k l =
        ap (λ (g : ℕ → Form). g q k) forms_are
        ∙ bit (eqb p q) (λ e. rw (e, eqb_differ k 0 (λ u. absurd (omega arith))) (&&_false (eqb v 1))) (λ e. rw e (ready.topped q k l))

    blank_then : (q : ℕ) → is_open (view n marks') q ≡ true → values_of n forms' q ≡ false
    blank_then q t =
        let u : put p false o q ≡ true = sym (ap (λ (s : Qubits). s q) open_are) ∙ t in
        ap (λ (s : Qubits). s q) values_are ∙ bit (eqb p q) (λ e. never (rw e at u) refl) (λ e. rw e (ready.blank q (rw e at u)))

    settled_as : (work' : List ℕ) → Tracks (put p false o) (put p (eqb v 1) x) c work' × ReadRight p (put p false o) (put p (eqb v 1) x) c
        → SettledAs n c p v old (with_work work')
    settled_as work' z =
        record {
          ready = record {
            tracks = subst (λ (s : Qubits). Tracks s (values_of n forms') c work') (sym open_are) (subst (λ (s : Qubits). Tracks (put p false o) s c work') (sym values_are) z.0);
            topped = topped_then;
            blank = blank_then;
            unguessed = unmarked 3 refl ready.unguessed;
          };
          marks = marks_are;
          forms = forms_are;
          right = subst (λ (s : Qubits). ReadRight p (put p false o) s c) (sym values_are) z.1;
        }

  pub qubit_settled : n ≤ 1024 → number_on c₀.ends p ≤ 14 → (on : List ℕ) → on ≡ rows_on c₀.ends p → (work' : List ℕ) (told : Bool) → RowsSettled p v on c₀.first c₀.count c₀.lit old.work work' told
      → QubitSettled n c₀ p v old (with_work work') told
  qubit_settled size listed on same work' told s =
      record {
        stays = stays work' s.long;
        mark = refl;
        settles = λ t flat good ready is_open_lem.
            settled_as (rows_over flat c₀) ready is_open_lem work'
            (s.settles t flat c₀.ends listed same n size below good o x is_open_lem (ready.blank p is_open_lem) ready.tracks);
      }
