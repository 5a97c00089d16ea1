-- The turns of a try.
--   values_of      the values of the qubits: bit 0 of their forms
--   Ready         the numbers of the rows are right over marks and forms, and no qubit is guessed
--   ValuePut      a qubit's form becomes a plain bit
--   QubitSettled  an open qubit is settled with a value
--   reopened      a mark, that of a peeled qubit open again; is_fixed: a mark is that of a fixed one
--   PeelBy        what a dangling row settles
--   Peels         a turn of the machine, or that no row dangles, told by the number of dangling rows
--   Stuck         the turns led where no row dangles
--   Reaches       what an answer tells of the half
--   RunTries      the turns up to there
use Rattle.std.specs.Prelude.{◌≡◌, Bool, true, false, ◌&&◌, cond, List, ℕ, suc, ◌+◌, ◌*◌, ◌%◌, ◌≤◌, ◌<◌, eqb, length, get_or, set}
use Rattle.std.proofs.Math.Option.{none}
use Rattle.binary.specs.Meaning.{Qubits}
use Rattle.bitsets.specs.Bitsets.{in_set}
use Rattle.machine.specs.declared.Word.TheVariants.{Certain, Spent}
use Rattle.machine.specs.declared.HalfReport.{HalfReport}
use Rattle.machine.specs.Machine.{End, on, is_open, put, dangling, some?}
use Rattle.machine.specs.Report.{marked}
use Rattle.machine.specs.Lists.{view, forms_of, digit, lit?}
use Rattle.forms.specs.Forms.{Topped}
use Rattle.scans.specs.Rows.{RowLists, row_checks, GoodRows}
use Rattle.scans.specs.Scans.{OneLess}
use Rattle.turns.specs.Lists.{state_of}
use Rattle.turns.specs.Turns.{Working, Stays, is_guessed, turn_by, run_from}
use Rattle.turns.specs.Runs.{Ran, rest_of}
use Rattle.trying.specs.declared.Peel.{Peel}
use Rattle.trying.specs.declared.Peel.TheVariants.{NoRow, Made}
use Rattle.trying.specs.declared.TryAnswer.{TryAnswer}
use Rattle.trying.specs.declared.TryAnswer.TheVariants.{Left, Over}
use Rattle.trying.specs.Entries.{Tracks, ReadRight, rows_over}

abbrev pub values_of : ℕ → List ℕ → Qubits
values_of n forms q = forms_of n forms q 0

pub record Ready (n : ℕ) (c : RowLists) (l : Working) : Type 0 where
  pub tracks : Tracks (is_open (view n l.marks)) (values_of n l.forms) c l.work
  pub topped : Topped n 0 l.forms
  pub blank : (q : ℕ) → is_open (view n l.marks) q ≡ true → values_of n l.forms q ≡ false
  pub unguessed : (q : ℕ) → is_guessed n l.marks q ≡ false

-- Of forms without guesses.
pub record ValuePut (n p v : ℕ) (old new : List ℕ) : Type 0 where
  pub long : length new ≡ length old
  pub rest : (i : ℕ) → 4 * n ≤ i → get_or new i 0 ≡ get_or old i 0
  pub puts : Topped n 0 old → forms_of n old p 0 ≡ false → forms_of n new ≡ put p (λ k. eqb v 1 && eqb k 0) (forms_of n old)

-- The rows that this closed read right.
pub record SettledAs (n : ℕ) (c : RowLists) (p v : ℕ) (old new : Working) : Type 0 where
  pub ready : Ready n c new
  pub marks : view n new.marks ≡ put p 2 (view n old.marks)
  pub forms : forms_of n new.forms ≡ put p (λ k. eqb v 1 && eqb k 0) (forms_of n old.forms)
  pub right : ReadRight p (put p false (is_open (view n old.marks))) (values_of n new.forms) c

pub record QubitSettled (n : ℕ) (c : RowLists) (p v : ℕ) (old new : Working) (told : Bool) : Type 0 where
  pub stays : Stays n old new
  pub mark : new.marks ≡ set old.marks p 2
  pub settles : told ≡ true → (flat : List ℕ) → let d = rows_over flat c in GoodRows n d → Ready n d old
      → is_open (view n old.marks) p ≡ true → SettledAs n d p v old new

abbrev pub reopened : ℕ → ℕ
reopened m = cond (eqb m 2) 4 m

abbrev pub is_fixed : ℕ → List ℕ → ℕ → Bool
is_fixed n marks q = eqb (view n marks q) 1

-- However many turns were made before.
pub record PeeledAs (n : ℕ) (c : RowLists) (old new : Working) : Type 0 where
  pub dangles : some? (dangling (is_open (view n old.marks)) (row_checks c)) ≡ true
  pub comes : (turns : ℕ) → turn_by n c (state_of n old.marks old.forms 0 turns) ≡ on (state_of n new.marks new.forms 0 (suc turns))
  pub fixed : (q : ℕ) → is_fixed n new.marks q ≡ is_fixed n old.marks q
  pub ready : Ready n c new

-- What dangling row i settles: the qubit that is the sum of its open ones, which is open, with the row's side.
pub record PeelBy (n : ℕ) (c : RowLists) (l : Working) (i p v : ℕ) : Type 0 where
  pub sum : p ≡ get_or l.work (9216 + i) 0
  pub opened : is_open (view n l.marks) p ≡ true
  pub side : v ≡ (get_or l.work (9728 + i) 0 % 2 + digit (lit? (get_or c.lit (c.first + i) 0))) % 2

-- Whatever the lists hold: a turn settles one open qubit, and where no row dangles nothing is written. That none dangles is answered from the total that is kept, where it
-- is 0, and otherwise only where the set of dangling rows is empty.
pub record Peels (n : ℕ) (c : RowLists) (old new : Working) (r : Peel) : Type 0 where
  pub stays : Stays n old new
  pub by_total : get_or old.work 8200 0 ≡ 0 → r ≡ NoRow
  pub by_set : r ≡ NoRow → (get_or old.work 8200 0 ≡ 0 → ⊥) → (j : ℕ) → j < c.count → in_set old.work 1024 j ≡ false
  pub one : r ≡ Made → OneLess n old.marks new.marks
  pub marks : (q : ℕ) → reopened (get_or new.marks q 0) ≡ reopened (get_or old.marks q 0)
  pub idle : r ≡ NoRow → new ≡ old
  pub no_row : r ≡ NoRow → (flat : List ℕ) → let d = rows_over flat c in GoodRows n d → Ready n d old
      → dangling (is_open (view n old.marks)) (row_checks d) ≡ none
  pub made : r ≡ Made → (flat : List ℕ) → let d = rows_over flat c in GoodRows n d → Ready n d old → PeeledAs n d old new

-- After `made` turns: from here the half goes on as it does from its start, with every budget, and without a guess it is spent.
pub record Stuck (n : ℕ) (c : RowLists) (limit made : ℕ) (l : Working) (whole : ℕ → End) : Type 0 where
  pub ready : Ready n c l
  pub rest : (budget : ℕ) → rest_of n c budget limit made l ≡ whole budget
  pub spent : (whole 0).word ≡ Spent

-- What is answered of a half that ends so with each budget: where it is over, report and lists are those of the end, which is certain, with any; where a qubit is left,
-- the lists are those of the turns made.
pub record Reaches (n : ℕ) (c : RowLists) (limit : ℕ) (new : Working) (r : TryAnswer) (whole : ℕ → End) : Type 0 where
  pub over : (h : HalfReport) → r ≡ Over h → (h.word ≡ Certain) × ((budget : ℕ) → Ran n c new h (whole budget))
  pub left : (made : ℕ) → r ≡ Left made → Stuck n c limit made new whole

-- Of so many fixed and so many open qubits.
pub record RunTries (n : ℕ) (c : RowLists) (limit fixed number : ℕ) (old new : Working) (r : TryAnswer) : Type 0 where
  pub stays : Stays n old new
  pub marks : (q : ℕ) → reopened (get_or new.marks q 0) ≡ reopened (get_or old.marks q 0)
  pub within : (made : ℕ) → r ≡ Left made → made ≤ limit
  pub tells : (flat : List ℕ) → let d = rows_over flat c in GoodRows n d → Ready n d old → fixed ≡ marked n (view n old.marks) 1
      → number ≡ marked n (view n old.marks) 4 → Reaches n d limit new r (λ budget. run_from n d budget limit (suc limit) old 0 0)
