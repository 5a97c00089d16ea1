-- What the lists of a half show (document 01, "Lists lent to a decode").
--   lit?         whether a row is lit, by its element; unread?: whether it is unread
--   view         a list read as a function of the qubits below n, and 0 elsewhere
--   form_of       the form that a list of 64-bit words holds for a qubit, four words each; forms_of: those of the first n qubits
--   HalfLists    the three lists lent to a half: marks, forms, correction
--   Past         elements past n stay, and past 4 × n of the forms
--   Shows        the lists hold at each qubit below n what a half shows, and past n what they held
--   seen         what the report and the lists of a decode show
--   SameLengths  lists keep their lengths
use Rattle.std.specs.Prelude.{◌≡◌, Bool, true, false, ◌&&◌, cond, List, ℕ, ◌+◌, ◌*◌, ◌/◌, ◌%◌, ◌^◌, ◌≤◌, ◌<◌, eqb, ltb, length, get_or}
use Rattle.binary.specs.Words.{bit}
use Rattle.machine.specs.declared.HalfReport.{HalfReport}
use Rattle.machine.specs.Machine.{Form}
use Rattle.machine.specs.Report.{Shown}

-- A row's element: 0 read and zero, 1 lit, 2 unread.
abbrev pub lit? : ℕ → Bool
lit? e = eqb e 1

abbrev pub unread? : ℕ → Bool
unread? e = eqb e 2

abbrev pub view : ℕ → List ℕ → ℕ → ℕ
view n l q = cond (ltb q n) (get_or l q 0) 0

-- A form is four 64-bit words, qubit q's from element 4 × q on (document 02, request e): bit k is bit k modulo 64 of word k / 64.
unfoldable pub form_of : List ℕ → ℕ → Form
form_of forms q k = ltb k 256 && bit (get_or forms (4 * q + k / 64) 0) (k % 64)

abbrev pub forms_of : ℕ → List ℕ → ℕ → Form
forms_of n forms q k = ltb q n && form_of forms q k

pub record HalfLists : Type 0 where
  pub marks : List ℕ
  pub forms : List ℕ
  pub correction : List ℕ

-- 0 or 1.
abbrev pub digit : Bool → ℕ
digit true = 1
digit false = 0

-- Of the lists at entry and at exit.
pub record Past (n : ℕ) (old new : HalfLists) : Type 0 where
  pub marks : (q : ℕ) → n ≤ q → get_or new.marks q 0 ≡ get_or old.marks q 0
  pub forms : (i : ℕ) → 4 * n ≤ i → get_or new.forms i 0 ≡ get_or old.forms i 0
  pub correction : (q : ℕ) → n ≤ q → get_or new.correction q 0 ≡ get_or old.correction q 0

-- Of the lists at entry and at exit.
pub record Shows (n : ℕ) (s : Shown) (old new : HalfLists) : Type 0 where
  pub marks : (q : ℕ) → q < n → get_or new.marks q 0 ≡ s.mark q
  pub forms : (q : ℕ) → q < n → (k : ℕ) → form_of new.forms q k ≡ s.form q k
  pub words : (i : ℕ) → i < 4 * n → get_or new.forms i 0 < 2 ^ 64
  pub correction : (q : ℕ) → q < n → get_or new.correction q 0 ≡ digit (s.flip q)
  pub past : Past n old new

abbrev pub seen : ℕ → HalfReport → HalfLists → Shown
seen n r l = record { report = r; mark = view n l.marks; form = forms_of n l.forms; flip = λ q. eqb (view n l.correction q) 1 }

pub record SameLengths (old new : HalfLists) : Type 0 where
  pub marks : length new.marks ≡ length old.marks
  pub forms : length new.forms ≡ length old.forms
  pub correction : length new.correction ≡ length old.correction
