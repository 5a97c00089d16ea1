-- A candidate by words: the parity of a form's bits in a mask is the form's value, and the answers to the tests. Assumes nothing.
use Rattle.binary.specs.Bits.{◌⊕◌}
use Rattle.std.specs.Prelude.{Result, Ok, Err}
use mathlib.Core.Path.{◌≡◌, refl, sym, ap, ap₂, ◌∙◌}
use mathlib.Core.Bool.{Bool, true, false, not, ◌&&◌, ◌||◌}
use mathlib.Core.Option.{Option, none, some}
use mathlib.Core.List.{List}
use Prim.Native.Nat.{ℕ, zero, suc, ◌+◌, ◌*◌, ◌/◌, ◌%◌, ◌^◌, ◌≤◌, ◌<◌}
use native.Mathlib.Nat.{pow-succ', lt_of_le_of_lt, lt_of_lt_of_le}
use native.Mathlib.Omega.{arith}
use borrow.Author.Tests.{le-leb, ltb-false, leb-false}
use lib.Bits.{bit_and, and_le_r}
use lib.Count.{ones}
use lib.Dec.{eqb, leb, ltb}
use lib.ListN.{length, get_or}
use lib.Pow.{pow_mono}
use Rattle.binary.specs.Words.{bit}
use Rattle.binary.proofs.Bits.{bit as cases, never, &&_true, or_false}
use Rattle.binary.proofs.WordBits.{bit-bit_and}
use Rattle.binary.proofs.NumberBits.{bit_next, odd_first, odd_next, ones_odd, ones_none}
use Rattle.lists.specs.Filled.{Filled}
use Rattle.machine.specs.Words.{finished?}
use Rattle.machine.specs.Machine.{Form}
use Rattle.machine.specs.Fillings.{dot}
use Rattle.machine.specs.Lists.{form_of, digit}
use Rattle.candidates_meaning.specs.Candidates.{candidate}
use Rattle.machine.proofs.Values.{dot_same}
use Rattle.machine.proofs.FormWords.{form_first, rest_digit}
use Rattle.scans.specs.Scans.{count_marks}
use Rattle.candidates_meaning.specs.declared.CandidateRefusal.{CandidateRefusal}
use Rattle.records.specs.Lowest.{lowest}
use Rattle.candidates_meaning.specs.Asking.{Asked, short?, unfinished?, many?, candidate_tests, candidate_refusal, candidate_answer, CandidateIn, Gives}

----------------------------------------------------------------------
-- The parity of bits

-- Of a number of m bits that are those of two forms together.
parity_dot : (m n : ℕ) (f g : Form) → n < 2 ^ m → ((k : ℕ) → k < m → bit n k ≡ (f k && g k)) → eqb (ones n % 2) 1 ≡ dot m f g
parity_dot zero n f g few e = let z : n ≡ 0 = omega arith in ap (λ (x : ℕ). eqb (ones x % 2) 1) z ∙ ones_none
parity_dot (suc m) n f g few e =
    let l : n < 2 * 2 ^ m = rw pow-succ' at few in
    ones_odd n
    ∙ ap₂ ◌⊕◌ (e 0 (omega arith)) (parity_dot m (n / 2) (λ i. f (suc i)) (λ i. g (suc i)) (omega arith) (λ k i. sym (bit_next n k) ∙ e (suc k) (omega arith)))

-- The bits of a form that are in the mask of a number: the form's value with that choice.
pub mask_value : (live c : ℕ) (forms : List ℕ) (q : ℕ) → live ≤ 8 → c < 2 ^ live
    → ones (bit_and (get_or forms (4 * q) 0) (2 * c + 1)) % 2 ≡ digit (candidate live (form_of forms) c q)
mask_value live c forms q few l =
    rest_digit (ones (bit_and word mask))
    ∙ ap digit (parity_dot (suc live) (bit_and word mask) (form_of forms q) (bit mask) (lt_of_le_of_lt (and_le_r word mask) small) each
    ∙ ap₂ ◌⊕◌ (&&_true (form_of forms q 0) (odd_first c)) (dot_same live (λ i. form_of forms q (suc i)) (λ i. bit mask (suc i)) (bit c) (λ k i. odd_next c k)))
  where
    word : ℕ
    word = get_or forms (4 * q) 0

    mask : ℕ
    mask = 2 * c + 1

    small : mask < 2 ^ suc live
    small = rw (pow-succ' 2 live) (omega arith)

    each : (k : ℕ) → k < suc live → bit (bit_and word mask) k ≡ (form_of forms q k && bit mask k)
    each k i = bit-bit_and word mask k ∙ ap (λ (b : Bool). b && bit mask k) (sym (form_first forms q k (omega arith)))

----------------------------------------------------------------------
-- The tests

-- The answer to three tests.
abbrev told : Bool → Bool → Bool → Result (Unit {0}) CandidateRefusal
told short unfinished many = candidate_answer (lowest (candidate_tests short unfinished many))

given_tests : (short unfinished many : Bool) → told short unfinished many ≡ Ok tt → (short ≡ false) × (unfinished ≡ false) × (many ≡ false)
given_tests true unfinished many e = let z : ◌≡◌ {A = Bool} true false = cc in never refl z
given_tests false true many e = let z : ◌≡◌ {A = Bool} true false = cc in never refl z
given_tests false false true e = let z : ◌≡◌ {A = Bool} true false = cc in never refl z
given_tests false false false e = (refl, refl, refl)

----------------------------------------------------------------------
-- The call

-- What the code's tests and their answer are. Marks that are too short are not counted: then a list is short.
pub record Tested (a : Asked) (long : ℕ) (r : Result (Unit {0}) CandidateRefusal) : Type 0 where
  pub short : Bool
  pub unfinished : Bool
  pub many : Bool
  pub is_short : short ≡ short? a long
  pub counted : unfinished ≡ (not (finished? a.word) || ltb 0 (count_marks a.n a.marks 4))
  pub is_many : many ≡ many? a
  pub answer : r ≡ told short unfinished many

-- What they tell of a call whose candidate is given.
pub record Room (a : Asked) (long : ℕ) : Type 0 where
  pub list : a.n ≤ long
  pub forms : 4 * a.n ≤ length a.forms
  pub live : a.live ≤ 8
  pub number : a.number < 2 ^ a.live

-- The lists that are not short.
module _ (a : Asked) (long : ℕ) (e : short? a long ≡ false) where
  both : ((ltb long a.n || ltb (length a.marks) a.n) ≡ false) × (ltb (length a.forms) (4 * a.n) ≡ false)
  both = or_false (ltb long a.n || ltb (length a.marks) a.n) (ltb (length a.forms) (4 * a.n)) e

  list_long : a.n ≤ long
  list_long = ltb-false long a.n (or_false (ltb long a.n) (ltb (length a.marks) a.n) both.0).0

  marks_long : a.n ≤ length a.marks
  marks_long = ltb-false (length a.marks) a.n (or_false (ltb long a.n) (ltb (length a.marks) a.n) both.0).1

  forms_long : 4 * a.n ≤ length a.forms
  forms_long = ltb-false (length a.forms) (4 * a.n) both.1

module _ {a : Asked} {long : ℕ} {r : Result (Unit {0}) CandidateRefusal} (t : Tested a long r) where
  same_test : short? a long ≡ false → t.unfinished ≡ unfinished? a
  same_test e = t.counted ∙ rw (le-leb a.n (length a.marks) (marks_long a long e))

  same_refusal : lowest (candidate_tests (short? a long) t.unfinished (many? a)) ≡ candidate_refusal a long
  unfolding candidate_refusal
  same_refusal =
      cases (short? a long) (λ e. rw e) (λ e. ap (λ (u : Bool). lowest (candidate_tests (short? a long) u (many? a))) (same_test e))

  same_answer : r ≡ candidate_answer (candidate_refusal a long)
  same_answer = t.answer ∙ ap₂ (λ (s m : Bool). told s t.unfinished m) t.is_short t.is_many ∙ ap candidate_answer same_refusal

  pub given_room : r ≡ Ok tt → Room a long
  given_room e =
      let u = given_tests t.short t.unfinished t.many (sym t.answer ∙ e) in
      let s = sym t.is_short ∙ u.0 in
      let m = or_false (ltb 8 a.live) (leb (2 ^ a.live) a.number) (sym t.is_many ∙ u.2) in
      record {
        list = list_long a long s;
        forms = forms_long a long s;
        live = ltb-false 8 a.live m.0;
        number = leb-false (2 ^ a.live) a.number m.1;
      }

  pub given_number : r ≡ Ok tt → a.number < 256
  given_number e = let z = given_room e in lt_of_lt_of_le z.number (pow_mono {i = a.live} {j = 8} z.live)

-- A refusal writes nothing.
pub gives_none : {a : Asked} {r : Result (Unit {0}) CandidateRefusal} (list : List ℕ) → Tested a (length list) r → (why : CandidateRefusal) → r ≡ Err why → Gives a list list r
gives_none {a} {r} list t why f = record { answer = same_answer t; list = kept (candidate_refusal a (length list)) (same_answer t) }
  where
    kept : (q : Option CandidateRefusal) → r ≡ candidate_answer q → CandidateIn q a list list
    kept (some n) i = refl
    kept none i = let z : ◌≡◌ {A = Bool} true false = cc in never refl z

pub gives_one : {a : Asked} {r : Result (Unit {0}) CandidateRefusal} (old new : List ℕ) → Tested a (length old) r → r ≡ Ok tt → (mask : ℕ) → mask ≡ 2 * a.number + 1
    → Filled (λ q. ones (bit_and (get_or a.forms (4 * q) 0) mask) % 2) a.n old new → Gives a old new r
gives_one {a} {r} old new t g mask m filled = record { answer = same_answer t; list = written (candidate_refusal a (length old)) (same_answer t) }
  where
    written : (q : Option CandidateRefusal) → r ≡ candidate_answer q → CandidateIn q a old new
    written (some n) i = let z : ◌≡◌ {A = Bool} true false = cc in never refl z
    written none i =
        let z = given_room t g in
        record {
          long = filled.long;
          first = λ q l. filled.first q l ∙ rw m (mask_value a.live a.number a.forms q z.live z.number);
          rest = filled.rest;
        }
