-- The candidates of a finished half show each class once. Assumes nothing.
use mathlib.Core.Path.{◌≡◌, ap, ◌∙◌, subst}
use mathlib.Core.Bool.{true, false}
use mathlib.Core.Option.{Option, none, some}
use mathlib.Core.List.{List}
use Prim.Native.Nat.{ℕ, ◌*◌, ◌^◌, ◌≤◌, ◌<◌}
use borrow.Author.Tests.{lt-ltb, le-ltb, le-leb, lt-leb}
use lib.ListN.{length}
use Rattle.binary.proofs.Bits.{tally_none}
use Rattle.machine.specs.declared.HalfReport.{HalfReport}
use Rattle.machine.specs.Words.{finished?}
use Rattle.machine.specs.Machine.{Half, is_open}
use Rattle.machine.specs.Lists.{HalfLists, seen}
use Rattle.candidates_meaning.specs.Candidates.{Candidates}
use Rattle.candidates_meaning.specs.declared.CandidateRefusal.{CandidateRefusal}
use Rattle.candidates_meaning.specs.declared.CandidateRefusal.TheVariants.{Many}
use Rattle.candidates_meaning.specs.Asking.{short?, unfinished?, candidate_refusal, candidate_answer, CandidateIn}
use Rattle.records.proofs.Range.{LongHalf}
use Rattle.claim.specs.Candidates.{asked, ClassesShown}

-- The lists are long enough and no mark is open, so no test passes but, from 2^live on, the last.
module _ (h : Half) (r : HalfReport) (l : HalfLists) (long : LongHalf h.size l) (over : finished? r.word ≡ true)
    (shut : (q : ℕ) → is_open (seen h.size r l).mark q ≡ false) (few : r.live ≤ 8) (c : ℕ) (old : List ℕ) (room : h.size ≤ length old) where
  long_enough : short? (asked h.size r l c) (length old) ≡ false
  long_enough =
      rw (le-ltb (length old) h.size room, le-ltb (length l.marks) h.size long.marks, le-ltb (length l.forms) (4 * h.size) long.forms)

  all_shut : unfinished? (asked h.size r l c) ≡ false
  all_shut = rw (over, tally_none h.size (is_open (seen h.size r l).mark) shut)

  refused_none : c < 2 ^ r.live → candidate_refusal (asked h.size r l c) (length old) ≡ none
  unfolding candidate_refusal
  refused_none i = rw (long_enough, all_shut, le-ltb 8 r.live few, lt-leb (2 ^ r.live) c i)

  refused_many : 2 ^ r.live ≤ c → candidate_refusal (asked h.size r l c) (length old) ≡ some Many
  unfolding candidate_refusal
  refused_many i = rw (long_enough, all_shut, le-ltb 8 r.live few, le-leb (2 ^ r.live) c i)

pub classes_shown : (h : Half) (r : HalfReport) (l : HalfLists) → LongHalf h.size l → finished? r.word ≡ true
    → ((q : ℕ) → is_open (seen h.size r l).mark q ≡ false) → r.live ≤ 8 → Candidates h (seen h.size r l) → ClassesShown h r l
classes_shown h r l long over shut few laws =
    record {
      given = λ c i old new a room g.
          let e = refused_none h r l long over shut few c old room i in
          let filled = subst (λ (q : Option CandidateRefusal). CandidateIn q (asked h.size r l c) old new) e g.list in
          (g.answer ∙ ap candidate_answer e, λ q j. filled.first q j ∙ rw (lt-ltb q h.size j));
      no_other = λ c i old new a room g. g.answer ∙ ap candidate_answer (refused_many h r l long over shut few c old room i);
      classes = laws;
    }
