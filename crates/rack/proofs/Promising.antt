-- What the stream and the call for a candidate promise, in plain numbers. Assumes nothing.
use mathlib.Core.Path.{◌≡◌, subst}
use mathlib.Core.List.{List}
use Prim.Native.Nat.{ℕ}
use Rattle.machine.specs.declared.Word.{Word}
use Rattle.records.specs.declared.State.{State}
use Rattle.records.specs.declared.Reply.{Reply}
use Rattle.std.specs.Prelude.{Result}
use Rattle.candidates_meaning.specs.declared.CandidateRefusal.{CandidateRefusal}
use Rattle.machine.specs.declared.LentHalf.{LentHalf}
use Rattle.records.specs.declared.PassedLists.{PassedLists}
use Rattle.records.specs.Lists.{Lent, held, six_of, lent_of}
use Rattle.records.specs.Lent.{lent_by}
use Rattle.records.specs.Promise.{Promise}
use Rattle.candidates_meaning.specs.Asking.{Gives}
use Rattle.plain.specs.declared.RackState.{RackState}
use Rattle.plain.specs.declared.RackReply.{RackReply}
use Rattle.plain.specs.Plain.{state_of, plain_reply, word_of, WordLaw}
use Rattle.plain.proofs.Numbers.{word_back}
use Rattle.rack.specs.Promise.{RackPromise}
use Rattle.rack.specs.Candidates.{plain_candidate, RackGives, RackGivesLaw}

pub rack_promise : (s : RackState) (st : State) (bytes : List ℕ) (old new : Lent) (d : Reply) (r : RackReply) → st ≡ state_of s
    → Promise st bytes old new d → r ≡ plain_reply d → RackPromise s bytes old new r
rack_promise s st bytes old new d r e p n = record { reply = d; promised = rw e at p; numbers = n }

-- What the lists that are lent hold at the end is what the stream left in them.
pub rack_promise_left : (s : RackState) (st : State) (bytes : List ℕ) (old : Lent) (p : PassedLists) (work : List ℕ) (x z : LentHalf)
    (flat ends shot window x-marks x-forms x-correction z-marks z-forms z-correction : List ℕ) (d : Reply) (r : RackReply) → st ≡ state_of s
    → Promise st bytes old (lent_by p work x z) d → r ≡ plain_reply d
    → flat ≡ p.flat.now → ends ≡ p.ends.now → shot ≡ p.shot.now → window ≡ p.window.now
    → x-marks ≡ x.marks.now → x-forms ≡ x.forms.now → x-correction ≡ x.correction.now
    → z-marks ≡ z.marks.now → z-forms ≡ z.forms.now → z-correction ≡ z.correction.now
    → RackPromise s bytes old (lent_of (held flat ends shot) window work (six_of x-marks x-forms x-correction z-marks z-forms z-correction)) r
rack_promise_left s st bytes old p work x z flat ends shot window xm xf xc zm zf zc d r e h n f g i j k l m o q t =
    rw (f, g, i, j, k, l, m, o, q, t) (rack_promise s st bytes old (lent_by p work x z) d r e h n)

pub rack_gives : (n word live : ℕ) (marks forms : List ℕ) (number : ℕ) (w : Word) (old new : List ℕ) (a : Result (Unit {0}) CandidateRefusal) (r : ℕ) → w ≡ word_of word
    → Gives (record { n = n; word = w; live = live; marks = marks; forms = forms; number = number }) old new a → r ≡ plain_candidate a
    → RackGives n word live marks forms number old new r
rack_gives n word live marks forms number w old new a r e g t = record { answer = a; gives = rw e at g; told = t }

pub half_gives : RackGivesLaw
unfolding RackGivesLaw WordLaw
half_gives h n marks forms number old new r g = (
  g.answer,
  subst (λ (w : Word). Gives (record { n = n; word = w; live = h.live; marks = marks; forms = forms; number = number }) old new g.answer) (word_back h.word) g.gives,
  g.told,
)
