-- The answer to a record. Assumes nothing.
use mathlib.Core.Path.{◌≡◌, refl, sym, ◌∙◌, ap}
use mathlib.Core.Bool.{Bool, true, false, cond, ◌||◌, or-false}
use mathlib.Core.List.{List}
use Prim.Native.Nat.{ℕ, ◌+◌, ◌≤◌, ◌<◌}
use native.Mathlib.Omega.{arith}
use borrow.Author.Tests.{le-leb}
use lib.ListN.{length, length-drop, drop}
use lib.Seq.{sets, length-take-le, drop-drop}
use Rattle.std.specs.Prelude.{Option, None, Some, is_some, IfSome, unwrap_or}
use Rattle.binary.proofs.Bits.{never}
use Rattle.records.specs.declared.State.{State}
use Rattle.records.specs.declared.Reply.{Reply}
use Rattle.claim.specs.Calls.{Passed, passed_of, Step}
use Rattle.counts.specs.declared.Tally.{Tally}
use Rattle.lines.specs.Lines.{room_for, Lined}
use Rattle.cutting.specs.Room.{answer_most, is_full}
use Rattle.cutting.proofs.Full.{not_full}
use Rattle.taking.specs.declared.Progress.{Progress}
use Rattle.cutting.specs.Cutting.{next_of}
use Rattle.taking.specs.Taking.{next}
use Rattle.taking.specs.Progress.{begin_of, stand_of, record_at, Ready, Going, PutAll, Answered}

-- The next record's bytes are as many as it says.
pub record_long : (p : Progress) (block : List ℕ) → p.taken + p.next ≤ length block → length (record_at p block) ≡ p.next
record_long p block h =
    length-take-le p.next (drop p.taken block) (omega (arith, length-drop p.taken block))

-- There is room for every answer.
room_most : (n : ℕ) (x z : List ℕ) → length x ≤ 1024 → length z ≤ 1024 → room_for n x z ≤ answer_most
unfolding room_for
room_most n x z a b = omega arith

-- So the lines of an answer are put.
pub put_all : (n at : ℕ) (text x z old new : List ℕ) (r : Option ℕ) (end : ℕ) → at + answer_most ≤ length old → length x ≤ 1024 → length z ≤ 1024
    → Lined text (room_for n x z) at old new r → end ≡ unwrap_or r at → PutAll text at old new end
put_all n at text x z old new r end room lx lz l e = by r e told l.put
  where
    told : is_some r ≡ true
    told = l.told ∙ le-leb (at + room_for n x z) (length old) (omega (arith, room_most n x z lx lz))

    by : (o : Option ℕ) → end ≡ unwrap_or o at → is_some o ≡ true → IfSome o (λ e. (new ≡ sets old at text) × (e ≡ at + length text) × (e ≤ length old))
        → PutAll text at old new end
    by None e t h = never t refl
    by (Some m) e t h = record { put = h.0; ends = e ∙ h.1; fits = rw e h.2 }

-- Another record is taken only where nothing stops that.
pub going : (full over : Bool) (n m : ℕ) → n ≡ cond (full || over) 0 m → 0 < n → (full ≡ false) × (over ≡ false) × (n ≡ m)
going true over n m e h = absurd (omega arith)
going false true n m e h = absurd (omega arith)
going false false n m e h = (refl, refl, e)

-- Room is left where nothing says that there is none.
-- Another record is ready where nothing stops it.
pub ready_told : (e : Bool) (r : Progress) (block out : List ℕ) (most : ℕ) (full : Bool) → full ≡ is_full r.put (length out) r.noted most → r.next ≡ cond (full || r.over) 0 (next_of e (drop r.taken block)) → 0 < r.next → Ready e r block out most
ready_told e r block out most full f n h =
    let g = going full r.over r.next (next_of e (drop r.taken block)) n h in
    let l = not_full r.put (length out) r.noted most (sym f ∙ g.0) in
    record { goes = g.1; next = g.2; room = l.0; place = l.1 }

-- Nothing is put yet.
pub begin_ready : (st : State) (tally : Tally) (from : ℕ) (ended : Bool) (block out places : List ℕ) → Going ended (begin_of st tally from ended block (length out) (length places)) block out places
begin_ready st tally from ended block out places =
    record {
      put = omega arith;
      noted = omega arith;
      ready = ready_told ended (begin_of st tally from ended block (length out) (length places)) block out (length places) (is_full 0 (length out) 0 (length places)) refl (rw (or-false (is_full 0 (length out) 0 (length places))));
    }

-- Where the program stands after the answer.
pub answered_stand : (e : Bool) (p r : Progress) (reply : Reply) (block x z old new : List ℕ) (most : ℕ) (k : Step) (l : Passed) → p.next ≡ next_of e (drop p.taken block) → p.taken + p.next ≤ length block → k.bytes ≡ record_at p block → k.reply ≡ reply → Answered e p reply block x z old new most r → stand_of r (passed_of k.left) block ≡ next e (stand_of p l block) k
answered_stand e p r reply block x z old new most k l n h b y a =
    let m : length k.bytes ≡ p.next = ap length b ∙ record_long p block h in
    rw (a.state, a.tally, a.over, a.taken, m, y, sym n, drop-drop p.next p.taken block)
