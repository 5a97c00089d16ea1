-- `taking::all_records` meets its contract. Assumes nothing.
use mathlib.Core.Path.{refl, ◌∙◌}
use mathlib.Core.Logic.{inl, inr, ⊎_elim}
use native.Mathlib.Omega.{arith}
use borrow.Author.Rules.{rules}
use lib.ListN.{length-set}
use Rattle.cutting.proofs.Nexts.{next_at}
use Rattle.taking.proofs.Calls.{took_none}
use Rattle.taking.proofs.Loop.{turn_took, turn_going, turn_onward, turn_within}
use Rattle.taking.proofs.all_records.Goals as goal

pub loop-p-init : goal.loop-p-init
loop-p-init g c =
    let s = c in
    (rw (s.requires.0, s.requires.1) (took_none _ _ _ _), s.requires.2, inr (refl, refl), λ h. h, record { flat = refl; ends = refl; shot = refl; window = refl }, refl, search rules, search rules)

pub next_record-bytes-requires : goal.next_record-bytes-requires
next_record-bytes-requires g c =
    let l = c.loop-p in
    let h = c.loop-p-test.true in
    next_at c.args.ended c.args.block.now l.p.taken l.p.next h (l.invariant.1.ready h).next

pub answered-p-requires : goal.answered-p-requires
answered-p-requires g c =
    let l = c.loop-p in
    let h = c.loop-p-test.true in
    let k = c.step-reply.ensures.promised.lengths in
    let d = l.invariant.1.ready h in
    (next_at c.args.ended c.args.block.now l.p.taken l.p.next h d.next, h, rw l.invariant.5 at d, omega (arith, l.invariant.6, k.x.correction), omega (arith, l.invariant.7, k.z.correction))

pub offset_bounds-places-at : goal.offset_bounds-places-at
offset_bounds-places-at g c =
    let l = c.loop-p in
    omega (arith, (l.invariant.1.ready c.loop-p-test.true).place, l.invariant.5)

pub bounds-places-at : goal.bounds-places-at
bounds-places-at g c = (c.loop-p.invariant.1.ready c.loop-p-test.true).place

pub loop-p-smaller : goal.loop-p-smaller
loop-p-smaller g c =
    let l = c.loop-p in
    let h = c.loop-p-test.true in
    let d = l.invariant.1.ready h in
    let r = c.answered-p in
    omega (arith, r.ensures.taken, next_at c.args.ended c.args.block.now l.p.taken l.p.next h d.next)

pub loop-p-preserved : goal.loop-p-preserved
loop-p-preserved g c =
    let l = c.loop-p in
    let h = c.loop-p-test.true in
    let d = l.invariant.1.ready h in
    let n = c.next_record-bytes in
    let s = c.step-reply.ensures.promised in
    let same = c.step-reply.ensures.same_passed in
    let old = l.invariant.4 in
    let r = c.answered-p in (
      turn_took c.args.ended _ l.p r.result c.args.block.now _ _ l.places _ _ _ _ _ l.invariant.0 h d n.ensures s l.invariant.5 r.ensures,
      turn_going c.args.ended _ l.p r.result c.args.block.now _ _ l.places _ _ _ _ _ l.invariant.0 h d n.ensures s l.invariant.5 r.ensures,
      inl (turn_onward c.args.ended _ l.p r.result c.args.block.now _ _ l.places _ _ _ _ _ l.invariant.0 h d n.ensures s l.invariant.5 r.ensures c.args.p.taken (⊎_elim (λ b. inl b) (λ q. inr (q.0, h)) l.invariant.2)),
      λ w. turn_within c.args.ended _ l.p r.result c.args.block.now _ _ l.places _ _ _ _ _ l.invariant.0 h d n.ensures s l.invariant.5 r.ensures,
      record { flat = same.flat ∙ old.flat; ends = same.ends ∙ old.ends; shot = same.shot ∙ old.shot; window = same.window ∙ old.window },
      length-set l.places l.p.noted r.result.put ∙ l.invariant.5,
      s.lengths.x.correction ∙ l.invariant.6,
      s.lengths.z.correction ∙ l.invariant.7,
    )

pub returns : goal.returns
returns g c =
    let l = c.loop-p in
    record {
      filled = record { took = l.invariant.0; put = l.invariant.1.put; noted = l.invariant.1.noted; onward = λ h. ⊎_elim (λ a. a) (λ e. absurd (omega (arith, e.1, c.loop-p-test.false))) l.invariant.2; within = l.invariant.3 };
      same_passed = l.invariant.4;
    }
