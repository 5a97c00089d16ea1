-- `blocks::one_block` meets its contract. Assumes nothing.
use Rattle.blocks.proofs.Sending.{sent_none, sent_join, stops_not, block_done}
use borrow.Author.Rules.{rules}
use native.Mathlib.Omega.{arith}
use mathlib.Core.Bool.{or-false}
use mathlib.Core.Path.{◌≡◌, refl, sym, ◌∙◌}
use Rattle.blocks.proofs.one_block.Goals as goal

pub loop-b-init : goal.loop-b-init
loop-b-init g c = (sent_none _ _ _ (search rules) (search rules), omega arith, rw (or-false c.args.output.failed) c.next_length.ensures, record { flat = refl; ends = refl; shot = refl; window = refl }, refl, refl)

pub one_buffer-b-requires : goal.one_buffer-b-requires
one_buffer-b-requires g c =
    let l = c.loop-b in
    let h = c.loop-b-test.true in
    let t = stops_not c.is_full-full.result l.b.output.failed l.b.over l.b.next _ l.invariant.2 h in
    record { more = h; next = t.2; goes = t.1; room = rw (l.invariant.4, l.invariant.5) (sym c.is_full-full.ensures ∙ t.0) }

pub loop-b-smaller : goal.loop-b-smaller
loop-b-smaller g c = let r = c.one_buffer-b.ensures.went in omega (arith, r.more, r.within)

pub loop-b-preserved : goal.loop-b-preserved
loop-b-preserved g c =
    let l = c.loop-b in
    let h = c.loop-b-test.true in
    let t = stops_not c.is_full-full.result l.b.output.failed l.b.over l.b.next _ l.invariant.2 h in
    let r = c.one_buffer-b in
    let same = r.ensures.same_passed in
    let old = l.invariant.3 in
    (sent_join l.invariant.0 r.ensures.went.sent, r.ensures.went.within, rw t.0 r.ensures.went.next, record { flat = same.flat ∙ old.flat; ends = same.ends ∙ old.ends; shot = same.shot ∙ old.shot; window = same.window ∙ old.window }, r.auto.out ∙ l.invariant.4, r.auto.places ∙ l.invariant.5)

pub returns : goal.returns
returns g c =
    let l = c.loop-b in
    let n : l.b.next ≡ 0 = omega arith in
    record {
      done = record { sent = l.invariant.0; within = l.invariant.1; left = λ f. block_done c.is_full-full.result l.b.output.failed l.b.over l.b.next _ l.invariant.2 n (c.is_full-full.ensures ∙ f) };
      same_passed = l.invariant.3;
    }
