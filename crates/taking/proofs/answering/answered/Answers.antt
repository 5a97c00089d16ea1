-- `taking::answering::answered` meets its contract. Assumes nothing.
use Rattle.taking.proofs.Answers.{ready_told, record_long}
use lib.ListN.{length}
use mathlib.Core.Path.{refl, ◌∙◌, ap}
use native.Mathlib.Omega.{arith}
use Rattle.taking.proofs.answering.answered.Goals as goal

pub next_record-bytes-requires : goal.next_record-bytes-requires
next_record-bytes-requires g c = c.requires.0

pub bounds-bytes-0 : goal.bounds-bytes-0
bounds-bytes-0 g c = let e = ap length c.next_record-bytes.ensures in omega (arith, e, record_long c.args.p c.args.block.now c.requires.0, c.requires.1)

pub put_lines-put-requires : goal.put_lines-put-requires
put_lines-put-requires g c = (c.requires.2.room, c.requires.3, c.requires.4)

pub overflow_add-taken : goal.overflow_add-taken
overflow_add-taken g c = omega (arith, c.requires.0, c.well_formed)

pub overflow_add-noted : goal.overflow_add-noted
overflow_add-noted g c = omega (arith, c.requires.2.place, c.ranges.most)

pub returns : goal.returns
returns g c =
    let n = ap length c.next_record-bytes.ensures ∙ record_long c.args.p c.args.block.now c.requires.0 in
    let l = rw c.next_record-bytes.ensures at c.put_lines-put.ensures in
    record {
      state = refl;
      tally = c.add.ensures ∙ rw n;
      over = c.is_last-over.ensures;
      taken = refl;
      noted = refl;
      text = l.put;
      put = l.ends;
      fits = l.fits;
      ready = ready_told c.args.ended _ c.args.block.now _ c.args.most c.is_full-full.result c.is_full-full.ensures c.next_length.ensures;
    }
