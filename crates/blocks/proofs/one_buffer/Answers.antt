-- `blocks::one_buffer` meets its contract. Assumes nothing.
use Rattle.blocks.proofs.Sending.{buffer_went}
use Rattle.blocks.proofs.one_buffer.Goals as goal

pub flushed-requires : goal.flushed-requires
flushed-requires g c = let f = c.take_records-p.ensures.filled in (f.put, f.noted)

pub returns-clause-went : goal.returns-clause-went
returns-clause-went g c = buffer_went c.args.ended c.args.b c.take_records-p.result _ _ c.args.block.now _ _ c.args.out.now c.args.places.now c.flushed.result c.requires c.take_records-p.ensures.filled c.flushed.ensures
