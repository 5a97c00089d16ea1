-- `shots::run::take_block` meets its contract. Assumes nothing.
use Rattle.shots.proofs.Blocks.{block_taken}
use mathlib.Core.Path.{refl}
use Rattle.shots.proofs.run.take_block.Goals as goal

pub shape_of-block : goal.shape_of-block
shape_of-block g c = c.keep.auto.block

pub returns-clause-taken : goal.returns-clause-taken
returns-clause-taken g c =
    let s = c in
    let t = block_taken s.args.here _ _ s.args.block.now _ s.args.read _ c.one_block-b.result c.keep.result s.requires.0 s.requires.1 s.requires.2 c.one_block-b.ensures.done c.keep.ensures c.keep.auto.block in
    record { sent = t.0; held = t.1; left = t.2; ended = refl; over = refl; error = refl }
