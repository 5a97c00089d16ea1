-- `search::take_if_lost` meets its contract. Assumes nothing.
use mathlib.Core.Bool.{◌&&◌}
use native.Mathlib.Omega.{arith}
use lib.Dec.{leb}
use Rattle.binary.proofs.Bits.{tally_few}
use Rattle.packing.specs.Packed.{cell}
use Rattle.search.proofs.Losts.{not_lost, lost_blank, lost_marked}
use borrow.Author.Rules.{rules}
use Rattle.search.proofs.take_if_lost.Goals as goal

pub returns-then-lost-q-ne1 : goal.returns-then-lost-q-ne1
returns-then-lost-q-ne1 c = not_lost _ _ _ _ _ _ _ _ (search rules) (search rules) (search rules) c.if-lost-q-ne1.true

pub take_column-next-requires : goal.take_column-next-requires
take_column-next-requires c =
    let a = c.args in
    let p = c.requires in
    ((omega (arith, p.0, p.2.0), p.1, p.2.2, p.2.3, p.2.4, p.2.5), tally_few a.sizes.rows (λ i. leb a.top i && cell a.work.now a.sizes.words i a.q))

pub returns-then-next-top : goal.returns-then-next-top
returns-then-next-top c =
    lost_blank _ _ _ _ _ _ _ _ (search rules) (search rules) (search rules) c.if-lost-q-ne1.false _ _ c.take_column-next.ensures c.if-next-top.true

pub returns : goal.returns
returns c =
    lost_marked _ _ _ _ _ _ _ _ (search rules) (search rules) (search rules) c.if-lost-q-ne1.false _ _ c.take_column-next.ensures c.if-next-top.false (search rules)
