-- `forms::replacing::without_bit` meets its contract: the word is the one of `closed_bits`. Assumes nothing.
use lib.Pow.{pow_pos}
use Rattle.binary.proofs.WordBits.{one_shl}
use Rattle.forms.proofs.WordBits.{closed_up, closed_bits}
use Rattle.forms.proofs.replacing.without_bit.Goals as goal

pub nonzero_rem-result : goal.nonzero_rem-result
nonzero_rem-result c = rw (one_shl c.args.k c.requires) (pow_pos c.args.k)

pub returns : goal.returns
unfolding closed_up
returns c = closed_bits c.args.word c.args.k c.ranges.word.fits c.requires
