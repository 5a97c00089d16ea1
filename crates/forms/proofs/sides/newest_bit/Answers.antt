-- `forms::sides::newest_bit` meets its contract: the count of leading zeros finds the highest bit. Assumes nothing.
use native.Mathlib.Omega.{arith}
use Rattle.forms.proofs.WordBits.{zeros_few, newest_top}
use Rattle.forms.proofs.sides.newest_bit.Goals as goal

pub overflow_sub-result : goal.overflow_sub-result
overflow_sub-result c = omega (arith, zeros_few c.args.word c.requires c.ranges.word.fits)

pub returns : goal.returns
returns c = newest_top c.args.word c.requires c.ranges.word.fits
