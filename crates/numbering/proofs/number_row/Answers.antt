-- `numbering::number_row` meets its contract. Assumes nothing.
use mathlib.Core.Path.{refl, ◌∙◌}
use mathlib.Core.Logic.{inl}
use native.Mathlib.Omega.{arith}
use Rattle.binary.proofs.WordBits.{bit_zero}
use Rattle.numbering.proofs.Counting.{counting_word, row_bits}
use Rattle.numbering.proofs.number_row.Goals as goal

pub loop-k-preserved : goal.loop-k-preserved
loop-k-preserved c =
    let a = c.args in
    let s = c.loop-k.invariant in
    let bits = row_bits a.w a.i c.loop-k.k a.m.now c.loop-k.m (s.0 _ (omega arith)) s.1.stays in
    let done = c.count.ensures in (
      λ j h. done.kept j (inl (omega arith)) ∙ s.0 j h,
      counting_word _ _ _ _ _ _ s.1 (omega arith) _ _ _ _ (λ j h. refl) done (λ b h. bit_zero b) bits,
    )
