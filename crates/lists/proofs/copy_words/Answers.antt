-- `lists::copy_words` meets its contract: so many words are copied. Assumes nothing.
use mathlib.Core.Path.{sym}
use native.Mathlib.Omega.{arith}
use borrow.Author.Rules.{rules}
use Rattle.lists.proofs.Copying.{apart_out}
use Rattle.lists.proofs.copy_words.Goals as goal

pub overflow_add-from : goal.overflow_add-from
overflow_add-from c = let a = apart_out _ _ _ _ (sym c.if-are_apart.ensures) in search rules

pub copy_within-requires-clause-in_bounds : goal.copy_within-requires-clause-in_bounds
copy_within-requires-clause-in_bounds c = (apart_out _ _ _ _ (sym c.if-are_apart.ensures)).source

pub copy_within-requires-clause-dest_in_bounds : goal.copy_within-requires-clause-dest_in_bounds
copy_within-requires-clause-dest_in_bounds c = let a = apart_out _ _ _ _ (sym c.if-are_apart.ensures) in omega (arith, a.target)
