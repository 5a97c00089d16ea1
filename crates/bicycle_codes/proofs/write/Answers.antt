-- `bicycle_codes::write` meets its contract: it is refused, or the X rows and then the Z rows are written. Assumes nothing.
use mathlib.Core.Path.{◌≡◌, refl, sym, ◌∙◌}
use native.Mathlib.Omega.{arith}
use borrow.Author.Rules.{rules}
use Rattle.bicycle_codes.proofs.Answers.{writable, terms_in, refused_writes, writes}
use Rattle.bicycle_codes.proofs.write.Goals as goal

pub returns-in_err-tested : goal.returns-in_err-tested
returns-in_err-tested c =
    let e : c.from_residual.result ≡ c.tested.result = search rules in
    refused_writes _ _ _ _ (e ∙ c.tested.ensures) (e ∙ c.in_err-tested.was)

pub put_rows-requires : goal.put_rows-requires
put_rows-requires c = let v = writable _ _ _ c.tested.ensures c.in_ok-tested.was in (v.small, omega (arith, v.room))

pub back-left-requires : goal.back-left-requires
back-left-requires c = terms_in _ _ (writable _ _ _ c.tested.ensures c.in_ok-tested.was).accepted.second

pub back-right-requires : goal.back-right-requires
back-right-requires c = terms_in _ _ (writable _ _ _ c.tested.ensures c.in_ok-tested.was).accepted.first

pub overflow_mul-l : goal.overflow_mul-l
overflow_mul-l c = let v = writable _ _ _ c.tested.ensures c.in_ok-tested.was in omega (arith, v.small.2)

pub put_rows-requires-2 : goal.put_rows-requires-2
put_rows-requires-2 c = let v = writable _ _ _ c.tested.ensures c.in_ok-tested.was in (v.small, rw c.put_rows.ensures.long (omega (arith, v.room)))

pub returns : goal.returns
returns c =
    writes _ _ _ _ _ _ _ (sym c.in_ok-tested.was ∙ c.tested.ensures) refl c.put_rows.ensures c.back-left.ensures c.back-right.ensures c.put_rows-2.ensures
