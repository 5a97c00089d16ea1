-- `bitsets::next_in` meets its contract: the numbers passed are not in the set. Assumes nothing.
use mathlib.Core.Path.{refl}
use Prim.Native.Nat.{◌+◌, ◌*◌, ◌/◌}
use native.Mathlib.Omega.{arith}
use borrow.Author.Rules.{rules}
use Rattle.bitsets.proofs.Searching.{passed_start, passed_end, passed_list, passed_word, few_zeros, passed_beyond, passed_found}
use Rattle.bitsets.proofs.next_in.Goals as goal

pub loop-j-init : goal.loop-j-init
loop-j-init c = (search rules, passed_start _ _ _)

pub returns-then-list-k : goal.returns-then-list-k
returns-then-list-k c =
    passed_list _ _ _ _ refl _ _ c.loop-j.invariant.1 c.if-list-k.true

pub overflow_cast-found : goal.overflow_cast-found
overflow_cast-found c =
    let few = few_zeros c.args.list.now _ c.loop-j.j _ refl _ refl (omega (arith, c.shared_slice_known-1.given (8 * c.args.s + c.loop-j.j / 64))) c.if-rest-ne0.true in search rules

pub overflow_add-found : goal.overflow_add-found
overflow_add-found c =
    let few = few_zeros c.args.list.now _ c.loop-j.j _ refl _ refl (omega (arith, c.shared_slice_known-1.given (8 * c.args.s + c.loop-j.j / 64))) c.if-rest-ne0.true in omega arith

pub returns-then-stop-found : goal.returns-then-stop-found
returns-then-stop-found c =
    passed_beyond _ _ _ _ refl _ refl (omega (arith, c.shared_slice_known-1.given (8 * c.args.s + c.loop-j.j / 64))) c.if-rest-ne0.true _ _ _ c.loop-j.invariant.1 refl c.if-stop-found.true

pub returns-then-rest-ne0 : goal.returns-then-rest-ne0
returns-then-rest-ne0 c =
    passed_found _ _ _ _ refl _ refl (omega (arith, c.shared_slice_known-1.given (8 * c.args.s + c.loop-j.j / 64))) c.if-rest-ne0.true _ _ _ c.loop-j.invariant.1 refl c.loop-j.invariant.0 (search rules)

pub loop-j-preserved : goal.loop-j-preserved
loop-j-preserved c =
    (search rules, passed_word _ _ _ _ refl _ refl _ c.loop-j.invariant.1 (omega arith))

pub returns : goal.returns
returns c = passed_end _ _ _ _ _ c.loop-j.invariant.1 (search rules)
