-- `bicycle_codes::put_row` meets its contract. Assumes nothing.
use mathlib.Core.Path.{◌≡◌}
use native.Mathlib.Omega.{arith}
use lib.ListN.{length, length-set}
use borrow.Author.Rules.{rules}
use Rattle.bicycle_codes.proofs.Stores.{six_stores}
use Rattle.bicycle_codes.proofs.put_row.Goals as goal

pub bounds-rows-at-2 : goal.bounds-rows-at-2
bounds-rows-at-2 c = rw (length-set _ _ _) (omega arith)

pub bounds-rows-at-3 : goal.bounds-rows-at-3
bounds-rows-at-3 c = rw (length-set _ _ _, length-set _ _ _) (omega arith)

pub bounds-rows-at-4 : goal.bounds-rows-at-4
bounds-rows-at-4 c = rw (length-set _ _ _, length-set _ _ _, length-set _ _ _) (omega arith)

pub bounds-rows-at-5 : goal.bounds-rows-at-5
bounds-rows-at-5 c = rw (length-set _ _ _, length-set _ _ _, length-set _ _ _, length-set _ _ _) (omega arith)

pub bounds-rows-at-6 : goal.bounds-rows-at-6
bounds-rows-at-6 c = rw (length-set _ _ _, length-set _ _ _, length-set _ _ _, length-set _ _ _, length-set _ _ _) (omega arith)

pub returns : goal.returns
returns c =
    let a = c.args in
    let l : length a.left ≡ 3 = search rules in
    let r : length a.right ≡ 3 = search rules in
    six_stores a.rows.now a.at a.lift a.left a.right l r
