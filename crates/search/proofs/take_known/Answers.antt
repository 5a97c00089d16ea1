-- `search::take_known` meets its contract. Assumes nothing.
use mathlib.Core.Path.{refl}
use native.Mathlib.Omega.{arith}
use borrow.Author.Rules.{rules}
use Rattle.search.proofs.Knowns.{not_found, none_taken, column_in, as_counted, blank, known_more, knowns_idle, knowns_empty}
use Rattle.search.proofs.take_known.Goals as goal
use Rattle.search.proofs.take_known.Goals.{then-next-gt0+else-top-sizes, else-next-gt0}

pub returns-in_default : goal.returns-in_default
returns-in_default c =
    let l = c.loop in
    let f = not_found c.take_shortest.ensures c.in_default.is in
    knowns_idle _ _ _ _ _ _ _ l.invariant.1 l.invariant.2 l.invariant.0 l.invariant.4 _ (f.none refl)
    (none_taken _ _ _ _ _ _ _ (search rules) (search rules) (search rules) l.invariant.1 (omega (arith, l.invariant.2)) l.invariant.3 f refl)

pub take_column-top-requires : goal.take_column-top-requires
take_column-top-requires c =
    let l = c.loop in
    let f = c.in-Some.ensures in
    let a = c.args in
    let q = column_in a.n a.sizes.words a.sizes.rows l.top l.work _ _ (search rules) (search rules) (search rules) l.invariant.1 (omega (arith, l.invariant.2)) l.invariant.3 f.0 f.1 in
    let p = c.requires.0 in
    ((omega (arith, q, p.0), l.invariant.1, p.2, p.3, p.4, omega (arith, p.5, f.0.long, l.invariant.2)), as_counted a.n a.sizes.words a.sizes.rows l.top l.work _ _ (search rules) (search rules) (search rules) l.invariant.1 (omega (arith, l.invariant.2)) l.invariant.3 f.0 f.1)

pub returns-then-top-sizes : goal.returns-then-top-sizes
returns-then-top-sizes c =
    let l = c.loop in
    let f = c.in-Some.ensures in
    let a = c.args in
    let r = known_more a.n a.sizes.words a.sizes.rows l.top l.work _ _ (search rules) (search rules) (search rules) l.invariant.1 (omega (arith, l.invariant.2)) l.invariant.3 f.0 f.1 _ _ c.take_column-top.ensures l.counter _ _ (omega arith) l.invariant.2 l.invariant.4 in
    knowns_empty _ _ _ _ _ _ _ r.1 r.2 r.0 r.4 c.if-top-sizes.true

pub loop-preserved : goal.loop-preserved
loop-preserved c =
    let l = c.loop in
    let f = c.in-Some.ensures in
    let a = c.args in
    elim c.if-next-gt0.branch [
      | then-next-gt0+else-top-sizes w ↦ rw (w.work-is, w.top-is) (known_more a.n a.sizes.words a.sizes.rows l.top l.work _ _ (search rules) (search rules) (search rules) l.invariant.1 (omega (arith, l.invariant.2)) l.invariant.3 f.0 f.1 _ _ w.take_column-top.ensures _ _ _ (search rules) l.invariant.2 l.invariant.4)
      | else-next-gt0 w ↦ rw (w.work-is, w.top-is) (known_more a.n a.sizes.words a.sizes.rows l.top l.work _ _ (search rules) (search rules) (search rules) l.invariant.1 (omega (arith, l.invariant.2)) l.invariant.3 f.0 f.1 _ _ (blank a.n a.sizes.words a.sizes.rows l.top l.work _ _ (search rules) (search rules) (search rules) l.invariant.1 (omega (arith, l.invariant.2)) l.invariant.3 f.0 f.1 (omega arith)) _ _ _ (search rules) l.invariant.2 l.invariant.4)
    ]
