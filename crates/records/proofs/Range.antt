-- The range of sizes, and lists that are long enough. Assumes nothing.
--   Small      a code's sizes are document 01's
--   LongLists  the lists of code, shot, window and work have their least lengths; LongHalf: the three lists of a half
use mathlib.Core.Path.{◌≡◌}
use mathlib.Core.Bool.{true, false, ◌&&◌, ◌||◌}
use Prim.Native.Nat.{ℕ, ◌*◌, ◌≤◌}
use borrow.Author.Tests.{leb-true, ltb-false}
use lib.Dec.{leb, ltb}
use lib.ListN.{length}
use Rattle.binary.proofs.Bits.{and_out, or_false}
use Rattle.machine.specs.Lists.{HalfLists}
use Rattle.records.specs.declared.State.{State}
use Rattle.records.specs.History.{Code, Shot}
use Rattle.records.specs.Table.{in_range}
use Rattle.records.specs.Lists.{Lists, short_lists, short_half, Holds}

pub record InRange (n x z : ℕ) : Type 0 where
  pub some : 1 ≤ n
  pub qubits : n ≤ 1024
  pub xs : x ≤ 512
  pub zs : z ≤ 512

pub range_out : (n x z : ℕ) → in_range n x z ≡ true → InRange n x z
range_out n x z t =
    let c = and_out (leb 1 n && leb n 1024 && leb x 512) (leb z 512) t in
    let b = and_out (leb 1 n && leb n 1024) (leb x 512) c.0 in
    let a = and_out (leb 1 n) (leb n 1024) b.0 in
    record { some = leb-true 1 n a.0; qubits = leb-true n 1024 a.1; xs = leb-true x 512 b.1; zs = leb-true z 512 c.1 }

abbrev pub Small : Code → Type 0
Small c = InRange c.n (length c.xs) (length c.zs)

pub small : (c : Code) (s : Shot) (st : State) (l : Lists) → Holds c s st l → Small c
small c s st l v = range_out c.n (length c.xs) (length c.zs) v.range

----------------------------------------------------------------------
-- Lists that are long enough

pub record LongLists (l : Lists) (held size : ℕ) : Type 0 where
  pub flat : 16384 ≤ length l.flat
  pub ends : 16384 ≤ length l.ends
  pub shot : 2048 ≤ length l.shot
  pub window : 2560 ≤ held
  pub work : 10240 ≤ size

pub long_lists : (l : Lists) (window work : ℕ) → short_lists l window work ≡ false → LongLists l window work
unfolding short_lists
long_lists l window work e =
    let flat = ltb (length l.flat) 16384 in
    let ends = ltb (length l.ends) 16384 in
    let shot = ltb (length l.shot) 2048 in
    let a = or_false (flat || ends || shot || ltb window 2560) (ltb work 10240) e in
    let b = or_false (flat || ends || shot) (ltb window 2560) a.0 in
    let d = or_false (flat || ends) shot b.0 in
    let f = or_false flat ends d.0 in
    record { flat = ltb-false _ _ f.0; ends = ltb-false _ _ f.1; shot = ltb-false _ _ d.1; window = ltb-false _ _ b.1; work = ltb-false _ _ a.1 }

pub record LongHalf (n : ℕ) (l : HalfLists) : Type 0 where
  pub marks : n ≤ length l.marks
  pub forms : 4 * n ≤ length l.forms
  pub correction : n ≤ length l.correction

pub long_half : (n : ℕ) (l : HalfLists) → short_half l n ≡ false → LongHalf n l
long_half n l e =
    let a = or_false (ltb (length l.marks) n || ltb (length l.forms) (4 * n)) (ltb (length l.correction) n) e in
    let b = or_false (ltb (length l.marks) n) (ltb (length l.forms) (4 * n)) a.0 in
    record { marks = ltb-false _ _ b.0; forms = ltb-false _ _ b.1; correction = ltb-false _ _ a.1 }
