-- Everything kept of the rows, by rows or by qubits, where sizes are in range and lists long enough. Assumes nothing.
use mathlib.Core.Path.{◌≡◌, ap, ◌∙◌}
use mathlib.Core.Bool.{Bool, true, false, ◌&&◌}
use mathlib.Core.List.{List}
use Prim.Native.Nat.{ℕ, ◌+◌, ◌≤◌}
use native.Mathlib.Omega.{arith}
use lib.Dec.{leb}
use lib.ListN.{length, get_or}
use borrow.Author.Tests.{lt-ltb, leb-true}
use Rattle.binary.proofs.Bits.{never, and_out}
use Rattle.machine.specs.Machine.{is_open}
use Rattle.machine.specs.Lists.{view}
use Rattle.scans.specs.Rows.{RowLists}
use Rattle.kept.proofs.Same.{kept_by}
use Rattle.scans.specs.Half.{sized?}
use Rattle.filling.specs.Filling.{Beyond, KeptTo, QubitsKept, enough?, Room, Fills}

module _ (n : ℕ) (c : RowLists) (marks old new : List ℕ) where
  pub fills_not : enough? n c (length old) ≡ false → new ≡ old → Fills n c marks old new
  fills_not e s =
      record { long = ap length s; past = λ k h. ap (λ (l : List ℕ). get_or l k 0) s; refused = λ t. s; kept = λ t. never t e; rows = λ t. never t e }

  pub fills_qubits : (told : Bool) → told ≡ true → enough? n c (length old) ≡ true → QubitsKept n c.ends c.first c.count c.lit marks old new told → Fills n c marks old new
  fills_qubits told e enough v =
      record { long = v.long; past = v.past; refused = λ t. never enough t; kept = λ t a. (v.kept e c.flat a).0; rows = λ t a. (v.kept e c.flat a).1 }

  pub fills_rows : length new ≡ length old → Beyond old new → enough? n c (length old) ≡ true → c.count ≤ 512 → KeptTo c.count n c marks new → Fills n c marks old new
  fills_rows same past enough few k =
      record {
        long = same;
        past = past;
        refused = λ t. never enough t;
        kept = λ t a. kept_by (is_open (view n marks)) c new k.counts k.tallied;
        rows = λ t a. record { on = λ q i e h. k.on a q i e (omega arith) ∙ rw (lt-ltb i c.count h) };
      }

room : (n : ℕ) (c : RowLists) (work : ℕ) → enough? n c work ≡ true → Room n c work
unfolding enough? sized?
room n c work t =
    let d = and_out (leb n 1024 && leb c.count 512 && leb (c.first + c.count) 1024 && leb (c.first + c.count) (length c.lit)) (leb 9216 work) t in
    let e = and_out (leb n 1024 && leb c.count 512 && leb (c.first + c.count) 1024) (leb (c.first + c.count) (length c.lit)) d.0 in
    let f = and_out (leb n 1024 && leb c.count 512) (leb (c.first + c.count) 1024) e.0 in
    let g = and_out (leb n 1024) (leb c.count 512) f.0 in
    record { size = leb-true _ _ g.0; few = leb-true _ _ g.1; last = leb-true _ _ f.1; words = leb-true _ _ d.1; lit = leb-true _ _ e.1 }

pub room_same : (n : ℕ) (c : RowLists) (long long' : ℕ) → long' ≡ long → Room n c long → Room n c long'
room_same n c long long' e r = rw e r

-- As it is told of the half and of the work list.
pub enough_told : (n : ℕ) (c : RowLists) (work : ℕ) (told b : Bool) → told ≡ sized? n c → told && leb 9216 work ≡ b → enough? n c work ≡ b
unfolding enough?
enough_told n c work told b e t = rw (← e) t

pub room_told : (n : ℕ) (c : RowLists) (work : ℕ) (told : Bool) → told ≡ sized? n c → told && leb 9216 work ≡ true → Room n c work
room_told n c work told e t = room n c work (enough_told n c work told true e t)
