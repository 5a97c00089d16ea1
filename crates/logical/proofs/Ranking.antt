-- The rank of rows, by the search with every column lost. Assumes nothing.
use mathlib.Core.Path.{◌≡◌, refl, sym, ap, ◌∙◌, fun_ext}
use mathlib.Core.Bool.{Bool, true, false}
use mathlib.Core.Logic.{⊎_elim}
use mathlib.Core.List.{List}
use Prim.Native.Nat.{ℕ, ◌+◌, ◌≤◌, ◌<◌}
use native.Mathlib.Omega.{arith}
use borrow.Author.Tests.{lt-ltb, le-ltb, le-leb, leb-true}
use Rattle.std.specs.Prelude.{Option, Some, None}
use lib.Dec.{ltb, leb}
use lib.ListN.{length, get_or}
use Rattle.binary.specs.Meaning.{Qubits, Row}
use Rattle.binary.specs.Rank.{rank}
use Rattle.binary.specs.Words.{listed}
use Rattle.binary.proofs.Bits.{bit, and_out}
use Rattle.binary.proofs.WordBits.{order}
use Rattle.code.specs.Lists.{rows_from}
use Rattle.packing.specs.PackedRows.{RowsPut, PackedFrom}
use Rattle.packing.proofs.PackedRows.{rows_count, room_for_in}
use Rattle.search.specs.declared.Cleared.{Cleared}
use Rattle.search.specs.Route.{route}
use Rattle.search.specs.Marked.{enough, Marked}
use Rattle.search.specs.Ranks.{ClearedRank}
use Rattle.search.proofs.Stands.{columns_long}
use Rattle.search.proofs.Ranks.{cleared_rank}
use Rattle.records.specs.declared.Sizes.{Sizes}
use Rattle.logical.specs.Logical.{Few, few?, RankOf, RanksOf}

-- Every qubit is lost.
all_listed : (n : ℕ) (lost : List ℕ) → n ≤ 1024 → ((q : ℕ) → q < 1024 → get_or lost q 0 ≡ 1) → listed n lost ≡ (λ q. ltb q n)
unfolding listed
all_listed n lost small ones =
    fun_ext (λ q. ⊎_elim (λ (l : q < n). rw (lt-ltb q n l, ones q (omega arith))) (λ (l : n ≤ q). rw (le-ltb q n l)) (order q n))

module _ (n : ℕ) (flat ends : List ℕ) (first count : ℕ) (lost work work₁ work₂ marks marks' : List ℕ) (b : Bool) (r : Option Cleared)
    (start : first ≤ 512) (lost_long : length lost ≡ 1024) (ones : (q : ℕ) → q < 1024 → get_or lost q 0 ≡ 1)
    (work_long : length work ≡ 10240) (marks_long : length marks ≡ 1024)
    (packs : PackedFrom n flat ends first count work work₁ b) (searches : Marked n count lost work₁ marks work₂ marks' r) where
  abbrev rs : List Row
  rs = rows_from flat ends first count

  -- Sizes of document 01 are searched.
  module _ (sizes : few? n count ≡ true) where
    small : (n ≤ 1024) × (count ≤ 512)
    unfolding few?
    small = let a = and_out (leb n 1024) (leb count 512) sizes in (leb-true n 1024 a.0, leb-true count 512 a.1)

    put : RowsPut n flat ends first count work work₁
    put = packs.put (packs.answer ∙ room_for_in n first count (length work) small.0 small.1 start (omega arith))

    long : enough n count lost work₁ marks ≡ true
    unfolding enough
    long =
        let l = put.long in
        let s = small in
        rw (le-leb n 1024 s.0, le-leb count 512 s.1, le-leb 10240 (length work₁) (omega arith), le-leb n (length lost) (omega (arith, s.0)), le-leb n (length marks) (omega (arith, s.0)))

  -- No others are.
  not_long : few? n count ≡ false → enough n count lost work₁ marks ≡ false
  unfolding few? enough
  not_long e = rw e

  pub unranked : r ≡ None → RankOf n flat ends first count 0
  unranked e = record { few = omega arith; is = λ sizes. let m = searches.made (long sizes) in let z : ◌≡◌ {A = ℕ} 0 1 = cc in absurd (omega arith); none = λ f. refl }

  pub ranked : (c : Cleared) → r ≡ Some c → RankOf n flat ends first count c.all
  unfolding ClearedRank
  ranked c e =
      record {
        few = bit (few? n count) (λ sizes. let f = searches.few c e in let s = small sizes in omega arith) (λ f. searched f);
        is = λ sizes below.
            let m = searches.made (long sizes) in
            let all : m.1 ≡ c.all = cc in
            let s = m.3 rs (rows_count flat ends first count) (put sizes).packed below in
            let cleared = ap length (s.taken ∙ ap (λ (l : Qubits). (route n rs l).columns) (all_listed n lost (small sizes).0 ones)) in
            sym all ∙ sym (columns_long m.1 work₂) ∙ cleared ∙ cleared_rank n rs below;
        none = λ f. searched f;
      }
    where
      searched : {C : Type 0} → few? n count ≡ false → C
      searched f = let s = searches.refused (not_long f) in let z : ◌≡◌ {A = ℕ} 0 1 = cc in absurd (omega arith)

few : (n count : ℕ) → n ≤ 1024 → count ≤ 512 → few? n count ≡ true
unfolding few?
few n count a b = rw (le-leb n 1024 a, le-leb count 512 b)

module _ (to : ℕ) (z : Sizes) (flat ends : List ℕ) (sizes : Few z) where
  pub x_ranked : to ≤ z.x → (r : ℕ) → RankOf z.n flat ends 0 z.x r → RanksOf (ltb z.x to) z flat ends r
  x_ranked e r a = rw (le-ltb z.x to e) (record { few = a.few; are = λ c d. omega (arith, a.is (few z.n z.x sizes.0 sizes.1) c) })

  pub both_ranked : z.x < to → (before r : ℕ) → RanksOf (ltb z.x z.x) z flat ends before → RankOf z.n flat ends z.x z.z r → RanksOf (ltb z.x to) z flat ends (before + r)
  both_ranked e before r a b =
      let x-only : RanksOf false z flat ends before = rw (le-ltb z.x z.x (omega arith)) at a in
      rw (lt-ltb z.x to e) (record { few = omega (arith, x-only.few, b.few); are = λ c d. omega (arith, x-only.are c d, b.is (few z.n z.z sizes.0 sizes.2) d) })

-- With the Z rows, of which there may be none.
pub all_ranked : (z : Sizes) (flat ends : List ℕ) (r : ℕ) → RanksOf (ltb z.x (z.x + z.z)) z flat ends r → RanksOf true z flat ends r
unfolding rank
all_ranked z flat ends r a =
    ⊎_elim (λ (l : z.x < z.x + z.z). rw (lt-ltb z.x (z.x + z.z) l) at a)
    (λ (l : z.x + z.z ≤ z.x).
    let x-only : RanksOf false z flat ends r = rw (le-ltb z.x (z.x + z.z) l) at a in
    let none : z.z ≡ 0 = omega arith in
    record { few = omega (arith, x-only.few); are = λ c d. x-only.are c d ∙ ap (rank z.n (rows_from flat ends 0 z.x) +◌) (sym (ap (λ (k : ℕ). rank z.n (rows_from flat ends z.x k)) none)) })
    (order z.x (z.x + z.z))
