-- The record, by the tests in the table's order. Assumes nothing.
use mathlib.Core.Path.{◌≡◌, refl, sym, ap, ap₂, ◌∙◌, subst}
use mathlib.Core.Bool.{Bool, true, false, not, ◌||◌}
use mathlib.Core.Option.{none, some}
use mathlib.Core.List.{List}
use Prim.Native.Nat.{ℕ, ◌+◌}
use native.Mathlib.Nat.{add_assoc}
use lib.Dec.{eqb}
use borrow.Author.Tests.{not-false}
use Rattle.binary.specs.Meaning.{Below}
use Rattle.binary.specs.Rank.{rank}
use Rattle.binary.proofs.Bits.{never, or_false}
use Rattle.code.proofs.Flat.{rows_first, rows_second}
use Rattle.code.proofs.Order.{rows_below}
use Rattle.records.specs.declared.Sizes.{Sizes}
use Rattle.records.specs.declared.State.{State}
use Rattle.records.specs.declared.Refusal.{Refusal}
use Rattle.records.specs.declared.Refusal.TheVariants.{Codeless, Short, Encoded}
use Rattle.records.specs.declared.Answer.TheVariants.{Taken}
use Rattle.records.specs.declared.Reply.{Reply}
use Rattle.records.specs.Records.{encodes}
use Rattle.records.specs.History.{Code, Shot, History, ready}
use Rattle.records.specs.Table.{in_range, encodes?, refusal}
use Rattle.records.specs.Lists.{held, Holds, Represents}
use Rattle.records.specs.States.{without_code, saying}
use Rattle.records.specs.Steps.{Answered, Does}
use Rattle.records.proofs.HeldStates.{no_code, with_code}
use Rattle.records.proofs.Range.{range_out}
use Rattle.records.proofs.Answers.{answered, answered_refused, says_refused, says_same}
use Rattle.logical.specs.Logical.{Few, RanksOf, Tests}

-- With sizes in range, what is short is a list.
short_of : (a t : Bool) → (a || not t) ≡ true → t ≡ true → a ≡ true
short_of true t e f = refl
short_of false t e f = never e (ap not f)

neither : (a t : Bool) → (a || not t) ≡ false → (a ≡ false) × (t ≡ true)
neither a t e = let z = or_false a (not t) e in (z.0, not-false t z.1)

pub few_sizes : (z : Sizes) (short : Bool) (told : Bool) → told ≡ in_range z.n z.x z.z → (short || not told) ≡ false → Few z
few_sizes z short told t e =
    let r = range_out z.n z.x z.z (sym t ∙ (neither short told e).1) in (r.qubits, r.xs, r.zs)

module _ (short : Bool) (k : ℕ) (st : State) (flat ends : List ℕ) (r : Reply) where
  refuse : (n : Refusal) → r ≡ saying n false st
      → ((six : ℕ → Bool) (shot : List ℕ) (a : History) → Represents a st (held flat ends shot) → refusal short six (encodes k) a ≡ some n) → Tests short k st flat ends r
  unfolding Does
  refuse n e f =
      record {
        says = says_refused (encodes k) st r n e;
        does = λ six shot a h. answered_refused short six (encodes k) a (held flat ends shot) n st r (f six shot a h) h e;
      }

  pub codeless : without_code st.phase ≡ true → r ≡ saying Codeless false st → Tests short k st flat ends r
  unfolding refusal
  codeless e is = refuse Codeless is (λ six shot a h. rw (no_code st (held flat ends shot) a h e))

  module _ (e : without_code st.phase ≡ false) (told : Bool) (t : told ≡ in_range st.sizes.n st.sizes.x st.sizes.z) where
    in_range_lem : (c : Code) (s : Shot) (shot : List ℕ) → Holds c s st (held flat ends shot) → told ≡ true
    in_range_lem c s shot v = t ∙ ap (λ (z : Sizes). in_range z.n z.x z.z) v.sizes ∙ v.range

    pub is_short : (short || not told) ≡ true → r ≡ saying Short false st → Tests short k st flat ends r
    unfolding refusal
    is_short f is =
        refuse Short is (λ six shot. with_code st (held flat ends shot) (λ a. refusal short six (encodes k) a ≡ some Short) e
        (λ c s v. rw (short_of short told f (in_range_lem c s shot v))))

    module _ (f : (short || not told) ≡ false) (ranks : ℕ) (ranked : RanksOf true st.sizes flat ends ranks) where
      together : (c : Code) (s : Shot) (shot : List ℕ) → Holds c s st (held flat ends shot) → ranks ≡ rank c.n c.xs + rank c.n c.zs
      together c s shot v =
          let xs = rows_first c.xs c.zs flat ends v.flat in
          let zs = rows_second c.xs c.zs flat ends v.flat in
          let q = subst (λ (z : Sizes). RanksOf true z flat ends ranks) v.sizes ranked in
          q.are (subst (Below c.n) (sym xs) (rows_below c.n c.xs v.good_xs.ascending)) (subst (Below c.n) (sym zs) (rows_below c.n c.zs v.good_zs.ascending))
          ∙ ap₂ ◌+◌ (ap (rank c.n) xs) (ap (rank c.n) zs)

      -- The ranks are those of the code's rows.
      counted : (c : Code) (s : Shot) (shot : List ℕ) → Holds c s st (held flat ends shot) → encodes? k c ≡ eqb (k + ranks) st.sizes.n
      unfolding encodes?
      counted c s shot v =
          ap₂ eqb (add_assoc k (rank c.n c.xs) (rank c.n c.zs) ∙ ap (k +◌) (sym (together c s shot v))) (sym (ap (λ (z : Sizes). z.n) v.sizes))

      pub differs : eqb (k + ranks) st.sizes.n ≡ false → r ≡ saying Encoded false st → Tests short k st flat ends r
      unfolding refusal
      differs d is =
          refuse Encoded is (λ six shot. with_code st (held flat ends shot) (λ a. refusal short six (encodes k) a ≡ some Encoded) e
          (λ c s v. rw ((neither short told f).0, counted c s shot v, d)))

      pub agrees : eqb (k + ranks) st.sizes.n ≡ true → r ≡ record { state = st; answer = Taken } → Tests short k st flat ends r
      unfolding Does refusal
      agrees d is =
          record {
            says = says_same k st r is;
            does = λ six shot. with_code st (held flat ends shot) (λ a. Answered short six (encodes k) a (held flat ends shot) (held flat ends shot) r) e
                (λ c s v. answered short six (encodes k) (ready c s) (held flat ends shot) (held flat ends shot) r none
                (rw ((neither short told f).0, counted c s shot v, d)) (rw is) (rw is v) refl);
          }
