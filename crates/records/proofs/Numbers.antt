-- The refusal given has the lowest number among those whose tests pass; none hangs on the budget. Assumes nothing.
use mathlib.Core.Path.{◌≡◌, refl}
use mathlib.Core.Bool.{Bool}
use Prim.Native.Nat.{ℕ}
use native.Mathlib.Omega.{arith}
use Rattle.records.specs.declared.Refusal.{Refusal}
use Rattle.records.specs.declared.Refusal.TheVariants.{Unknown, Length, Size, Place, Clash, Codeless, Range, Twice, Spoiled, Short, Encoded}
use Rattle.records.specs.Records.{Record, unknown, wrong, size, row, add, report, encodes}
use Rattle.records.specs.History.{History}
use Rattle.records.specs.Table.{refusal_number, tests, refusal, NumberedLaw, AnyBudget}
use Rattle.records.proofs.Lowest.{From, numbered}

-- The tests of each kind of record are listed by number.
ascending : (short : Bool) (six : ℕ → Bool) (r : Record) (a : History) → From refusal_number 0 (tests short six r a)
ascending short six unknown a = (omega arith, tt)
ascending short six wrong a = (omega arith, tt)
ascending short six (size n x z) a = (omega arith, (omega arith, tt))
ascending short six (row p r) a = (omega arith, (omega arith, (omega arith, (omega arith, tt))))
ascending short six (add u k) a = (omega arith, (omega arith, (omega arith, (omega arith, tt))))
ascending short six (report budget limit) a = (omega arith, (omega arith, (omega arith, tt)))
ascending short six (encodes k) a = (omega arith, (omega arith, (omega arith, tt)))

pub lowest_numbered : NumberedLaw
unfolding NumberedLaw refusal
lowest_numbered short six r a = numbered refusal_number 0 (tests short six r a) (ascending short six r a)

pub any_budget : AnyBudget
unfolding refusal
any_budget = record { unused = unused; same = λ short six budget budget' limit a. refl }
  where
    unused : (n : Refusal) → refusal_number n ≡ 10 → ⊥
    unused Unknown e = omega arith
    unused Length e = omega arith
    unused Size e = omega arith
    unused Place e = omega arith
    unused Refusal.Row e = omega arith
    unused Clash e = omega arith
    unused Codeless e = omega arith
    unused Range e = omega arith
    unused Twice e = omega arith
    unused Spoiled e = omega arith
    unused Short e = omega arith
    unused Encoded e = omega arith
